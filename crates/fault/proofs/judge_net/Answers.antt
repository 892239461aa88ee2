-- `judge_net` meets its contract: the rooms are of noughts, as long as they have to be. Assumes nothing.
use Rattle.std.proofs.Common.{◌≡◌}
use Rattle.text.proofs.Noughts.{in_noughts}
use Rattle.rules.specs.Lent.{lent_net}
use Rattle.rules.specs.Calls.{build_leaves}
use Rattle.rules.specs.Replies.{fill_reply}
use Rattle.fault.specs.Faults.{built_reply, net_reply}
use Rattle.fault.proofs.judge_net.Goals as goal

pub returns : goal.returns
unfolding net_reply
returns c =
    let net = c.args.net.now in
    in_noughts (λ rank G. fill_reply c.judge_built.result ≡ built_reply (lent_net net) (build_leaves net.tails.now net.heads.now net.order.now rank G))
    _ c.requires c.judge_built.ensures
