-- `judge_text` meets its contract: the net is taken, or refused at a line. Assumes nothing.
use Rattle.std.proofs.Common.{◌≡◌, ◌∙◌, rules}
use Rattle.fault.specs.Faults.{told}
use Rattle.fault.proofs.Judged.{net_told, judged_lem}
use Rattle.fault.proofs.judge_text.Goals as goal

pub returns : goal.returns
returns c =
    let e : told c.map_err.result ≡ net_told c.args.input.now c.judge_net.result = search rules in
    e ∙ judged_lem _ c.judge_net.result _ c.judge_net.ensures
