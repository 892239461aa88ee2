-- `is_at_most` meets its contract. Assumes nothing.
use Rattle.std.proofs.Common.{rules, ◌≡◌, ap, ◌∙◌}
use Rattle.cause.proofs.LineFault.{at_most, at_most_lem}
use Rattle.cause.proofs.is_at_most.Goals as goal

pub returns : goal.returns
returns c =
    let e : c.is_some_and.result ≡ at_most c.args.most c.number.result = search rules in
    e ∙ ap (at_most c.args.most) c.number.ensures ∙ at_most_lem c.args.most c.args.word.now
