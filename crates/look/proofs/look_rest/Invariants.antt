-- `look_rest` meets its contract: one place after the other. Assumes nothing.
use Rattle.rules.specs.Lent.{lent_costs}
use Rattle.look.specs.Looking.{gathered, Looked}
use Rattle.look.proofs.look_rest.Given as goal

abbrev pub invariant-loop-j : goal.invariant-loop-j
invariant-loop-j l =
    Looked l.row_heads (lent_costs l.costs) l.marks l.leg.rise.0 l.leg.fall.0 l.from l.j (gathered l.initial.row) (gathered l.row) l.so_far l.seen
