-- `look_over` meets its contract: four places at a time, and then what is left of the row. Assumes nothing.
use Rattle.std.proofs.Common.{◌+◌, ◌-◌, ◌≤◌}
use Rattle.rules.specs.Lent.{lent_costs}
use Rattle.look.specs.Looking.{gathered, Looked}
use Rattle.look.proofs.look_over.Given as goal

abbrev pub invariant-loop-j : goal.invariant-loop-j
invariant-loop-j l =
    record {
      from : l.i + 1 ≤ l.j;
      within : l.j ≤ l.end;
      looked : Looked l.graph.heads.now (lent_costs l.costs) l.marks l.leg.rise.0 l.leg.fall.0 (l.i + 1) l.j (gathered l.initial.row) (gathered l.row) l.so_far l.seen;
    }

abbrev pub decreases-loop-j : goal.decreases-loop-j
decreases-loop-j l = l.end - l.j
