-- The rows from p on hold. Assumes nothing.
use Rattle.rules.specs.Lent.{lent_graph}
use Rattle.hierarchy.proofs.RowsHold.{Down}
use Rattle.hierarchy.proofs.rows_hold.Given as goal

abbrev pub invariant-loop-p : goal.invariant-loop-p
invariant-loop-p l = Down l.n (lent_graph l.graph) l.p
