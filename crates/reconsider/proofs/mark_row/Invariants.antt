-- `mark_row` meets its contract: the rows met mark what they have behind x, one after the other, and no row is missed. Assumes nothing.
use Rattle.rules.specs.Lent.{lent_graph}
use Rattle.reconsider.proofs.Marks.{Rowing}
use Rattle.reconsider.proofs.mark_row.Given as goal

abbrev pub invariant-loop-t : goal.invariant-loop-t
invariant-loop-t l = Rowing (lent_graph l.graph) l.flags l.met.rows l.x l.initial.marks l.t l.marks
