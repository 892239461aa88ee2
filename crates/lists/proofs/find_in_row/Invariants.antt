-- `find_in_row` meets its contract: not found before place k. Assumes nothing.
use Rattle.lists.proofs.Found.{Unfound}
use Rattle.lists.proofs.find_in_row.Given as goal

abbrev pub invariant-loop-k : goal.invariant-loop-k
invariant-loop-k l = Unfound l.row_heads l.from l.to l.y.0 l.k
