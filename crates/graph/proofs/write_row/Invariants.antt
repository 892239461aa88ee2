-- `write_row` meets its contract: where there is room for any row no end is watched for. The loop's invariant: the lower members are written; it ends
-- since every place points upward. Assumes nothing.
use Prim.Native.Nat.{◌-◌}
use Rattle.graph.proofs.Writes.{Writing}
use Rattle.graph.proofs.write_row.Given as goal

abbrev pub invariant-loop-next : goal.invariant-loop-next
invariant-loop-next l = Writing l.n l.fn.p.0 l.at l.k l.next l.set.after l.initial.row_heads l.row_heads

abbrev pub decreases-loop-next : goal.decreases-loop-next
decreases-loop-next l = l.n - l.next
