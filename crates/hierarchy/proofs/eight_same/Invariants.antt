-- The entries before k + i are the same, or the answer is settled. Assumes nothing.
use Prim.Native.Nat.{◌+◌}
use Rattle.hierarchy.proofs.InOrder.{Compared}
use Rattle.hierarchy.proofs.eight_same.Given as goal

abbrev pub invariant-loop-i : goal.invariant-loop-i
invariant-loop-i l = Compared l.row_heads l.k (l.k + 8) l.gap (l.k + l.i) l.same
