-- `write_fitting` meets its contract. The loop's invariant: the lower members are written, and no more places are taken than there are positions
-- above p and below the next. Assumes nothing.
use Prim.Native.Nat.{◌+◌, ◌-◌, ◌≤◌}
use Rattle.graph.proofs.Writes.{Writing}
use Rattle.graph.proofs.write_fitting.Given as goal

abbrev pub invariant-loop-member : goal.invariant-loop-member
invariant-loop-member l = Writing l.n l.fn.p.0 l.at l.k l.member l.set.after l.initial.row_heads l.row_heads × (l.k + (l.fn.p.0 + 1) ≤ l.at + l.member)

abbrev pub decreases-loop-member : goal.decreases-loop-member
decreases-loop-member l = l.n - l.member
