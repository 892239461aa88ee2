-- `same_entries` meets its contract: the entries before `at` are a run, and a part that is none settles it. Assumes nothing.
use Prim.Native.Nat.{◌-◌, ◌≤◌}
use Rattle.hierarchy.proofs.InOrder.{Run}
use Rattle.hierarchy.proofs.same_entries.Given as goal

abbrev pub invariant-loop-at : goal.invariant-loop-at
invariant-loop-at l = (l.k ≤ l.at) × (l.at ≤ l.end) × Run l.row_heads l.k l.at l.gap

abbrev pub decreases-loop-at : goal.decreases-loop-at
decreases-loop-at l = l.end - l.at
