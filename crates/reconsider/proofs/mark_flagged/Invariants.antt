-- `mark_flagged` meets its contract: each word's flagged places are marked, one word after the other. Assumes nothing.
use Prim.Native.Nat.{◌-◌, ◌≤◌, min}
use Rattle.reconsider.specs.Flags.{flagged}
use Rattle.reconsider.specs.Marks.{MarkedOf}
use Rattle.reconsider.proofs.mark_flagged.Given as goal

abbrev pub invariant-loop-j : goal.invariant-loop-j
invariant-loop-j l = (l.from ≤ l.j) × MarkedOf l.row_heads (flagged l.flags) l.from (min l.end l.j) l.initial.marks l.marks

abbrev pub decreases-loop-j : goal.decreases-loop-j
decreases-loop-j l = l.end - l.j
