-- `least_over` meets its contract: the best so far is the least over the first i places. Assumes nothing.
use Prim.Native.Nat.{◌-◌, ◌≤◌}
use mathlib.Core.Path.{◌≡◌}
use lib.ListN.{length}
use Rattle.rules.specs.Words.{least}
use Rattle.sweep.specs.Swept.{cap, place_gives}
use Rattle.sweep.proofs.least_over.Given as goal

abbrev pub invariant-loop-i : goal.invariant-loop-i
invariant-loop-i l = (l.i ≤ length l.row) × (l.best ≡ least (place_gives l.row l.costs l.reach) (cap l.label) l.i)

abbrev pub decreases-loop-i : goal.decreases-loop-i
decreases-loop-i l = length l.row - l.i
