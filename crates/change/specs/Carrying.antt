-- All turns, one after the other. Assumes nothing.
use Rattle.std.specs.Prelude.{ℕ, ◌<◌, ◌≡◌}
use Rattle.rules.specs.Lent.{lent_net, lent_graph}
use Rattle.rules.specs.Net.{Net, road_between}
use Rattle.rules.specs.Graph.{Graph}
use Rattle.rules.specs.Hierarchy.{EdgeCosts, linked, held}
use Rattle.rules.specs.Changed.{looked_at}
use Rattle.theory.specs.Rows.{InRow, count}
use Rattle.turns.specs.Edges.{At, Kept}
use Rattle.change.specs.declared.Shift.{Shift}
use Rattle.change.specs.Turning.{new_of, Ways}

-- whatever the roads were before, each edge has its new cost, and r lower triangles of reconsidered edges were looked at
pub record Carried (N : Net) (G : Graph) (lo hi : ℕ) (C C' : EdgeCosts) (r : ℕ) : Type 0 where
  pub kept : Kept G C C'
  pub new : (before : ℕ → ℕ → ℕ) → Ways N lo hi before
      → ((p k : ℕ) → p < count G.first → InRow G p k → At G C' (new_of G before (road_between N) C) p k)
      × (r ≡ looked_at (linked G) before (road_between N) (held G C) (count G.first))

-- the same of a road that has changed, as it comes in
abbrev pub ShiftCarried : (s : Shift) (C C' : EdgeCosts) (r : ℕ) → Type 0
ShiftCarried s C C' r = Carried (lent_net s.net) (lent_graph s.graph) s.lo s.hi C C' r
