-- A place of the row of x, and both lists stored at one place. Assumes nothing.
use Prim.Native.Nat.{ℕ, ◌<◌}
use mathlib.Core.Path.{◌≡◌, ap}
use native.Mathlib.Omega.{arith}
use lib.ListN.{length, get_or, set}
use Rattle.rules.specs.declared.Direction.{Direction}
use Rattle.rules.specs.declared.Direction.TheVariants.{Up, Down}
use Rattle.rules.specs.Graph.{Graph}
use Rattle.rules.specs.Hierarchy.{EdgeCosts, edge_costs}
use Rattle.rules.specs.Lent.{chosen}
use Rattle.theory.specs.Rows.{InRow}
use Rattle.theory.proofs.Rows.{in_heads}
use Rattle.turns.specs.Waiting.{Turn}
use Rattle.turns.proofs.Stored.{Stored, stored}

-- it has an entry, which is a position
pub row_reads : {G : Graph} {x k : ℕ} → Turn G x → InRow G x k → (k < length G.heads) × (get_or G.heads k 0 < 4096)
row_reads {G} {x} {k} U r = ((in_heads U.rows x k U.under r).1, omega (arith, U.few, U.rows.below x k U.under r))

-- one place of both lists stored, in each direction
pub both_stored : (C C' : EdgeCosts) (k : ℕ) (v : Direction → ℕ) → C' ≡ edge_costs (set C.up k (v Up)) (set C.down k (v Down))
    → k < length C.up → k < length C.down → (d : Direction) → Stored (chosen d C) k (v d) (chosen d C')
both_stored C C' k v e u w Up = stored C.up C'.up k (v Up) (ap (λ (c : EdgeCosts). c.up) e) u
both_stored C C' k v e u w Down = stored C.down C'.down k (v Down) (ap (λ (c : EdgeCosts). c.down) e) w
