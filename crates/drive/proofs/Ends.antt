-- The ends of a piece by their height, and its direction along the edge. Assumes nothing.
use Prim.Native.Nat.{ℕ, ◌≤◌, ◌<◌}
use mathlib.Core.Path.{◌≡◌, refl}
use mathlib.Core.List.{List}
use native.Mathlib.Omega.{arith}
use lib.Dec.{T}
use Rattle.rules.specs.declared.Direction.{Direction}
use Rattle.rules.specs.declared.Direction.TheVariants.{Up, Down}
use Rattle.rules.specs.Graph.{Graph}
use Rattle.rules.specs.Hierarchy.{linked, along}
use Rattle.rules.specs.Route.{Event}
use Rattle.theory.specs.Rows.{Rows}
use Rattle.theory.proofs.Rows.{linked_two, linked_turn}

-- the piece from a to b leads in direction d along the edge from low to high
pub record Ends (n : ℕ) (G : Graph) (a b : ℕ) (d : Direction) (low high : ℕ) : Type 0 where
  pub rises : low < high
  pub low_in : low < n
  pub joined : T (linked G low high)
  pub same : (way : ℕ → ℕ → List Event) → along d way low high ≡ way a b

module _ {n : ℕ} {G : Graph} (R : Rows n G) (a b : ℕ) (t : T (linked G a b)) where
  pub upward : a < b → Ends n G a b Up a b
  upward l = record { rises = l; low_in = (linked_two R a b t).0; joined = t; same = λ way. refl }

  pub downward : b ≤ a → Ends n G a b Down b a
  downward l =
      let (x, y, apart) = linked_two R a b t in
      let less : b < a = below l apart in
      record { rises = less; low_in = y; joined = linked_turn G a b t; same = λ way. refl }
    where
      below : b ≤ a → (a ≡ b → ⊥) → b < a
      below l n = omega arith
