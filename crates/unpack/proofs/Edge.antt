-- An edge at its place of a row, and what the cost lists hold there. Assumes nothing.
use Prim.Native.Nat.{ℕ, ◌<◌}
use mathlib.Core.Path.{◌≡◌, ap, ◌∙◌, subst}
use native.Mathlib.Omega.{arith}
use lib.Dec.{T}
use lib.ListN.{length, get_or}
use Rattle.std.specs.Prelude.{Some}
use Rattle.rules.specs.Graph.{Graph}
use Rattle.rules.specs.Hierarchy.{EdgeCosts, linked, place, held}
use Rattle.theory.specs.Rows.{InRow, Rows, count, Lists}
use Rattle.theory.proofs.Rows.{in_heads, linked_e, linked_i, linked_low, place_is}
use Rattle.theory.proofs.Held.{held_up, held_down}
use Rattle.lists.specs.Lent.{edge_found}
use Rattle.lists.proofs.Found.{edge_at}

-- the edge from z up to y stands at place k
pub record Edge (G : Graph) (C : EdgeCosts) (z y k : ℕ) : Type 0 where
  pub joined : T (linked G z y)
  pub placed : place G z y ≡ k
  pub above : z < y
  pub heads_in : k < length G.heads
  pub up_in : k < length C.up
  pub down_in : k < length C.down
  pub up_is : get_or C.up k 0 ≡ held G C z y
  pub down_is : get_or C.down k 0 ≡ held G C y z

pub edge_of : {G : Graph} {C : EdgeCosts} → Lists G C → (z y k : ℕ) → z < count G.first → InRow G z k → get_or G.heads k 0 ≡ y → Edge G C z y k
edge_of {G} {C} L z y k h r e =
    let R = L.rows in
    let (inside, heads_in) = in_heads R z k h r in
    record {
      joined = linked_i R z k y h r e;
      placed = place_is R z k y h r e;
      above = omega (arith, R.above z k h r);
      heads_in = heads_in;
      up_in = omega (arith, L.up_long);
      down_in = omega (arith, L.down_long);
      up_is = held_up R C z k h r (omega (arith, L.up_long)) ∙ ap (held G C z) e;
      down_is = held_down R C z k h r (omega (arith, L.down_long)) ∙ ap (λ x. held G C x z) e;
    }

-- an edge that is found stands where it is found
pub found_edge : {G : Graph} {C : EdgeCosts} → Lists G C → (z y k : ℕ) → z < count G.first → edge_found G z y ≡ Some k → Edge G C z y k
found_edge L z y k h f = let (r, e) = edge_at L.rows z y k h f in edge_of L z y k h r e

-- under another name of its higher end
pub edge_to : {G : Graph} {C : EdgeCosts} {z x y k : ℕ} → x ≡ y → Edge G C z x k → Edge G C z y k
edge_to {G} {C} {z} {k = k} e E = subst (λ y. Edge G C z y k) e E

-- joined positions have an edge at its place
pub place_in : {n : ℕ} {G : Graph} → Rows n G → (z y : ℕ) → z < y → T (linked G z y) → InRow G z (place G z y) × (get_or G.heads (place G z y) 0 ≡ y)
place_in R z y l t =
    let (k, r, e) = linked_e R z y t l in
    rw (place_is R z k y (linked_low R z y t) r e) (r, e)
