-- The pieces of a way driven one after the other. Assumes nothing.
use Prim.Native.Nat.{ℕ, suc, ◌+◌, ◌-◌, ◌≤◌, ◌<◌}
use mathlib.Core.Path.{◌≡◌, refl, sym, ap, ◌∙◌}
use mathlib.Core.List.{List, [], ◌∷◌, ◌++◌}
use native.Mathlib.Omega.{arith}
use native.Mathlib.Numerals.{add-one}
use lib.ListN.{get_or}
use Rattle.rules.specs.Graph.{Graph}
use Rattle.rules.specs.Hierarchy.{EdgeCosts}
use Rattle.rules.specs.Net.{Net}
use Rattle.rules.specs.Route.{Piece, piece}
use Rattle.unpack.specs.Opening.{ran, put, way_along}
use Rattle.std.specs.Prelude.{Result, Ok, Err}
use Rattle.unpack.specs.declared.Stuck.{Stuck}
use Rattle.unpack.proofs.Put.{put_nil, put_on, put_stop}
use Rattle.drive.specs.Driving.{steps, way_over}

module _ (N : Net) (G : Graph) (C : EdgeCosts) (way : List ℕ) (from to : ℕ) where
  over_none : way_over N G C [] ≡ []
  unfolding way_over
  over_none = refl

  over_more : (a b : ℕ) (ps : List Piece) → way_over N G C (piece a b ∷ ps) ≡ way_along N G C a b ++ way_over N G C ps
  unfolding way_over way_along
  over_more a b ps = refl

  -- the pieces before place i of the way have been driven
  pub record Driving (before : List ℕ) (i at : ℕ) (route : List ℕ) : Type 0 where
    pub low : from ≤ i
    pub high : i ≤ to
    pub still : put (way_over N G C (steps way from (to - from))) 0 before ≡ put (way_over N G C (steps way i (to - i))) at route

  pub driving_start : (route : List ℕ) → from ≤ to → Driving route from 0 route
  driving_start route h = record { low = omega arith; high = h; still = refl }

  module _ {before route : List ℕ} {i at : ℕ} (D : Driving before i at route) where
    -- all have been
    pub driving_end : to ≤ i → ran (Ok at) route ≡ put (way_over N G C (steps way from (to - from))) 0 before
    unfolding steps
    driving_end h =
        let e : to - i ≡ 0 = omega arith in
        sym (D.still ∙ rw (e, over_none) (put_nil at route))

    module _ (more : i < to) {told : Result ℕ Stuck} {after : List ℕ} (driven : ran told after ≡ put (way_along N G C (get_or way i 0) (get_or way (i + 1) 0)) at route) where
      next : way_over N G C (steps way i (to - i))
          ≡ way_along N G C (get_or way i 0) (get_or way (i + 1) 0) ++ way_over N G C (steps way (i + 1) (to - (i + 1)))
      unfolding steps
      next =
          let e : to - i ≡ suc (to - (i + 1)) = omega arith in
          rw (e, ← add-one i) (over_more (get_or way i 0) (get_or way (i + 1) 0) (steps way (i + 1) (to - (i + 1))))

      -- the next one is driven to its end
      pub driving_more : (free : ℕ) → told ≡ Ok free → Driving before (i + 1) free after
      driving_more free e =
          record {
            low = omega (arith, D.low);
            high = omega arith;
            still = D.still ∙ rw next
                (put_on (way_along N G C (get_or way i 0) (get_or way (i + 1) 0)) (way_over N G C (steps way (i + 1) (to - (i + 1)))) at route free after (rw (← e) driven));
          }

      -- or stops the drive
      pub driving_stop : {why : Stuck} → told ≡ Err why → ran (Err why) after ≡ put (way_over N G C (steps way from (to - from))) 0 before
      driving_stop {why} e =
          put_stop (way_along N G C (get_or way i 0) (get_or way (i + 1) 0)) (way_over N G C (steps way (i + 1) (to - (i + 1)))) at route (Err why) after tt (rw e at driven)
          ∙ sym (D.still ∙ ap (λ es. put es at route) next)
