-- The customised costs: the paper's equation holds of them, and they are the only ones of which it holds. Assumes nothing.
use Prim.Native.Nat.{ℕ, zero, suc, ◌+◌, ◌≤◌, ◌<◌, min}
use mathlib.Core.Path.{◌≡◌, refl, sym, ◌∙◌}
use mathlib.Core.Logic.{◌⊎◌, inl, inr}
use mathlib.Core.Bool.{Bool, ◌&&◌}
use native.Mathlib.Omega.{arith}
use lib.Dec.{T}
use Rattle.rules.specs.Words.{least}
use Rattle.rules.specs.Costs.{closed, sum}
use Rattle.rules.specs.Customised.{over, cost_within, customised}
use Rattle.theory.proofs.Words.{least_start, least_le, least_made, least_same, cond_true, cond_made, and_i, and_l, and_r, either, split, true_holds}

-- what goes over z where both parts agree
pub over_same : (joined : ℕ → ℕ → Bool) (f g : ℕ → ℕ → ℕ) (a b z : ℕ) → (T (joined z a) → T (joined z b) → (f a z ≡ g a z) × (f z b ≡ g z b))
    → over joined f a b z ≡ over joined g a b z
over_same joined f g a b z h =
    either (split (joined z a && joined z b))
    (λ e.
    let t : T (joined z a && joined z b) = true_holds (joined z a && joined z b) e in
    let p : (f a z ≡ g a z) × (f z b ≡ g z b) = h (and_l (joined z a) (joined z b) t) (and_r (joined z a) (joined z b) t) in
    rw (p.0, p.1) refl)
    (λ e. rw e refl)

module _ (joined : ℕ → ℕ → Bool) (road : ℕ → ℕ → ℕ) where
  -- the counter does not matter as long as it is above the lower end
  cost_settles : (k l a b : ℕ) → min a b < k → min a b < l → cost_within joined road k a b ≡ cost_within joined road l a b
  unfolding cost_within
  cost_settles zero l a b h g = absurd (omega arith)
  cost_settles (suc k) zero a b h g = absurd (omega arith)
  cost_settles (suc k) (suc l) a b h g =
      least_same (over joined (cost_within joined road k) a b) (over joined (cost_within joined road l) a b) (road a b) (min a b)
      (λ z i.
      over_same joined (cost_within joined road k) (cost_within joined road l) a b z
      (λ u v. (cost_settles k l a z (omega arith) (omega arith), cost_settles k l z b (omega arith) (omega arith))))

  -- "Each is the least of: the cost of the arc in force in that direction, if any; and, for each z below x joined to both, the cost of x to
  -- z plus z to y": the paper's equation
  pub customised_is : (a b : ℕ) → customised joined road a b ≡ least (over joined (customised joined road) a b) (road a b) (min a b)
  unfolding customised cost_within
  customised_is a b =
      least_same (over joined (cost_within joined road (min a b)) a b) (over joined (customised joined road) a b) (road a b) (min a b)
      (λ z i.
      over_same joined (cost_within joined road (min a b)) (customised joined road) a b z
      (λ u v. (cost_settles (min a b) (suc (min a z)) a z (omega arith) (omega arith), cost_settles (min a b) (suc (min z b)) z b (omega arith) (omega arith))))

  -- no other costs satisfy it on the joined pairs
  pub customised_only : ((a b : ℕ) → T (joined a b) → T (joined b a)) → (f : ℕ → ℕ → ℕ)
      → ((a b : ℕ) → T (joined a b) → f a b ≡ least (over joined f a b) (road a b) (min a b))
      → (a b : ℕ) → T (joined a b) → f a b ≡ customised joined road a b
  customised_only turn f eq a b j = below (suc (min a b)) a b (omega arith) j
    where
      below : (k a b : ℕ) → min a b < k → T (joined a b) → f a b ≡ customised joined road a b
      below zero a b h j = absurd (omega arith)
      below (suc k) a b h j =
          eq a b j
          ∙ least_same (over joined f a b) (over joined (customised joined road) a b) (road a b) (min a b)
          (λ z i.
          over_same joined f (customised joined road) a b z
          (λ u v. (below k a z (omega arith) (turn z a u), below k z b (omega arith) v)))
          ∙ sym (customised_is a b)

  -- a customised cost is no more than the road's, nor than going over any lower position joined to both
  pub customised_direct : (a b : ℕ) → customised joined road a b ≤ road a b
  customised_direct a b = rw (customised_is a b) (least_start (over joined (customised joined road) a b) (road a b) (min a b))

  pub customised_over : (z a b : ℕ) → z < a → z < b → T (joined z a) → T (joined z b)
      → customised joined road a b ≤ customised joined road a z + customised joined road z b
  customised_over z a b h g u v =
      let c = customised joined road in
      let l : least (over joined c a b) (road a b) (min a b) ≤ over joined c a b z = least_le (over joined c a b) (road a b) (min a b) z (omega arith) in
      let e : over joined c a b z ≡ sum (c a z) (c z b) = cond_true (joined z a && joined z b) (sum (c a z) (c z b)) closed (and_i (joined z a) (joined z b) u v) in
      omega (arith, customised_is a b)

  -- a finite one is the road's, or goes over some lower position joined to both, whose two costs add up to it
  pub customised_made : (a b : ℕ) → customised joined road a b < closed
      → (customised joined road a b ≡ road a b)
      ⊎ ((z : ℕ) × (z < min a b) × T (joined z a) × T (joined z b) × (customised joined road a b ≡ customised joined road a z + customised joined road z b))
  customised_made a b h =
      let c = customised joined road in
      either (least_made (over joined c a b) (road a b) (min a b))
      (λ e. inl (customised_is a b ∙ e))
      (λ s.
      let e : c a b ≡ over joined c a b s.0 = customised_is a b ∙ s.2 in
      let m : T (joined s.0 a && joined s.0 b) × (over joined c a b s.0 ≡ sum (c a s.0) (c s.0 b)) =
      cond_made (joined s.0 a && joined s.0 b) (sum (c a s.0) (c s.0 b)) closed (omega arith) in
      inr (s.0, s.1, and_l (joined s.0 a) (joined s.0 b) m.0, and_r (joined s.0 a) (joined s.0 b) m.0, omega arith))
