-- Ways that keep below their two ends: such a way joins its ends (the fill-path lemma), the customised cost is the least walk of that kind,
-- and so it is no more than what simple walks cost. Assumes nothing.
use Prim.Native.Nat.{ℕ, ◌+◌, ◌*◌, ◌≤◌, ◌<◌}
use native.Mathlib.Omega.{arith}
use native.Mathlib.Decide.{ℕ_discrete}
use mathlib.Core.Path.{◌≡◌, refl, sym}
use mathlib.Core.Logic.{◌⊎◌, inl, inr, ◌≢◌, by_cases}
use Rattle.theory.proofs.Ways.{Way, stay, go, Walk, LowWalk, Within, Low, Up, UpDown, turned, Joins, Customised, Meshed, Labels, Meets, up_down, meshed, low, shortest}
use Rattle.theory.proofs.Simple.{bounded}

-- what is meshed stays so within any places
inside : {joined : ℕ → ℕ → Type 0} {cost : ℕ → ℕ → ℕ} (passes : ℕ → Type 0)
    → Meshed joined cost → Meshed (Within passes joined) cost
inside passes M =
    record {
      turn = λ {a} {b} j. (M.turn j.0, j.2, j.1);
      apart = λ {a} {b} j. M.apart j.0;
      third = λ z a b l h ne i j. (M.third z a b l h ne i.0 j.0, i.2, j.2);
      over = λ {z} {a} {b} l h ne i j. M.over l h ne i.0 j.0;
    }

-- up from x, where of the places allowed only y is higher: no step, or the one to y
ends : {joined : ℕ → ℕ → Type 0} {step : ℕ → ℕ → ℕ} {passes : ℕ → Type 0} {x y p r : ℕ}
    → ((u : ℕ) → passes u → x < u → u ≡ y) → Up (Within passes joined) step x p r
    → (p ≡ x) ⊎ ((x < y) × (p ≡ y) × joined x y × (step x y ≤ r))
ends h (stay e) = inl refl
ends {y = y} h (go {u = u} (l, (j, i, o)) (stay f) e) = let s : y ≡ u = sym (h u o l) in inr (rw s (l, refl, j, omega arith))
ends h (go {u = u} (l, (j, i, o)) (go {u = v} (m, (k, _, g)) p f) e) = absurd (omega (arith, h u o l, h v g (omega arith)))

-- of the places that keep below a and b only b can be higher than a
only : {a b : ℕ} (u : ℕ) → Low a b u → a < u → u ≡ b
only {b = b} u h l = by_cases (ℕ_discrete u b) (λ e. e) (λ ne. let g = h (omega arith) ne in absurd (omega arith))

module _ {joined : ℕ → ℕ → Type 0} {cost : ℕ → ℕ → ℕ} (M : Meshed joined cost) where
  -- up and down within places that are below both ends is one step
  flat : {a b w : ℕ} → a ≢ b → UpDown (Within (Low a b) joined) cost a b w → joined a b × (cost a b ≤ w)
  flat {a} {b} {w} ne d =
      pick (ends only d.ascent) (ends (λ u h l. only u (λ nb na. let g = h na nb in omega arith) l) d.descent)
    where
      pick : (d.top ≡ a) ⊎ ((a < b) × (d.top ≡ b) × joined a b × (cost a b ≤ d.up))
          → (d.top ≡ b) ⊎ ((b < a) × (d.top ≡ a) × joined b a × (cost a b ≤ d.down))
          → joined a b × (cost a b ≤ w)
      pick (inl e) (inl f) = absurd (omega arith)
      pick (inl e) (inr (l, f, j, c)) = (M.turn j, omega (arith, d.bound))
      pick (inr (l, e, j, c)) f = (j, omega (arith, d.bound))

  -- a way that keeps below both its ends joins them, and costs no less than the pair
  pub low_way : {step : ℕ → ℕ → Type 0} {toll : ℕ → ℕ → ℕ} {a b w : ℕ}
      → ((u v : ℕ) → step u v → joined u v × (cost u v ≤ toll u v)) → a ≢ b
      → Way (Within (Low a b) step) toll a b w → joined a b × (cost a b ≤ w)
  low_way {a = a} {b = b} f ne p =
      flat ne (up_down (inside (Low a b) M) (λ u v r. (((f u v r.0).0, r.1, r.2), (f u v r.0).1)) p)

module _ {Ω n : ℕ} {road : ℕ → ℕ → ℕ} {joined : ℕ → ℕ → Type 0} (J : Joins Ω n road joined) where
  -- an open road leads to one of the n places
  leads_below : (u v : ℕ) → road u v < Ω → v < n
  leads_below u v r = J.below (J.turn (J.roads r))

  module _ {cost : ℕ → ℕ → ℕ} (C : Customised Ω road joined cost) where
    -- with `low`: the customised cost is the least walk that keeps below both ends
    pub low_least : {a b w : ℕ} → a ≢ b → LowWalk Ω road a b w → joined a b × (cost a b ≤ w)
    low_least ne p = low_way (meshed J C) (λ u v r. (J.roads r, C.direct (J.roads r))) ne p

    module _ {M : ℕ} (small : (u v : ℕ) → road u v < Ω → road u v ≤ M) where
      -- a customised cost that is not closed is at most M for each of the n places but one
      pub cost_bound : {a b : ℕ} → joined a b → cost a b < Ω → cost a b + M ≤ n * M
      cost_bound j f =
          let (x, p, l, b) = bounded (λ u v r. leads_below u v r.0) (λ u v r. small u v r.0) (J.below j) (low J C j f) in
          omega (arith, (low_least (J.apart j) p).1)

      -- where no simple walk comes to Ω, no walk at all is cheaper than the least sum of two labels
      pub shortest_of_all : {N s t d w : ℕ} {from to : ℕ → ℕ} → n * M < Ω + M
          → Labels Ω N joined cost s from → Labels Ω N joined (turned cost) t to → Meets n N from to d
          → s < n → Walk Ω road s t w → d ≤ w
      shortest_of_all h F G D l p =
          let (x, q, c, b) = bounded leads_below small l p in
          omega (arith, shortest J C F G D l q (omega arith))
