-- The search for the lowest position over which a piece goes: one position looked at, the scan upward, and why it may start at the lowest
-- position that leads up to the piece's low end. Assumes nothing.
use Prim.Native.Nat.{ℕ, zero, suc, ◌+◌, ◌-◌, ◌≤◌, ◌<◌, min}
use mathlib.Core.Path.{◌≡◌, refl, sym, ap, ◌∙◌, subst}
use mathlib.Core.Bool.{Bool, cond, ◌&&◌}
use mathlib.Core.Logic.{◌≢◌}
use mathlib.Core.List.{List}
use native.Mathlib.Omega.{arith}
use native.Mathlib.Numerals.{add-one}
use lib.Dec.{T, ltb}
use lib.ListN.{get_or}
use borrow.Author.Tests.{lt-ltb, le-ltb, ltb-true, ltb-false}
use Rattle.rules.specs.Words.{lowest}
use Rattle.rules.specs.Costs.{add_up}
use Rattle.rules.specs.Graph.{Graph}
use Rattle.rules.specs.Hierarchy.{EdgeCosts, linked, held}
use Rattle.rules.specs.Route.{z_fits}
use Rattle.theory.specs.Rows.{Rows, count}
use Rattle.theory.proofs.Words.{either, split, same_or_not, holds_true, and_l, and_r, cond_false, lowest_passes}
use Rattle.std.specs.Prelude.{Option, Some, None}
use Rattle.unpack.specs.declared.Parts.{Parts}
use Rattle.unpack.specs.declared.Choice.TheVariants.{Over}
use Rattle.unpack.specs.Opening.{Lows, over, over_z, middle_in, Openable}
use Rattle.unpack.proofs.Edge.{Edge, place_in}

-- the position that is found, or else what is found further on
abbrev else : (found further : Option Parts) → Option Parts
else (Some parts) further = Some parts
else None further = further

module _ (G : Graph) (C : EdgeCosts) (a b : ℕ) where
  abbrev fits : ℕ → Bool
  fits = z_fits (linked G) (held G C) a b

  -- a z that fits is joined to both ends
  pub fits_joined : (z : ℕ) → T (z_fits (linked G) (held G C) a b z) → T (linked G z a) × T (linked G z b)
  fits_joined z t =
      let p = linked G z a in
      let q = linked G z b in
      let two = and_l (p && q) (add_up (held G C a z) (held G C z b) (held G C a b)) t in
      (and_l p q two, and_r p q two)

  -- ---- one position looked at

  -- a z that does not fit
  misfit : (z : ℕ) → (T (fits z) → ⊥) → None ≡ over_z G C a b z
  unfolding over_z
  misfit z n = sym (cond_false (fits z) (Some (over G a b z)) None n)

  -- one that is not joined to both ends does not
  not_joined : (z : ℕ) → (T (linked G z a) × T (linked G z b) → ⊥) → None ≡ over_z G C a b z
  not_joined z n = misfit z (λ t. n (fits_joined z t))

  -- nor one that is not joined to x, which is one of them
  pub end_missing : (z x : ℕ) → (x ≢ a → x ≡ b) → (T (linked G z x) → ⊥) → None ≡ over_z G C a b z
  end_missing z x other n = not_joined z (λ t. n (either (same_or_not x a) (λ e. rw e t.0) (λ d. rw (other d) t.1)))

  -- one that is joined to both fits if its costs add up
  pub over_is : {z i j w : ℕ} → Edge G C z a i → Edge G C z b j → w ≡ held G C a b
      → cond (add_up (get_or C.down i 0) (get_or C.up j 0) w) (Some (record { z = record { 0 = z }; down = i; up = j })) None ≡ over_z G C a b z
  unfolding over_z
  over_is {z} A B w_is =
      rw (w_is, A.down_is, B.up_is, holds_true (linked G z a) A.joined, holds_true (linked G z b) B.joined, A.placed, B.placed) refl

  -- ---- the scan

  -- the scan looks at one position after the other
  scan_step : (z to : ℕ) → z < to → middle_in G C a b z to ≡ else (over_z G C a b z) (middle_in G C a b (z + 1) to)
  unfolding over_z middle_in lowest
  scan_step z to h =
      let s : to - z ≡ suc (to - suc z) = omega arith in
      either (split (fits z))
      (λ t. rw (s, t, lt-ltb z to h) refl)
      (λ t. rw (s, t, add-one z) refl)

  -- a position that is answered is where it ends
  pub scan_here : (z to : ℕ) {r : Option Parts} {p : Parts} → z < to → r ≡ over_z G C a b z → r ≡ Some p → Some p ≡ middle_in G C a b z to
  scan_here z to h e o = sym (scan_step z to h ∙ rw (← e, o) refl)

  -- past one that does not fit it goes on
  pub scan_on : (z to : ℕ) {r : Option Parts} → z < to → r ≡ over_z G C a b z → r ≡ None → middle_in G C a b z to ≡ middle_in G C a b (z + 1) to
  scan_on z to h e n = scan_step z to h ∙ rw (← e, n) refl

  -- and ends
  pub scan_end : (z to : ℕ) → to ≤ z → None ≡ middle_in G C a b z to
  unfolding middle_in lowest
  scan_end z to h = let s : to - z ≡ 0 = omega arith in rw (s, le-ltb z to h) refl

  -- ---- where the scan may start

  -- past positions that do not fit
  scan_from : (from to : ℕ) → from ≤ to → ((z : ℕ) → z < from → T (fits z) → ⊥) → middle_in G C a b 0 to ≡ middle_in G C a b from to
  scan_from zero to h n = refl
  scan_from (suc z) to h n =
      scan_from z to (omega arith) (λ q l. n q (omega arith))
      ∙ scan_on z to h (misfit z (n z (omega arith))) refl
      ∙ ap (λ q. middle_in G C a b q to) (add-one z)

  -- so it may start at the lowest lower neighbour of the low end, to which each z that fits is joined
  pub scan_low : {low : List ℕ} {from to : ℕ} → Lows G low → to ≡ min a b → to < count G.first → from ≡ get_or low to 0
      → middle_in G C a b from to ≡ middle_in G C a b 0 (min a b)
  scan_low {low} {from} {to} L e h f =
      sym (ap (middle_in G C a b 0) (sym e)
      ∙ scan_from from to (omega (arith, L.under to h))
      (λ z l t. omega (arith, L.under to h, L.reach z to (omega (arith, L.under to h)) (joined z (fits_joined z t)))))
    where
      joined : (z : ℕ) → T (linked G z a) × T (linked G z b) → T (linked G z to)
      joined z (p, q) =
          either (split (ltb a b))
          (λ d. subst (λ x. T (linked G z x)) (omega (arith, ltb-true a b d)) p)
          (λ d. subst (λ x. T (linked G z x)) (omega (arith, ltb-false a b d)) q)

  -- what it finds can be opened
  pub found_openable : {n : ℕ} → Rows n G → (m from to : ℕ) {p : Parts} → from ≤ to → to ≤ a → to ≤ b → Some p ≡ middle_in G C a b from to
      → Openable m G to (Some (Over p))
  unfolding middle_in
  found_openable R m from to {p} h u v e =
      let z = lowest fits from (to - from) in
      either (split (ltb z to))
      (λ t.
      let l = ltb-true z to t in
      let (f, g) = fits_joined z (lowest_passes fits from (to - from) (omega arith)) in
      let same : Some p ≡ Some (over G a b z) = rw t at e in
      let is : p ≡ over G a b z = cc in
      rw is (l, (place_in R z a (omega arith) f).0, (place_in R z b (omega arith) g).0))
      (λ t. let none : Some p ≡ None = rw t at e in let z : ◌≡◌ {A = ℕ} 0 1 = cc in absurd (omega arith))
