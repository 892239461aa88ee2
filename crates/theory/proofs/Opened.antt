-- A piece opened down to its arcs: by its arc, by its two parts, or as one that fits nothing. Code that opens pieces cites these and does
-- not count how often the low end falls. Assumes nothing.
use Prim.Native.Nat.{ℕ, zero, suc, ◌≤◌, ◌<◌, min}
use mathlib.Core.Path.{◌≡◌, refl, ◌∙◌}
use mathlib.Core.Bool.{Bool, cond}
use mathlib.Core.List.{List, [], ◌∷◌, ◌++◌}
use native.Mathlib.Omega.{arith}
use lib.Dec.{T, ltb}
use borrow.Author.Tests.{lt-ltb, le-ltb, ltb-true}
use Rattle.rules.specs.Route.{Event, drives, misfits, arc_fits, middle, opened}
use Rattle.theory.proofs.Words.{either, split, holds_true, cond_false}

module _ (joined : ℕ → ℕ → Bool) (cost road arc : ℕ → ℕ → ℕ) where
  -- the counter does not matter as long as it is above the low end
  opened_settles : (k l a b : ℕ) → min a b < k → min a b < l → opened joined cost road arc k a b ≡ opened joined cost road arc l a b
  unfolding opened
  opened_settles zero l a b h g = absurd (omega arith)
  opened_settles (suc k) zero a b h g = absurd (omega arith)
  opened_settles (suc k) (suc l) a b h g =
      let z = middle joined cost a b in
      either (split (ltb z (min a b)))
      (λ e.
      let d : z < min a b = ltb-true z (min a b) e in
      let u = opened_settles k l a z (omega arith) (omega arith) in
      let v = opened_settles k l z b (omega arith) (omega arith) in
      rw (u, v) refl)
      (λ e. rw e refl)

  -- all that is met from a to b
  abbrev pub opened_whole : (a b : ℕ) → List Event
  opened_whole a b = opened joined cost road arc (suc (min a b)) a b

  -- a fitting arc is driven
  pub opened_arc : (a b : ℕ) → T (arc_fits cost road a b) → opened_whole a b ≡ drives (arc a b) ∷ []
  unfolding opened
  opened_arc a b t = rw (holds_true (arc_fits cost road a b) t) refl

  module _ (a b : ℕ) (no_arc : T (arc_fits cost road a b) → ⊥) where
    -- where no arc fits, what is met is met on the two parts over the lowest z that fits
    pub opened_parts : middle joined cost a b < min a b
        → opened_whole a b ≡ opened_whole a (middle joined cost a b) ++ opened_whole (middle joined cost a b) b
    unfolding opened
    opened_parts h =
        let z = middle joined cost a b in
        let lower = opened joined cost road arc (min a b) a z in
        let upper = opened joined cost road arc (min a b) z b in
        let u : lower ≡ opened_whole a z = opened_settles (min a b) (suc (min a z)) a z (omega arith) (omega arith) in
        let v : upper ≡ opened_whole z b = opened_settles (min a b) (suc (min z b)) z b (omega arith) (omega arith) in
        cond_false (arc_fits cost road a b) (drives (arc a b) ∷ []) (cond (ltb z (min a b)) (lower ++ upper) (misfits ∷ [])) no_arc
        ∙ rw (lt-ltb z (min a b) h, u, v) refl

    -- and where no z fits either, it is a misfit
    pub opened_misfit : min a b ≤ middle joined cost a b → opened_whole a b ≡ misfits ∷ []
    unfolding opened
    opened_misfit h =
        let z = middle joined cost a b in
        let parts = opened joined cost road arc (min a b) a z ++ opened joined cost road arc (min a b) z b in
        cond_false (arc_fits cost road a b) (drives (arc a b) ∷ []) (cond (ltb z (min a b)) parts (misfits ∷ [])) no_arc
        ∙ rw (le-ltb z (min a b) h) refl
