-- More laws of those that pass: how many, which first, and that what does not pass is passed over. Assumes nothing.
use Prim.Native.Nat.{ℕ, zero, suc, ◌+◌, ◌≤◌, ◌<◌}
use mathlib.Core.Path.{◌≡◌, refl, ◌∙◌}
use mathlib.Core.Bool.{Bool}
use mathlib.Core.List.{◌∷◌}
use native.Mathlib.Omega.{arith}
use lib.Dec.{T}
use lib.ListN.{length}
use Rattle.rules.specs.Words.{those}
use Rattle.theory.proofs.Words.{either, split, holds_true, true_holds}

-- tests that agree let the same numbers pass
pub those_same : (f g : ℕ → Bool) (i k : ℕ) → ((q : ℕ) → i ≤ q → q < i + k → f q ≡ g q) → those f i k ≡ those g i k
unfolding those
those_same f g i zero h = refl
those_same f g i (suc k) h =
    let e : those f (suc i) k ≡ those g (suc i) k = those_same f g (suc i) k (λ q l m. h q (omega arith) (omega arith)) in
    rw (h i (omega arith) (omega arith), e) refl

-- no more pass than were asked
pub those_few : (f : ℕ → Bool) (i k : ℕ) → length (those f i k) ≤ k
unfolding those
those_few f i zero = omega arith
those_few f i (suc k) =
    either (split (f i))
    (λ e. rw e (omega (arith, those_few f (suc i) k)))
    (λ e. rw e (omega (arith, those_few f (suc i) k)))

-- a number that passes stands before those above it
pub those_here : (f : ℕ → Bool) (i k : ℕ) → T (f i) → those f i (suc k) ≡ i ∷ those f (suc i) k
unfolding those
those_here f i k t = rw (holds_true (f i) t) refl

-- one that does not is passed over
those_past : (f : ℕ → Bool) (i k : ℕ) → (T (f i) → ⊥) → those f i (suc k) ≡ those f (suc i) k
unfolding those
those_past f i k n = either (split (f i)) (λ e. absurd (n (true_holds (f i) e))) (λ e. rw e refl)

-- and so are d numbers of which none passes: a walk may go straight to the next that does
pub those_skip : (f : ℕ → Bool) (i d k : ℕ) → ((q : ℕ) → i ≤ q → q < i + d → T (f q) → ⊥) → those f i (d + k) ≡ those f (i + d) k
those_skip f i zero k n =
    let a : 0 + k ≡ k = omega arith in
    let b : i + 0 ≡ i = omega arith in
    rw (a, b) refl
those_skip f i (suc d) k n =
    let a : suc d + k ≡ suc (d + k) = omega arith in
    let b : i + suc d ≡ suc i + d = omega arith in
    rw (a, b)
    (those_past f i (d + k) (n i (omega arith) (omega arith))
    ∙ those_skip f (suc i) d k (λ q l m. n q (omega arith) (omega arith)))
