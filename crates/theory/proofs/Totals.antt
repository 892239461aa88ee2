-- Sums of what a function gives for the numbers below n, and how many of them pass. Assumes nothing.
use Prim.Native.Nat.{ℕ, zero, suc, ◌+◌, ◌≤◌, ◌<◌}
use mathlib.Core.Path.{◌≡◌, refl, sym, ap, ◌∙◌}
use mathlib.Core.Logic.{◌≢◌}
use mathlib.Core.Bool.{Bool, true, false, cond}
use native.Mathlib.Omega.{arith}
use lib.Dec.{T}
use Rattle.rules.specs.Words.{total, how_many}
use Rattle.theory.proofs.Words.{either, same_or_not, same_test, cond_true, cond_false}

-- a sum of no more is no more
pub total_le : (f g : ℕ → ℕ) (n : ℕ) → ((w : ℕ) → w < n → g w ≤ f w) → total g n ≤ total f n
unfolding total
total_le f g zero h = omega arith
total_le f g (suc n) h = omega (arith, total_le f g n (λ w l. h w (omega arith)), h n (omega arith))

-- and is less if one is less
pub total_less : (f g : ℕ → ℕ) (n z : ℕ) → z < n → g z < f z → ((w : ℕ) → w ≢ z → g w ≤ f w) → total g n < total f n
unfolding total
total_less f g zero z l s h = absurd (omega arith)
total_less f g (suc n) z l s h =
    either (same_or_not z n)
    (λ d. omega (arith, total_le f g n (λ w b. h w (λ e. omega arith)), ap f d, ap g d))
    (λ d. omega (arith, total_less f g n z (omega arith) s h, h n (λ e. d (sym e))))

-- equal parts make equal sums
pub total_same : (f g : ℕ → ℕ) (n : ℕ) → ((i : ℕ) → i < n → f i ≡ g i) → total f n ≡ total g n
unfolding total
total_same f g zero h = refl
total_same f g (suc n) h = omega (arith, total_same f g n (λ i l. h i (omega arith)), h n (omega arith))

-- a sum of nothing is nothing
pub total_none : (f : ℕ → ℕ) (n : ℕ) → ((i : ℕ) → i < n → f i ≡ 0) → total f n ≡ 0
unfolding total
total_none f zero h = refl
total_none f (suc n) h = omega (arith, total_none f n (λ i l. h i (omega arith)), h n (omega arith))

-- two that differ at one number only
pub total_once : (f g : ℕ → ℕ) (n y d : ℕ) → y < n → ((w : ℕ) → w ≢ y → g w ≡ f w) → g y ≡ f y + d → total g n ≡ total f n + d
unfolding total
total_once f g zero y d l h e = absurd (omega arith)
total_once f g (suc n) y d l h e =
    either (same_or_not y n)
    (λ s. omega (arith, total_same g f n (λ i b. h i (λ x. omega arith)), ap f s, ap g s))
    (λ s. omega (arith, total_once f g n y d (omega arith) h e, h n (λ x. s (sym x))))

-- two sums added up are one
total_plus : (f g : ℕ → ℕ) (n : ℕ) → total (λ i. f i + g i) n ≡ total f n + total g n
unfolding total
total_plus f g zero = refl
total_plus f g (suc n) = omega (arith, total_plus f g n)

-- the order of two sums does not matter
pub total_swap : (f : ℕ → ℕ → ℕ) (m n : ℕ) → total (λ i. total (f i) n) m ≡ total (λ j. total (λ i. f i j) m) n
unfolding total
total_swap f zero n = sym (total_none (λ j. 0) n (λ i l. refl))
total_swap f (suc m) n = rw (total_swap f m n) (sym (total_plus (λ j. total (λ i. f i j) m) (f m) n))

-- ---- how many

-- two tests hold of the same
abbrev pub Same : Bool → Bool → Type 0
Same a b = (T a → T b) × (T b → T a)

-- as many pass the one as the other
pub many_same : (p q : ℕ → Bool) (n : ℕ) → ((i : ℕ) → i < n → Same (p i) (q i)) → how_many p n ≡ how_many q n
unfolding how_many
many_same p q n h =
    total_same (λ i. cond (p i) 1 0) (λ i. cond (q i) 1 0) n (λ i l. ap (λ t. cond t 1 0) (same_test (p i) (q i) (h i l).0 (h i l).1))

-- one more passes
pub many_more : (p q : ℕ → Bool) (n y : ℕ) → y < n → (T (p y) → ⊥) → T (q y) → ((w : ℕ) → w ≢ y → Same (p w) (q w)) → how_many q n ≡ how_many p n + 1
unfolding how_many
many_more p q n y l a b h =
    total_once (λ i. cond (p i) 1 0) (λ i. cond (q i) 1 0) n y 1 l
    (λ w d. ap (λ t. cond t 1 0) (same_test (q w) (p w) (h w d).1 (h w d).0))
    (cond_true (q y) 1 0 b ∙ sym (ap (λ v. v + 1) (cond_false (p y) 1 0 a)))

-- none passes
pub many_none : (p : ℕ → Bool) (n : ℕ) → ((i : ℕ) → i < n → T (p i) → ⊥) → how_many p n ≡ 0
unfolding how_many
many_none p n h = total_none (λ i. cond (p i) 1 0) n (λ i l. cond_false (p i) 1 0 (h i l))

-- a test counts for one at most
one_most : (t : Bool) → cond t 1 0 ≤ 1
one_most true = omega arith
one_most false = omega arith

-- no more pass than there are
pub many_le : (p : ℕ → Bool) (n : ℕ) → how_many p n ≤ n
unfolding how_many total
many_le p zero = omega arith
many_le p (suc n) = omega (arith, many_le p n, one_most (p n))
