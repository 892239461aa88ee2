-- The least found by going upward, and the lowest number that gives it: what a loop knows that replaces only by a smaller one.
-- Assumes nothing.
use Prim.Native.Nat.{ℕ, zero, suc, ◌≤◌, ◌<◌}
use mathlib.Core.Path.{◌≡◌, refl, subst}
use native.Mathlib.Omega.{arith}
use lib.Dec.{eqb}
use borrow.Author.Tests.{eqb-true, eqb-false}
use Rattle.rules.specs.Words.{least, lowest}
use Rattle.theory.proofs.Words.{either, split, least_start, least_le, lowest_is, eqb_e, eqb_i}

-- best is the least of top and what f gives below i, and if it is below the top, `at` is the lowest number that gives it
pub record Best (f : ℕ → ℕ) (top i best at : ℕ) : Type 0 where
  pub is : best ≡ least f top i
  pub spot : best < top → (at < i) × (f at ≡ best) × ((j : ℕ) → j < at → best < f j)

-- nothing looked at yet
pub best_start : (f : ℕ → ℕ) (top at : ℕ) → Best f top 0 top at
unfolding least
best_start f top at = record { is = refl; spot = λ h. absurd (omega arith) }

module _ {f : ℕ → ℕ} {top i best at : ℕ} (B : Best f top i best at) where
  -- never over the top
  pub best_top : best ≤ top
  best_top = omega (arith, B.is, least_start f top i)

  -- a smaller one is taken
  pub best_take : f i < best → Best f top (suc i) (f i) i
  unfolding least
  best_take h =
      record {
        is = omega (arith, B.is);
        spot = λ g. (omega arith, refl, λ j l. omega (arith, B.is, least_le f top i j l));
      }

  -- another is not
  pub best_keep : best ≤ f i → Best f top (suc i) best at
  unfolding least
  best_keep h =
      record {
        is = omega (arith, B.is);
        spot = λ g. let (a, e, l) = B.spot g in (omega arith, e, l);
      }

  -- the lowest that gives the least
  pub best_lowest : best < top → lowest (λ j. eqb (f j) best) 0 i ≡ at
  best_lowest g =
      let (a, e, l) = B.spot g in
      lowest_is (λ j. eqb (f j) best) 0 i at (omega arith) (omega arith) (eqb_i (f at) best e)
      (λ q x y t. omega (arith, l q y, eqb_e (f q) best t))

-- what gives the top changes nothing
pub best_on : {f : ℕ → ℕ} {top i best at : ℕ} → Best f top i best at → (k : ℕ) → i ≤ k → ((j : ℕ) → i ≤ j → j < k → f j ≡ top)
    → Best f top k best at
best_on {f} {top} {i} {best} {at} B zero h idle =
    let e : i ≡ 0 = omega arith in subst (λ m. Best f top m best at) e B
best_on {f} {top} {i} {best} {at} B (suc k) h idle =
    either (split (eqb i (suc k)))
    (λ e. subst (λ m. Best f top m best at) (eqb-true i (suc k) e) B)
    (λ e.
    let l : i ≤ k = omega (arith, eqb-false i (suc k) e) in
    let C = best_on B k l (λ j a b. idle j a (omega arith)) in
    best_keep C (omega (arith, best_top C, idle k l (omega arith))))
