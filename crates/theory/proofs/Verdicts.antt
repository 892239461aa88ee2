-- What a check's verdict tells: it passes exactly if there is no fault. Assumes nothing.
use Prim.Native.Nat.{ℕ, ◌+◌, ◌≤◌, ◌<◌}
use mathlib.Core.Path.{◌≡◌, refl, sym, subst}
use mathlib.Core.Logic.{◌≢◌}
use mathlib.Core.Bool.{Bool, true, false}
use mathlib.Core.List.{List, [], ◌∷◌}
use native.Mathlib.Omega.{arith}
use lib.Dec.{T, eqb, ltb}
use borrow.Author.Tests.{ltb-false, lt-ltb, eqb-true, eqb-false}
use Rattle.rules.specs.Words.{lowest}
use Rattle.rules.specs.Replies.{Reply, refused}
use Rattle.rules.specs.Refusals.{Verdict, passes, fails, first_failure, fails_if, fails_at}
use Rattle.rules.specs.Calls.{unless}
use Rattle.theory.proofs.Words.{lowest_is, lowest_before, lowest_none, either, split, cond_false, ltb_e, clash}

-- a check that passes and one that fails are two things
pub passes_fails : {A : Type 0} {k p : ℕ} → passes ≡ fails k p → A
passes_fails {k} {p} e = clash (cc)

-- where the first failure is none, the first check passes and so does the rest
pub first_passes : (v : Verdict) (vs : List Verdict) → first_failure (v ∷ vs) ≡ passes → (v ≡ passes) × (first_failure vs ≡ passes)
first_passes passes vs e = (refl, e)
first_passes (fails k p) vs e = passes_fails (sym e)

-- a check of a whole: it passes exactly if the fault is not there
pub fails_if_e : (k : ℕ) (b : Bool) → fails_if k b ≡ passes → T b → ⊥
fails_if_e k true e t = passes_fails (sym e)
fails_if_e k false e t = t

-- a check of places: it passes exactly if no place is at fault
pub fails_at_e : (k : ℕ) (f : ℕ → Bool) (n i : ℕ) → fails_at k f n ≡ passes → i < n → T (f i) → ⊥
fails_at_e k f n i e h t =
    either (split (ltb (lowest f 0 n) n))
    (λ d. passes_fails (sym (rw d at e)))
    (λ d. lowest_before f 0 n i (omega arith) (let x = ltb-false (lowest f 0 n) n d in omega arith) t)

-- a check of places that finds no fault passes
pub fails_at_i : (k : ℕ) (f : ℕ → Bool) (n : ℕ) → ((i : ℕ) → i < n → T (f i) → ⊥) → fails_at k f n ≡ passes
fails_at_i k f n none =
    cond_false (ltb (lowest f 0 n) n) (fails k (lowest f 0 n)) passes
    (λ t. omega (arith, ltb_e (lowest f 0 n) n t, lowest_none f 0 n (λ q l h. none q (omega arith))))

-- ---- a check that goes through the places from the lowest up

-- no fault before place i, of n
pub record Faultless (f : ℕ → Bool) (n i : ℕ) : Type 0 where
  pub within : i ≤ n
  pub none : (q : ℕ) → q < i → T (f q) → ⊥

pub faultless_start : (f : ℕ → Bool) (n : ℕ) → Faultless f n 0
faultless_start f n = record { within = omega arith; none = λ q h t. omega arith }

pub faultless_more : {f : ℕ → Bool} {n i : ℕ} → Faultless f n i → i < n → (T (f i) → ⊥) → Faultless f n (i + 1)
faultless_more {f} {n} {i} s h t =
    record {
      within = omega arith;
      none = λ q l u.
          either (split (eqb q i))
          (λ e. t (subst (λ x. T (f x)) (eqb-true q i e) u))
          (λ e. s.none q (omega (arith, eqb-false q i e)) u);
    }

-- a fault there is the lowest
pub faultless_fails : (k : ℕ) {f : ℕ → Bool} {n i : ℕ} → Faultless f n i → i < n → T (f i) → fails k i ≡ fails_at k f n
faultless_fails k {f} {n} {i} s h t =
    let e : lowest f 0 n ≡ i = lowest_is f 0 n i (omega arith) (omega arith) t (λ q l m. s.none q m) in
    rw (e, lt-ltb i n h) refl

-- none up to the end
pub faultless_passes : (k : ℕ) {f : ℕ → Bool} {n i : ℕ} → Faultless f n i → n ≤ i → passes ≡ fails_at k f n
faultless_passes k {f} {n} {i} s h = sym (fails_at_i k f n (λ q l t. s.none q (omega arith) t))

-- ---- what is left by the checks

-- a reply that no refusal gives comes only past the checks
pub unless_e : {A : Type 0} (reply : A → Reply) (v : Verdict) (refusal : Reply → A) (rest : A) (told : Reply)
    → ((k p : ℕ) → reply (refusal (refused k p)) ≢ told) → reply (unless v refusal rest) ≡ told → v ≡ passes
unless_e reply passes refusal rest told n e = refl
unless_e reply (fails k p) refusal rest told n e = absurd (n k p e)

-- ---- checks one after the other

-- the last check decides alone
pub alone : (v : Verdict) → v ≡ first_failure (v ∷ [])
alone passes = refl
alone (fails k p) = refl
