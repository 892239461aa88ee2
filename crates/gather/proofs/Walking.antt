-- A thread walked, with something put into a set at each of its numbers. Assumes nothing.
use Prim.Native.Nat.{ℕ, suc, ◌-◌, ◌≤◌, ◌<◌}
use mathlib.Core.Path.{◌≡◌, sym, ap, ◌∙◌, subst}
use mathlib.Core.Bool.{Bool}
use mathlib.Core.List.{List}
use native.Mathlib.Omega.{arith}
use lib.Dec.{eqb}
use lib.ListN.{get_or}
use borrow.Author.Tests.{eqb-true}
use Rattle.theory.specs.Threads.{last_below, Threaded, downward}
use Rattle.theory.proofs.Threads.{last_within, last_stands, last_passes, thread_on, down_none, down_skip, down_step}
use Rattle.gather.specs.NextMembers.{Holds}

-- of the numbers below m that pass, those from k on have had their step; k is one more than the next, or 0
pub record Walking (f : ℕ → Bool) (step : ℕ → (ℕ → Bool) → ℕ → Bool) (n p m k : ℕ) (before after : List ℕ) : Type 0 where
  pub within : k ≤ m
  pub stands : last_below f k ≡ k
  pub holds : (S : ℕ → Bool) → Holds S n p before
      → (R : ℕ → Bool) × Holds R n p after × (downward f step m S ≡ downward f step k R)

module _ {f : ℕ → Bool} {step : ℕ → (ℕ → Bool) → ℕ → Bool} {n p m : ℕ} where
  -- the walk starts at the last
  pub walking_start : {k : ℕ} {a : List ℕ} → k ≡ last_below f m → Walking f step n p m k a a
  walking_start e =
      rw e
      (record { within = last_within f m; stands = last_stands f m; holds = λ S h. (S, h, down_skip f step m S) })

  module _ {k : ℕ} {a₀ a : List ℕ} (w : Walking f step n p m k a₀ a) where
    -- it goes on to the one before
    walking_more : (i k' : ℕ) (b : List ℕ) → k ≡ suc i → k' ≡ last_below f i → ((R : ℕ → Bool) → Holds R n p a → Holds (step i R) n p b) → Walking f step n p m k' a₀ b
    walking_more i k' b e g put =
        rw g
        (record {
          within = omega (arith, last_within f i, w.within);
          stands = last_stands f i;
          holds = λ S h.
              let (R, r, d) = w.holds S h in
              let s : last_below f (suc i) ≡ suc i = subst (λ j. last_below f j ≡ j) e w.stands in
              (step i R, put R r, d ∙ ap (λ j. downward f step j R) e ∙ down_step f step i R s);
        })

    -- and ends at 0
    pub walking_end : k ≤ 0 → (S : ℕ → Bool) → Holds S n p a₀ → Holds (downward f step m S) n p a
    walking_end e S h =
        let (R, r, d) = w.holds S h in
        let z : k ≡ 0 = omega arith in
        subst (λ Q. Holds Q n p a) (sym (d ∙ ap (λ j. downward f step j R) z ∙ down_none f step R)) r

-- ---- the walk along the thread of part p

module _ {f : ℕ → ℕ} {parts room : ℕ} {at next : List ℕ} {step : ℕ → (ℕ → Bool) → ℕ → Bool} {n p m k : ℕ} {a₀ a : List ℕ}
    (t : Threaded f parts room m at next) (inside : p < parts) (w : Walking (λ j. eqb (f j) p) step n p m k a₀ a) (more : 0 < k) where
  -- the walk stands at a number that passes
  stands_here : last_below (λ j. eqb (f j) p) (suc (k - 1)) ≡ suc (k - 1)
  stands_here =
      let z : k ≡ suc (k - 1) = omega arith in
      subst (λ j. last_below (λ i. eqb (f i) p) j ≡ j) z w.stands

  -- the number that the walk has come to is of part p
  pub part_here : f (k - 1) ≡ p
  part_here = eqb-true (f (k - 1)) p (last_passes (λ j. eqb (f j) p) (k - 1) stands_here)

  -- the thread leads to the last before it
  next_is : get_or next (k - 1) 0 ≡ last_below (λ j. eqb (f j) p) (k - 1)
  next_is = thread_on f parts room m at next t p (k - 1) inside (omega (arith, w.within)) stands_here

  -- the thread leads down, so that the walk ends
  pub next_falls : get_or next (k - 1) 0 < k
  next_falls = omega (arith, next_is, last_within (λ j. eqb (f j) p) (k - 1))

  -- once that number has had its step, the thread leads on
  pub walking_on : (k' : ℕ) (b : List ℕ) → k' ≡ get_or next (k - 1) 0 → ((R : ℕ → Bool) → Holds R n p a → Holds (step (k - 1) R) n p b) → Walking (λ j. eqb (f j) p) step n p m k' a₀ b
  walking_on k' b g put = walking_more w (k - 1) k' b (omega arith) (g ∙ next_is) put
