-- Threads: how they are laid, and that walking one is the downward scan of all numbers with a test. Assumes nothing.
use Prim.Native.Nat.{ℕ, zero, suc, ◌+◌, ◌≤◌, ◌<◌}
use mathlib.Core.Path.{◌≡◌, refl, sym, ap, ◌∙◌}
use mathlib.Core.Logic.{◌⊎◌, inl, inr}
use mathlib.Core.Bool.{Bool, true, false}
use mathlib.Core.List.{List}
use native.Mathlib.Omega.{arith}
use native.Mathlib.Numerals.{add-one}
use lib.Dec.{eqb}
use lib.ListN.{length, get_or, set, length-set}
use lib.Seq.{get_or-set_same, get_or-set_other}
use borrow.Author.Tests.{eqb-true, eq-eqb, ne_eqb}
use Rattle.theory.proofs.Words.{either, split, same_or_not}
use Rattle.theory.specs.Threads.{last_below, Threaded, downward}

-- ---- the last that passes

-- where the number just below passes it is the last
pub last_hit : (f : ℕ → Bool) (k : ℕ) → f k ≡ true → last_below f (suc k) ≡ suc k
unfolding last_below
last_hit f k e = rw e refl

-- where it does not, it is passed over
pub last_miss : (f : ℕ → Bool) (k : ℕ) → f k ≡ false → last_below f (suc k) ≡ last_below f k
unfolding last_below
last_miss f k e = rw e refl

-- below 0 there is none
pub last_none : (f : ℕ → Bool) → last_below f 0 ≡ 0
unfolding last_below
last_none f = refl

-- the last below k is below k
pub last_within : (f : ℕ → Bool) (k : ℕ) → last_below f k ≤ k
last_within f zero = omega (arith, last_none f)
last_within f (suc k) =
    either (split (f k))
    (λ e. omega (arith, last_hit f k e))
    (λ e. omega (arith, last_miss f k e, last_within f k))

-- the last is the last below what follows it
pub last_stands : (f : ℕ → Bool) (k : ℕ) → last_below f (last_below f k) ≡ last_below f k
last_stands f zero = rw (last_none f) (last_none f)
last_stands f (suc k) =
    either (split (f k))
    (λ e. rw (last_hit f k e) (last_hit f k e))
    (λ e. rw (last_miss f k e) (last_stands f k))

-- the number just below a last passes
pub last_passes : (f : ℕ → Bool) (k : ℕ) → last_below f (suc k) ≡ suc k → f k ≡ true
last_passes f k h =
    either (split (f k)) (λ e. e) (λ e. absurd (omega (arith, h, last_miss f k e, last_within f k)))

-- tests that agree below k have the same last
last_same : (f g : ℕ → Bool) (k : ℕ) → ((j : ℕ) → j < k → f j ≡ g j) → last_below f k ≡ last_below g k
last_same f g zero h = last_none f ∙ sym (last_none g)
last_same f g (suc k) h =
    let r = last_same f g k (λ j l. h j (omega arith)) in
    let s = h k (omega arith) in
    either (split (f k))
    (λ e. last_hit f k e ∙ sym (last_hit g k (sym s ∙ e)))
    (λ e. last_miss f k e ∙ r ∙ sym (last_miss g k (sym s ∙ e)))

-- ---- laying threads

-- nothing is threaded yet
pub threads_none : (f : ℕ → ℕ) (parts room : ℕ) (at next : List ℕ) → length at ≡ 4096 → length next ≡ room → ((q : ℕ) → q < parts → get_or at q 0 ≡ 0) → Threaded f parts room 0 at next
threads_none f parts room at next l m z =
    record {
      at_long = l;
      next_long = m;
      lasts = λ q h. z q h ∙ sym (last_none (λ j. eqb (f j) q));
      befores = λ j h g. absurd (omega arith);
    }

module _ (f : ℕ → ℕ) (parts room i : ℕ) (at next : List ℕ) (t : Threaded f parts room i at next) where
  -- one number more, put in front of its part
  pub threads_more : parts ≤ 4096 → i < room → f i < parts → Threaded f parts room (i + 1) (set at (f i) (i + 1)) (set next i (get_or at (f i) 0))
  threads_more small fits part =
      rw (add-one i)
      (record {
        at_long = length-set at (f i) (suc i) ∙ t.at_long;
        next_long = length-set next i (get_or at (f i) 0) ∙ t.next_long;
        lasts = λ q h.
            either (same_or_not q (f i))
            (λ e.
            rw e
            (get_or-set_same at (f i) (suc i) 0 (omega (arith, t.at_long))
            ∙ sym (last_hit (λ j. eqb (f j) (f i)) i (eq-eqb (f i) (f i) refl))))
            (λ d.
            get_or-set_other at (f i) q (suc i) 0 d
            ∙ t.lasts q h
            ∙ sym (last_miss (λ j. eqb (f j) q) i (ne_eqb (f i) q (λ e. d (sym e)))));
        befores = λ j h g.
            either (same_or_not j i)
            (λ e. rw e (get_or-set_same next i (get_or at (f i) 0) 0 (omega (arith, t.next_long)) ∙ t.lasts (f i) part))
            (λ d. get_or-set_other next i j (get_or at (f i) 0) 0 d ∙ t.befores j (omega arith) g);
      })

  -- one number more, of no part that is threaded
  threads_past : parts ≤ f i → Threaded f parts room (i + 1) at next
  threads_past past =
      rw (add-one i)
      (record {
        at_long = t.at_long;
        next_long = t.next_long;
        lasts = λ q h. t.lasts q h ∙ sym (last_miss (λ j. eqb (f j) q) i (ne_eqb (f i) q (λ e. omega arith)));
        befores = λ j h g.
            either (same_or_not j i)
            (λ e. absurd (omega (arith, ap f e)))
            (λ d. t.befores j (omega arith) g);
      })

  -- both ways in one
  pub threads_by : parts ≤ 4096 → i < room → (part : ℕ) (at' next' : List ℕ) → f i ≡ part
      → ((part < parts) × (at' ≡ set at part (i + 1)) × (next' ≡ set next i (get_or at part 0))) ⊎ ((parts ≤ part) × (at' ≡ at) × (next' ≡ next))
      → Threaded f parts room (i + 1) at' next'
  threads_by small fits part at' next' e s =
      either s
      (λ v. rw (v.1, v.2, ← e) (threads_more small fits (omega (arith, v.0))))
      (λ v. rw (v.1, v.2) (threads_past (omega (arith, v.0))))

  -- functions that agree below i part the same way
  pub threads_same : (g : ℕ → ℕ) → ((j : ℕ) → j < i → f j ≡ g j) → Threaded g parts room i at next
  threads_same g s =
      record {
        at_long = t.at_long;
        next_long = t.next_long;
        lasts = λ q h. t.lasts q h ∙ last_same (λ j. eqb (f j) q) (λ j. eqb (g j) q) i (λ j l. ap (λ v. eqb v q) (s j l));
        befores = λ j h p.
            t.befores j h (omega (arith, s j h))
            ∙ ap (λ v. last_below (λ k. eqb (f k) v) j) (s j h)
            ∙ last_same (λ k. eqb (f k) (g j)) (λ k. eqb (g k) (g j)) j (λ k l. ap (λ v. eqb v (g j)) (s k (omega arith)));
      }

  -- the thread goes on from a number of part p to the one before it
  pub thread_on : (p j : ℕ) → p < parts → j < i → last_below (λ k. eqb (f k) p) (suc j) ≡ suc j → get_or next j 0 ≡ last_below (λ k. eqb (f k) p) j
  thread_on p j inside h s =
      let e : f j ≡ p = eqb-true (f j) p (last_passes (λ k. eqb (f k) p) j s) in
      t.befores j h (omega arith) ∙ ap (λ v. last_below (λ k. eqb (f k) v) j) e

-- ---- walking threads

module _ {A : Type 0} (f : ℕ → Bool) (step : ℕ → A → A) where
  -- no number, no step
  pub down_none : (s : A) → downward f step 0 s ≡ s
  unfolding downward
  down_none s = refl

  -- a number that passes has its step
  down_hit : (k : ℕ) (s : A) → f k ≡ true → downward f step (suc k) s ≡ downward f step k (step k s)
  unfolding downward
  down_hit k s e = rw e refl

  -- one that does not is passed over
  down_miss : (k : ℕ) (s : A) → f k ≡ false → downward f step (suc k) s ≡ downward f step k s
  unfolding downward
  down_miss k s e = rw e refl

  -- the scan may go straight to the last that passes
  pub down_skip : (k : ℕ) (s : A) → downward f step k s ≡ downward f step (last_below f k) s
  down_skip zero s = rw (last_none f) refl
  down_skip (suc k) s =
      either (split (f k))
      (λ e. rw (last_hit f k e) refl)
      (λ e. rw (last_miss f k e) (down_miss k s e ∙ down_skip k s))

  -- and from there, after its step, to the last before it
  pub down_step : (k : ℕ) (s : A) → last_below f (suc k) ≡ suc k → downward f step (suc k) s ≡ downward f step (last_below f k) (step k s)
  down_step k s h = down_hit k s (last_passes f k h) ∙ down_skip k (step k s)

  -- one number more that passes, or does not
  pub down_by : (k : ℕ) (s : A) → ((f k ≡ true) × (downward f step (suc k) s ≡ downward f step k (step k s))) ⊎ ((f k ≡ false) × (downward f step (suc k) s ≡ downward f step k s))
  down_by k s = either (split (f k)) (λ e. inl (e, down_hit k s e)) (λ e. inr (e, down_miss k s e))
