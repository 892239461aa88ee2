-- The arcs threaded by their tails: how the threads are laid, and the walk along those of one tail, which ends at the last arc listed for a
-- pair. Assumes nothing.
use Prim.Native.Nat.{ℕ, zero, suc, ◌+◌, ◌-◌, ◌≤◌, ◌<◌}
use mathlib.Core.Path.{◌≡◌, refl, sym, ap, ◌∙◌, subst}
use mathlib.Core.Bool.{Bool, true, false, ◌&&◌}
use mathlib.Core.List.{List}
use native.Mathlib.Omega.{arith}
use lib.Dec.{T, eqb}
use lib.ListN.{length, get_or, set, replicate, length-replicate, get_or-replicate}
use borrow.Author.Tests.{eq-eqb, ne_eqb}
use Rattle.std.specs.Prelude.{Some, None}
use Rattle.theory.specs.Threads.{last_below}
use Rattle.theory.proofs.Words.{either, split, true_false, holds_true, true_holds, and_l}
use Rattle.theory.proofs.Threads.{last_hit, last_miss, last_none, last_within, last_stands, last_passes, threads_none, threads_more, thread_on}
use Rattle.roads.specs.declared.Roads.{Roads}
use Rattle.roads.specs.Roads.{Falls, Laid, ByTail, one_less, last_arc}

-- ---- laid

-- no arc is threaded yet
pub laid_none : (tails : List ℕ) (R : Roads) → R.at ≡ replicate 4096 0 → length R.next ≡ 16384 → Laid tails 0 R
laid_none tails R e l =
    threads_none (λ j. get_or tails j 0) 4096 16384 R.at R.next (ap length e ∙ length-replicate {A = ℕ} 4096 0) l
    (λ q h. ap (λ a. get_or a q 0) e ∙ get_or-replicate {A = ℕ} 4096 q 0 0 h)

-- one arc more
pub laid_more : (tails : List ℕ) (R : Roads) (i u : ℕ) → Laid tails i R → i < 16384 → u ≡ get_or tails i 0 → u < 4096
    → Laid tails (i + 1) (record { at = set R.at u (i + 1); next = set R.next i (get_or R.at u 0) })
laid_more tails R i u T h e l =
    rw e (threads_more (λ j. get_or tails j 0) 4096 16384 i R.at R.next T (omega arith) h (omega arith))

-- threads stay among the arcs and fall
pub laid_falls : (tails : List ℕ) (R : Roads) (m : ℕ) → Laid tails m R → ((i : ℕ) → i < m → get_or tails i 0 < 4096) → Falls m R
laid_falls tails R m T small =
    record {
      at_long = T.at_long;
      next_long = T.next_long;
      starts = λ u h. omega (arith, T.lasts u h, last_within (λ j. eqb (get_or tails j 0) u) m);
      falls = λ i h. omega (arith, T.befores i h (small i h), last_within (λ j. eqb (get_or tails j 0) (get_or tails i 0)) i);
    }

-- ---- walked

-- the last that passes a narrower test may be looked for from the last that passes the wider one
last_skips : (f g : ℕ → Bool) → ((j : ℕ) → T (f j) → T (g j)) → (k : ℕ) → last_below f k ≡ last_below f (last_below g k)
last_skips f g wider zero = rw (last_none g) refl
last_skips f g wider (suc k) =
    either (split (g k))
    (λ e. rw (last_hit g k e) refl)
    (λ e.
    let no : f k ≡ false =
    either (split (f k)) (λ t. true_false (sym (holds_true (g k) (wider k (true_holds (f k) t))) ∙ e)) (λ t. t) in
    rw (last_miss g k e) (last_miss f k no ∙ last_skips f g wider k))

-- arc i runs from u to v
abbrev goes : (tails heads : List ℕ) (u v i : ℕ) → Bool
goes tails heads u v i = eqb (get_or tails i 0) u && eqb (get_or heads i 0) v

-- the last arc from u to v, if there is one, is the k-th of those from u or an earlier one
pub record Seeking (heads : List ℕ) (R : Roads) (u v k : ℕ) : Type 0 where
  pub within : k ≤ length heads
  pub stands : (tails : List ℕ) → ByTail tails heads R → last_below (λ i. eqb (get_or tails i 0) u) k ≡ k
  pub still : (tails : List ℕ) → ByTail tails heads R → last_below (goes tails heads u v) (length heads) ≡ last_below (goes tails heads u v) k

pub seek_start : (heads : List ℕ) (R : Roads) (u v k : ℕ) → Falls (length heads) R → u < 4096 → k ≡ get_or R.at u 0 → Seeking heads R u v k
seek_start heads R u v k F h e =
    record {
      within = omega (arith, F.starts u h);
      stands = λ tails B. let g = e ∙ B.1.lasts u h in rw g (last_stands (λ i. eqb (get_or tails i 0) u) (length heads));
      still = λ tails B. let g = e ∙ B.1.lasts u h in
          rw g (last_skips (goes tails heads u v) (λ i. eqb (get_or tails i 0) u)
          (λ j t. and_l (eqb (get_or tails j 0) u) (eqb (get_or heads j 0) v) t) (length heads));
    }

module _ (heads : List ℕ) (R : Roads) (u v i k : ℕ) (S₀ : Seeking heads R u v k) (some : 0 < k) (before : i ≡ k - 1) where
  -- the arc looked at is one of the list
  pub seek_within : i < length heads
  seek_within = omega (arith, S₀.within)

  S : Seeking heads R u v (suc i)
  S = let e : k ≡ suc i = omega arith in subst (Seeking heads R u v) e S₀

  -- an arc of the thread has tail u
  from_u : (tails : List ℕ) → ByTail tails heads R → eqb (get_or tails i 0) u ≡ true
  from_u tails B = last_passes (λ j. eqb (get_or tails j 0) u) i (S.stands tails B)

  -- one with head v is the last listed
  pub seek_found : get_or heads i 0 ≡ v → (tails : List ℕ) → ByTail tails heads R
      → Some i ≡ last_arc tails heads u v
  seek_found e tails B =
      let t : goes tails heads u v i ≡ true = rw (from_u tails B, eq-eqb (get_or heads i 0) v e) refl in
      ap one_less (sym (S.still tails B ∙ last_hit (goes tails heads u v) i t))

  -- past one with another head the thread goes on to the arc before it
  pub seek_more : (next_k : ℕ) → Falls (length heads) R → u < 4096 → (get_or heads i 0 ≡ v → ⊥) → next_k ≡ get_or R.next i 0
      → Seeking heads R u v next_k
  seek_more next_k F h n e =
      record {
        within = omega (arith, F.falls i seek_within, seek_within);
        stands = λ tails B. rw (on tails B) (last_stands (λ j. eqb (get_or tails j 0) u) i);
        still = λ tails B.
            let f = goes tails heads u v in
            let t : f i ≡ false = rw (from_u tails B, ne_eqb (get_or heads i 0) v n) refl in
            S.still tails B ∙ last_miss f i t
            ∙ rw (on tails B) (last_skips f (λ j. eqb (get_or tails j 0) u) (λ j t. and_l (eqb (get_or tails j 0) u) (eqb (get_or heads j 0) v) t) i);
      }
    where
      on : (tails : List ℕ) → ByTail tails heads R → next_k ≡ last_below (λ j. eqb (get_or tails j 0) u) i
      on tails B =
          e ∙ thread_on (λ j. get_or tails j 0) 4096 16384 (length heads) R.at R.next B.1 u i h seek_within (S.stands tails B)

-- the thread has ended: no arc is listed
pub seek_end : (heads : List ℕ) (R : Roads) (u v k : ℕ) → Seeking heads R u v k → k ≤ 0 → (tails : List ℕ) → ByTail tails heads R
    → None ≡ last_arc tails heads u v
seek_end heads R u v k S h tails B =
    let e : k ≡ 0 = omega arith in
    ap one_less (sym (S.still tails B ∙ ap (last_below (goes tails heads u v)) e ∙ last_none (goes tails heads u v)))
