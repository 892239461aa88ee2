-- The ends of an arc, and the arcs of one position, found along their thread and put into its set. Assumes nothing.
use Prim.Native.Nat.{ℕ, ◌+◌, ◌-◌, ◌≤◌, ◌<◌, min, max}
use mathlib.Core.Path.{◌≡◌, refl, ap, ◌∙◌, subst}
use mathlib.Core.Logic.{◌⊎◌, inl}
use mathlib.Core.Bool.{Bool}
use mathlib.Core.List.{List}
use native.Mathlib.Omega.{arith}
use lib.Dec.{eqb}
use lib.ListN.{length, get_or, set, length-set, get_or-replicate}
use lib.Seq.{get_or-set_same, get_or-set_other}
use borrow.Author.Tests.{lt-ltb, le-ltb}
use Rattle.theory.specs.Threads.{Threaded}
use Rattle.theory.proofs.Words.{either, same_or_not}
use Rattle.theory.proofs.Threads.{threads_none, threads_more}
use Rattle.gather.specs.NextMembers.{also, Holds, PutIn}
use Rattle.gather.specs.declared.ArcThreads.{ArcThreads}
use Rattle.gather.specs.Arcs.{Arcs, low_end, high_end, ArcIn, ArcLists, NoArcs, ThreadsOf, with_arc}
use Rattle.gather.proofs.Walking.{Walking, walking_on, next_falls}

-- ---- the ends of an arc

module _ (tails heads rank : List ℕ) (i : ℕ) where
  -- both ends, from what is read one after the other
  pub ends_read : (t h a b : ℕ) → t ≡ get_or tails i 0 → h ≡ get_or heads i 0 → a ≡ get_or rank t 0 → b ≡ get_or rank h 0
      → (min a b ≡ low_end tails heads rank i) × (max a b ≡ high_end tails heads rank i)
  unfolding low_end high_end
  ends_read t h a b et eh ea eb = (rw (← et, ← eh, ← ea, ← eb) refl, rw (← et, ← eh, ← ea, ← eb) refl)

  module _ (n : ℕ) (A : ArcLists tails heads rank n) (there : i < length tails) where
    -- an arc of the lists can be read
    pub arc_in : ArcIn tails heads rank i
    arc_in =
        let (t, h) = A.ends_in i there in
        record { tail_there = there; head_there = omega (arith, A.heads_long); tail_ranked = omega (arith, A.rank_long); head_ranked = omega (arith, A.rank_long) }

    -- its ends stand below n
    pub ends_below : (low_end tails heads rank i < n) × (high_end tails heads rank i < n)
    unfolding low_end high_end
    ends_below =
        let (t, h) = A.ends_in i there in
        let a = A.positions (get_or tails i 0) t in
        let b = A.positions (get_or heads i 0) h in
        (omega arith, omega arith)

-- ---- laying the threads

-- the arcs below i are threaded, and their higher ends kept
pub record Threading (R : Arcs) (room i : ℕ) (at next high : List ℕ) : Type 0 where
  pub within : i ≤ R.count
  pub threads : Threaded R.low 4096 room i at next
  pub high_long : length high ≡ room
  pub kept : (j : ℕ) → j < i → get_or high j 0 ≡ R.high j

-- none yet
pub threading_start : {N : ℕ} (R : Arcs) (t : ArcThreads N) → NoArcs t → Threading R N 0 t.at t.next t.high
threading_start {N} R t (e, l, m) =
    record {
      within = omega arith;
      threads = threads_none R.low 4096 N t.at t.next (ap length e) l (λ q h. rw e (get_or-replicate {A = ℕ} 4096 q 0 0 h));
      high_long = m;
      kept = λ j h. absurd (omega arith);
    }

module _ {R : Arcs} {room i : ℕ} {at next high : List ℕ} (t : Threading R room i at next high) (fits : R.count ≤ room) where
  -- one arc more
  pub threading_more : i < R.count → R.low i < 4096 → (p q : ℕ) → p ≡ R.low i → q ≡ R.high i
      → Threading R room (i + 1) (set at p (i + 1)) (set next i (get_or at p 0)) (set high i q)
  threading_more more low p q ep eq =
      record {
        within = omega arith;
        threads = rw ep (threads_more R.low 4096 room i at next t.threads (omega arith) (omega arith) low);
        high_long = length-set high i q ∙ t.high_long;
        kept = λ j h.
            either (same_or_not j i)
            (λ e. rw (e, ← eq) (get_or-set_same high i q 0 (omega (arith, t.high_long))))
            (λ d. get_or-set_other high i j q 0 d ∙ t.kept j (omega arith));
      }

-- all of them
pub threading_end : {N : ℕ} {R : Arcs} {i : ℕ} (n : ℕ) (t : ArcThreads N) → Threading R N i t.at t.next t.high → R.count ≤ N → R.count ≤ i
    → ((j : ℕ) → j < R.count → R.high j < n) → ThreadsOf R n t
threading_end {N} {R} {i} n t l fits past below =
    let e : i ≡ R.count = omega (arith, l.within) in
    record {
      threads = rw (← e) l.threads;
      fit = fits;
      kept = λ j h. l.kept j (omega arith);
      below = below;
    }

-- ---- the walk along the arcs of p

module _ {N : ℕ} {R : Arcs} {t : ArcThreads N} {n : ℕ} (A : ThreadsOf R n t) (few : n ≤ 4096) where
  -- an arc whose higher end lies above p puts it in
  with_above : (p i : ℕ) (S : ℕ → Bool) → p < R.high i → with_arc R p i S ≡ also S (R.high i)
  unfolding with_arc
  with_above p i S h = rw (lt-ltb p (R.high i) h) refl

  -- any other arc of p runs from p to p
  with_same : (p i : ℕ) (S : ℕ → Bool) → R.high i ≤ p → with_arc R p i S ≡ S
  unfolding with_arc
  with_same p i S h = rw (le-ltb p (R.high i) h) refl

  -- the arcs of p from place k of the thread on have been put in
  module _ {p k : ℕ} {a₀ a : List ℕ} (w : Walking (λ i. eqb (R.low i) p) (with_arc R p) n p R.count k a₀ a) (inside : p < n) (more : 0 < k) where
    -- the arc that the walk has come to is one of the arcs
    pub arc_there : (k - 1 < R.count) × (get_or t.high (k - 1) 0 < n)
    arc_there =
        let l : k - 1 < R.count = omega (arith, w.within) in
        (l, omega (arith, A.kept (k - 1) l, A.below (k - 1) l))

    -- one step of the walk: the arc's higher end is put in or passed over, and the thread leads on
    pub arc_more : (y k' : ℕ) (b : List ℕ) → y ≡ get_or t.high (k - 1) 0 → k' ≡ get_or t.next (k - 1) 0
        → ((p < y) × PutIn p y a b) ⊎ ((y ≤ p) × (b ≡ a)) → Walking (λ i. eqb (R.low i) p) (with_arc R p) n p R.count k' a₀ b
    arc_more y k' b e g s =
        let i = k - 1 in
        let top : y ≡ R.high i = e ∙ A.kept i arc_there.0 in
        walking_on A.threads (omega arith) w more k' b g
        (λ S h. either s
        (λ v.
        rw (with_above p i S (omega (arith, v.0)))
        (subst (λ q. Holds (also S q) n p b) top (v.1.holds S n p h few (omega (arith, A.below i arc_there.0)) (inl refl))))
        (λ v. rw (with_same p i S (omega (arith, v.0)), v.1) h))

    -- the thread leads down, so that the walk ends
    pub arc_falls : get_or t.next (k - 1) 0 < k
    arc_falls = next_falls A.threads (omega arith) w more
