-- The children of one position, found along their thread, and their rows put into its set. Assumes nothing.
use Prim.Native.Nat.{ℕ, suc, ◌+◌, ◌-◌, ◌≤◌, ◌<◌}
use mathlib.Core.Path.{◌≡◌, refl, sym, ap, ◌∙◌}
use mathlib.Core.Logic.{inl}
use mathlib.Core.List.{List}
use native.Mathlib.Omega.{arith}
use native.Mathlib.Numerals.{add-one}
use lib.Dec.{T, eqb, ltb}
use lib.ListN.{length, get_or, take, drop, get_or-eq_default}
use lib.Seq.{slice, slice-cons, length-slice, drop-drop}
use Rattle.std.proofs.lemmas.List.{drop-take}
use borrow.Author.Tests.{ltb-true, ltb-false}
use Rattle.rules.specs.Hierarchy.{row_at, ascends, row_ascends}
use Rattle.rules.specs.Graph.{Graph}
use Rattle.theory.specs.Threads.{Threaded}
use Rattle.theory.proofs.Words.{either, split}
use Rattle.theory.proofs.GraphRows.{ascends_e}
use Rattle.gather.specs.NextMembers.{also_all, AllPutIn, AscendingPart}
use Rattle.gather.specs.Gathered.{parent_in, RowsIn}
use Rattle.gather.proofs.Walking.{Walking, part_here, next_falls, walking_on}

module _ {G : Graph} {at next : List ℕ} {n p : ℕ} (rows : RowsIn G n p) (inside : p < n)
    (t : Threaded (parent_in G n) n 4096 p at next) where
  -- the rows of p's children from place k of the thread on have been put in
  abbrev ChildWalk : ℕ → List ℕ → List ℕ → Type 0
  ChildWalk = Walking (λ c. eqb (parent_in G n c) p) (λ c. also_all (drop 1 (row_at G c))) n p p

  module _ {k : ℕ} {a₀ a : List ℕ} (w : Walking (λ c. eqb (parent_in G n c) p) (λ c. also_all (drop 1 (row_at G c))) n p p k a₀ a) (more : 0 < k) where
    -- the child that the walk has come to
    abbrev child : ℕ
    child = k - 1

    -- its parent is p
    child_of : parent_in G n child ≡ p
    child_of = part_here t inside w more

    -- the thread leads down, so that the walk ends
    pub child_falls : get_or next child 0 < k
    child_falls = next_falls t inside w more

    -- it lies below p
    pub child_below : child < p
    child_below = omega (arith, w.within)

    -- its row is not empty
    child_filled : get_or G.first child 0 < get_or G.first (suc child) 0
    child_filled =
        either (split (ltb (get_or G.first child 0) (get_or G.first (suc child) 0)))
        (λ e. ltb-true (get_or G.first child 0) (get_or G.first (suc child) 0) e)
        (λ e.
        let l : length (row_at G child) ≡ get_or G.first (suc child) 0 - get_or G.first child 0 =
        length-slice (get_or G.first child 0) (get_or G.first (suc child) 0) G.heads (rows.within child child_below).1 in
        absurd (omega (arith, child_of, get_or-eq_default (row_at G child) n {n = 0} (omega (arith, l, ltb-false (get_or G.first child 0) (get_or G.first (suc child) 0) e)))))

    -- its row but for p ascends above p
    child_ascends : T (ascends (suc p) n (slice (suc (get_or G.first child 0)) (get_or G.first (suc child) 0) G.heads))
    unfolding row_ascends
    child_ascends =
        let s = slice-cons (get_or G.first child 0) (get_or G.first (suc child) 0) G.heads 0 child_filled (rows.within child child_below).1 in
        let h : get_or G.heads (get_or G.first child 0) 0 ≡ p = sym (ap (λ l. get_or l 0 n) s) ∙ child_of in
        let (a, b, u) = ascends_e (suc child) n (get_or G.heads (get_or G.first child 0) 0) (slice (suc (get_or G.first child 0)) (get_or G.first (suc child) 0) G.heads) (rw s at (rows.ascend child child_below)) in
        rw h at u

    module _ {from to : ℕ} (ef : from ≡ get_or G.first child 0) (et : to ≡ get_or G.first (child + 1) 0) where
      -- its end, by the next position
      et' : to ≡ get_or G.first (suc child) 0
      et' = et ∙ ap (λ i. get_or G.first i 0) (add-one child)

      -- it lies in the list
      pub child_bounds : (from < to) × (to ≤ length G.heads)
      child_bounds = (omega (arith, child_filled, et'), omega (arith, (rows.within child child_below).1, et'))

      -- the part behind its first entry, as a list of its own
      behind : take (to - (from + 1)) (drop (from + 1) G.heads) ≡ slice (from + 1) to G.heads
      behind =
          let e : (from + 1) + (to - (from + 1)) ≡ to = omega (arith, child_filled, et') in
          sym (drop-take (from + 1) (to - (from + 1)) G.heads) ∙ ap (λ m. drop (from + 1) (take m G.heads)) e

      -- and can be put in
      pub child_part : AscendingPart (take (to - (from + 1)) (drop (from + 1) G.heads)) n p
      child_part =
          rw behind
          (record {
            few = rows.few;
            inside = inside;
            ascend = rw (add-one from, ef, et') child_ascends;
          })

      -- one step of the walk: the child's row but for p is put in, and the thread leads on
      pub child_more : (k' : ℕ) (b : List ℕ) → k' ≡ get_or next child 0 → AllPutIn (take (to - (from + 1)) (drop (from + 1) G.heads)) n p a b → ChildWalk k' a₀ b
      child_more k' b g put =
          let e : drop 1 (row_at G child) ≡ take (to - (from + 1)) (drop (from + 1) G.heads) = (let d : drop 1 (row_at G child) ≡ slice (from + 1) to G.heads = rw (← ef, ← et') (drop-drop 1 from (take to G.heads)) in d) ∙ sym behind in
          walking_on t inside w more k' b g
          (λ R h. rw e (put.holds R p h (inl refl)))
