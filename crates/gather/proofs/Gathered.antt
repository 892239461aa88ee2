-- The row of p is made of p's arcs and of the rows of p's children: what the scans bring together is the row of the definition. Assumes nothing.
use Prim.Native.Nat.{ℕ, zero, suc, ◌-◌, ◌<◌}
use mathlib.Core.Path.{◌≡◌, sym, ap, ◌∙◌, subst}
use mathlib.Core.Logic.{◌⊎◌, inl, inr}
use mathlib.Core.Bool.{Bool, true, ◌&&◌}
use mathlib.Core.List.{List, [], ◌∷◌}
use native.Mathlib.Omega.{arith}
use lib.Dec.{T, eqb, ltb, leb}
use lib.ListN.{get_or, drop}
use borrow.Author.Tests.{eqb-true, eq-eqb, ltb-true, lt-ltb, leb-true, leb-false}
use Rattle.rules.specs.Words.{has}
use Rattle.rules.specs.Net.{Net, size, arcs, tail, head, junction, runs, two_positions}
use Rattle.rules.specs.Graph.{arc_joins, joined, row, parent_of}
use Rattle.theory.specs.Orders.{Inverse}
use Rattle.theory.specs.Threads.{downward}
use Rattle.theory.proofs.Words.{either, split, true_false, same_test, and_l, and_r, and_i, eqb_e, eqb_i, has_cons, has_there, same_or_not}
use Rattle.theory.proofs.Those.{those_same}
use Rattle.theory.proofs.Joined.{two_e, two_i, arc_e, arc_i}
use Rattle.theory.proofs.GraphRows.{row_e, row_i, row_parts, parts_row}
use Rattle.theory.proofs.Threads.{down_none, down_by}
use Rattle.gather.specs.NextMembers.{nobody, also_all, members}
use Rattle.gather.specs.Arcs.{Arcs, low_end, high_end, arcs_of, with_arc, with_arcs}
use Rattle.gather.proofs.Members.{also_e, also_l, also_r, all_e, all_l, all_r}

-- ---- what a scan brings into a set

module _ (f : ℕ → Bool) (step : ℕ → (ℕ → Bool) → ℕ → Bool) (Brings : ℕ → ℕ → Type 0) where
  -- a member after the scan was one before, or was brought by a number that passes
  scan_e : ((j q : ℕ) (R : ℕ → Bool) → T (step j R q) → T (R q) ⊎ Brings j q) → (k q : ℕ) (S : ℕ → Bool) → T (downward f step k S q)
      → T (S q) ⊎ ((j : ℕ) × (j < k) × (f j ≡ true) × Brings j q)
  scan_e g zero q S t = inl (subst (λ (P : ℕ → Bool). T (P q)) (down_none f step S) t)
  scan_e g (suc k) q S t =
      either (down_by f step k S)
      (λ v. either (scan_e g k q (step k S) (subst (λ (P : ℕ → Bool). T (P q)) v.1 t))
      (λ s. either (g k q S s) (λ r. inl r) (λ b. inr (k, omega arith, v.0, b)))
      (λ w. inr (w.0, omega (arith, w.1), w.2, w.3)))
      (λ v. either (scan_e g k q S (subst (λ (P : ℕ → Bool). T (P q)) v.1 t))
      (λ s. inl s)
      (λ w. inr (w.0, omega (arith, w.1), w.2, w.3)))

  module _ (keeps : (j q : ℕ) (R : ℕ → Bool) → T (R q) → T (step j R q)) where
    -- a member stays one
    scan_l : (k q : ℕ) (S : ℕ → Bool) → T (S q) → T (downward f step k S q)
    scan_l zero q S t = subst (λ (P : ℕ → Bool). T (P q)) (sym (down_none f step S)) t
    scan_l (suc k) q S t =
        either (down_by f step k S)
        (λ v. subst (λ (P : ℕ → Bool). T (P q)) (sym v.1) (scan_l k q (step k S) (keeps k q S t)))
        (λ v. subst (λ (P : ℕ → Bool). T (P q)) (sym v.1) (scan_l k q S t))

    -- and what a number that passes brings is one
    scan_r : ((j q : ℕ) (R : ℕ → Bool) → Brings j q → T (step j R q)) → (k q j : ℕ) (S : ℕ → Bool) → j < k → f j ≡ true → Brings j q → T (downward f step k S q)
    scan_r brings zero q j S l e b = absurd (omega arith)
    scan_r brings (suc k) q j S l e b =
        either (same_or_not j k)
        (λ i.
        either (down_by f step k S)
        (λ v. subst (λ (P : ℕ → Bool). T (P q)) (sym v.1) (scan_l k q (step k S) (brings k q S (subst (λ m. Brings m q) i b))))
        (λ v. true_false (sym e ∙ ap f i ∙ v.0)))
        (λ d.
        let m : j < k = omega arith in
        either (down_by f step k S)
        (λ v. subst (λ (P : ℕ → Bool). T (P q)) (sym v.1) (scan_r brings k q j (step k S) m e b))
        (λ v. subst (λ (P : ℕ → Bool). T (P q)) (sym v.1) (scan_r brings k q j S m e b)))

-- ---- the first entry left out

-- what stands behind the first entry stands in the list
rest_has : (xs : List ℕ) (q : ℕ) → T (has (drop 1 xs) q) → T (has xs q)
rest_has [] q t = t
rest_has (x ∷ xs) q t = has_there x q xs t

-- and what stands in the list and is not the first entry stands behind it
has_rest : (xs : List ℕ) (n p q : ℕ) → get_or xs 0 n ≡ p → p < q → T (has xs q) → T (has (drop 1 xs) q)
has_rest [] n p q e l t = t
has_rest (x ∷ xs) n p q e l t = either (has_cons x q xs t) (λ i. absurd (omega arith)) (λ h. h)

module _ (N : Net) (rank : List ℕ) (I : Inverse N.order rank) where
  -- the arcs, by the positions of their ends
  abbrev ends : Arcs
  ends = arcs_of N.tails N.heads rank

  abbrev low : ℕ → ℕ
  low = ends.low

  abbrev high : ℕ → ℕ
  high = ends.high

  -- ---- arcs

  -- an arc that runs between the junctions at p and q has p and q for its ends
  ends_of : (p q i : ℕ) → p < q → q < size N → T (runs N (junction N p) (junction N q) i) ⊎ T (runs N (junction N q) (junction N p) i) → (low i ≡ p) × (high i ≡ q)
  unfolding low_end high_end
  ends_of p q i l h s =
      either s
      (λ t.
      let a : get_or rank (tail N i) 0 ≡ p = ap (λ j. get_or rank j 0) (eqb_e (tail N i) (junction N p) (and_l (eqb (tail N i) (junction N p)) (eqb (head N i) (junction N q)) t)) ∙ I.back p (omega arith) in
      let b : get_or rank (head N i) 0 ≡ q = ap (λ j. get_or rank j 0) (eqb_e (head N i) (junction N q) (and_r (eqb (tail N i) (junction N p)) (eqb (head N i) (junction N q)) t)) ∙ I.back q h in
      (omega arith, omega arith))
      (λ t.
      let a : get_or rank (tail N i) 0 ≡ q = ap (λ j. get_or rank j 0) (eqb_e (tail N i) (junction N q) (and_l (eqb (tail N i) (junction N q)) (eqb (head N i) (junction N p)) t)) ∙ I.back q h in
      let b : get_or rank (head N i) 0 ≡ p = ap (λ j. get_or rank j 0) (eqb_e (head N i) (junction N p) (and_r (eqb (tail N i) (junction N q)) (eqb (head N i) (junction N p)) t)) ∙ I.back p (omega arith) in
      (omega arith, omega arith))

  -- and only such an arc has
  of_ends : (p q i : ℕ) → (tail N i < size N) × (head N i < size N) → low i ≡ p → high i ≡ q → T (runs N (junction N p) (junction N q) i) ⊎ T (runs N (junction N q) (junction N p) i)
  unfolding low_end high_end
  of_ends p q i (t, h) a b =
      either (split (leb (get_or rank (tail N i) 0) (get_or rank (head N i) 0)))
      (λ e.
      let l = leb-true (get_or rank (tail N i) 0) (get_or rank (head N i) 0) e in
      let x : get_or rank (tail N i) 0 ≡ p = omega arith in
      let y : get_or rank (head N i) 0 ≡ q = omega arith in
      inl (and_i (eqb (tail N i) (junction N p)) (eqb (head N i) (junction N q))
      (eqb_i (tail N i) (junction N p) (sym (I.there (tail N i) t) ∙ ap (junction N) x))
      (eqb_i (head N i) (junction N q) (sym (I.there (head N i) h) ∙ ap (junction N) y))))
      (λ e.
      let l = leb-false (get_or rank (tail N i) 0) (get_or rank (head N i) 0) e in
      let x : get_or rank (tail N i) 0 ≡ q = omega arith in
      let y : get_or rank (head N i) 0 ≡ p = omega arith in
      inr (and_i (eqb (tail N i) (junction N q)) (eqb (head N i) (junction N p))
      (eqb_i (tail N i) (junction N q) (sym (I.there (tail N i) t) ∙ ap (junction N) x))
      (eqb_i (head N i) (junction N p) (sym (I.there (head N i) h) ∙ ap (junction N) y))))

  -- an arc's ends are positions of the net
  high_small : (i : ℕ) → (tail N i < size N) × (head N i < size N) → high i < size N
  unfolding high_end
  high_small i (t, h) = omega (arith, I.position (tail N i) t, I.position (head N i) h)

  -- what an arc of p brings is its higher end, if that lies above p
  arc_brings : (p j q : ℕ) (R : ℕ → Bool) → T (with_arc ends p j R q) → T (R q) ⊎ ((high j ≡ q) × (p < q))
  unfolding with_arc
  arc_brings p j q R t =
      either (split (ltb p (high j)))
      (λ e. either (also_e R (high j) q (rw e at t)) (λ s. inl s) (λ i. inr (sym i, omega (arith, ltb-true p (high j) e))))
      (λ e. inl (rw e at t))

  -- it takes nothing away
  arc_keeps : (p j q : ℕ) (R : ℕ → Bool) → T (R q) → T (with_arc ends p j R q)
  unfolding with_arc
  arc_keeps p j q R t = either (split (ltb p (high j))) (λ e. rw e (also_l R (high j) q t)) (λ e. rw e t)

  -- and such a higher end is put in
  arc_puts : (p j q : ℕ) (R : ℕ → Bool) → (high j ≡ q) × (p < q) → T (with_arc ends p j R q)
  unfolding with_arc
  arc_puts p j q R (e, l) = rw (lt-ltb p (high j) (omega arith)) (also_r R (high j) q (sym e))

  module _ (ends_in : (i : ℕ) → i < arcs N → (tail N i < size N) × (head N i < size N)) (p : ℕ) (inside : p < size N) where
    -- what the arcs of p bring
    abbrev arc_set : ℕ → Bool
    arc_set = with_arcs ends p nobody

    -- it is joined to p by an arc
    arcs_e : (q : ℕ) → T (arc_set q) → T (two_positions N p q && arc_joins N p q)
    arcs_e q t =
        either (scan_e (λ i. eqb (low i) p) (with_arc ends p) (λ j q. (high j ≡ q) × (p < q)) (arc_brings p) (arcs N) q nobody t)
        (λ s. absurd s)
        (λ w.
        let l = w.1 in
        let i = w.0 in
        let b = w.3.0 in
        let m = w.3.1 in
        let small : q < size N = omega (arith, b, high_small i (ends_in i l)) in
        and_i (two_positions N p q) (arc_joins N p q) (two_i N p q inside small (omega arith))
        (arc_i N p q i l (of_ends p q i (ends_in i l) (eqb-true (low i) p w.2) b)))

    -- and all of it
    arcs_i : (q : ℕ) → p < q → T (two_positions N p q && arc_joins N p q) → T (arc_set q)
    arcs_i q l t =
        let (a, b, d) = two_e N p q (and_l (two_positions N p q) (arc_joins N p q) t) in
        let (i, h, s) = arc_e N p q (and_r (two_positions N p q) (arc_joins N p q) t) in
        let (x, y) = ends_of p q i l b s in
        scan_r (λ i. eqb (low i) p) (with_arc ends p) (λ j q. (high j ≡ q) × (p < q)) (arc_keeps p) (arc_puts p) (arcs N) q i nobody h
        (eq-eqb (low i) p x) (y, l)

    -- ---- arcs and children

    module _ (rows : ℕ → List ℕ) (same : (c : ℕ) → c < p → rows c ≡ row N c) where
      -- what the arcs and the children of p bring
      abbrev made : ℕ → Bool
      made = downward (λ c. eqb (get_or (rows c) 0 (size N)) p) (λ c. also_all (drop 1 (rows c))) p arc_set

      -- what was brought together is in the row
      made_e : (q : ℕ) → p < q → T (made q) → T (has (row N p) q)
      unfolding parent_of
      made_e q l t =
          parts_row N p q l
          (either (scan_e (λ c. eqb (get_or (rows c) 0 (size N)) p) (λ c. also_all (drop 1 (rows c))) (λ c q. T (has (drop 1 (rows c)) q)) (λ c q R. all_e (drop 1 (rows c)) q R) p q arc_set t)
          (λ s. inl (arcs_e q s))
          (λ w.
          let e = same w.0 w.1 in
          inr (w.0, w.1, ap (λ l. get_or l 0 (size N)) (sym e) ∙ eqb-true (get_or (rows w.0) 0 (size N)) p w.2, subst (λ l. T (has l q)) e (rest_has (rows w.0) q w.3))))

      -- and what is in the row was brought
      made_i : (q : ℕ) → p < q → T (has (row N p) q) → T (made q)
      unfolding parent_of
      made_i q l t =
          either (row_parts N p q t)
          (λ u. scan_l (λ c. eqb (get_or (rows c) 0 (size N)) p) (λ c. also_all (drop 1 (rows c))) (λ c q. T (has (drop 1 (rows c)) q)) (λ c q R. all_l (drop 1 (rows c)) q R) p q arc_set (arcs_i q l u))
          (λ w.
          let e = same w.0 w.1 in
          let g : get_or (rows w.0) 0 (size N) ≡ p = ap (λ l. get_or l 0 (size N)) e ∙ w.2 in
          scan_r (λ c. eqb (get_or (rows c) 0 (size N)) p) (λ c. also_all (drop 1 (rows c))) (λ c q. T (has (drop 1 (rows c)) q)) (λ c q R. all_l (drop 1 (rows c)) q R)
          (λ c q R. all_r (drop 1 (rows c)) q R) p q w.0 arc_set w.1 (eq-eqb (get_or (rows w.0) 0 (size N)) p g)
          (has_rest (rows w.0) (size N) p q g l (subst (λ l. T (has l q)) (sym e) w.3)))

      -- so its members in ascending order are the row
      pub row_made : members made (size N) p ≡ row N p
      unfolding row
      row_made =
          those_same made (joined N p) (suc p) (size N - suc p)
          (λ q l m.
          same_test (made q) (joined N p q)
          (λ t. (row_e N p q (made_e q l t)).1)
          (λ t. made_i q l (row_i N p q l t)))
