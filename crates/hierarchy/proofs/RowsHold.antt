-- The test of all rows says what the definition of a hierarchy asks of them. Assumes nothing.
use Prim.Native.Nat.{ℕ, zero, suc, ◌+◌, ◌-◌, ◌≤◌, ◌<◌}
use mathlib.Core.Path.{◌≡◌, refl, sym, ◌∙◌, subst}
use mathlib.Core.Bool.{Bool, true, false, ◌&&◌, and-true, and-false}
use mathlib.Core.List.{List, [], ◌∷◌}
use native.Mathlib.Omega.{arith}
use lib.Dec.{T, eqb, ltb, leb}
use lib.ListN.{length, get_or}
use borrow.Author.Tests.{eq-eqb, ne_eqb, le-leb, lt-leb, eqb-true, eqb-false, leb-true}
use Rattle.rules.specs.Words.{each, has}
use Rattle.rules.specs.Graph.{Graph}
use Rattle.rules.specs.Hierarchy.{row_at, first_rises, heads_reach, ascends, row_ascends, all_in, rest_in_parent}
use Rattle.theory.proofs.Words.{either, split, holds_true, true_holds, same_test, and_l, and_r, and_i, ltb_e, ltb_i, each_e, each_i, has_nil, has_cons}
use Rattle.theory.proofs.Built.{all_in_i}
use Rattle.theory.proofs.GraphRows.{ascends_e, ascends_i}
use Rattle.hierarchy.specs.Tests.{rows_hold, in_order, under_parent, row_holds, RowsFrom}
use Rattle.hierarchy.proofs.InOrder.{order_has, order_ascends, order_i}

-- all of some numbers stand in a row
all_e : (qs row : List ℕ) (q : ℕ) → T (all_in qs row) → T (has qs q) → T (has row q)
unfolding all_in
all_e [] row q t h = absurd (has_nil q h)
all_e (x ∷ xs) row q t h =
    either (has_cons x q xs h)
    (λ e. subst (λ y. T (has row y)) e (and_l (has row x) (all_in xs row) t))
    (λ g. all_e xs row q (and_r (has row x) (all_in xs row) t) g)

module _ (n : ℕ) (G : Graph) where
  -- a row by the parent's, where the rows above ascend, ascends and has the rest in the parent's row
  below_parent : (p : ℕ) (xs : List ℕ) → ((c : ℕ) → p < c → c < n → T (ascends (suc c) n (row_at G c)))
      → T (under_parent n G p xs) → T (ascends (suc p) n xs) × T (rest_in_parent G xs)
  unfolding under_parent ascends rest_in_parent
  below_parent p [] above t = (tt, tt)
  below_parent p (c ∷ qs) above t =
      let low : p < c = ltb_e p c (search (and_l, and_r)) in
      let high : c < n = ltb_e c n (search (and_l, and_r)) in
      let row = row_at G c in
      let u : T (in_order qs row) = and_r (ltb p c && ltb c n) (in_order qs row) t in (
        ascends_i (suc p) n c qs low high (order_ascends (suc c) (suc c) n qs row (omega arith) u (above c low high)),
        all_in_i qs row (λ q h. order_has qs row q u h),
      )

  -- and the other way
  parent_below : (p : ℕ) (xs : List ℕ) → ((c : ℕ) → c < n → T (ascends (suc c) n (row_at G c)))
      → T (ascends (suc p) n xs) → T (rest_in_parent G xs) → T (under_parent n G p xs)
  unfolding under_parent rest_in_parent
  parent_below p [] above a t = tt
  parent_below p (c ∷ qs) above a t =
      let (low, high, u) = ascends_e (suc p) n c qs a in
      let row = row_at G c in
      and_i (ltb p c && ltb c n) (in_order qs row)
      (and_i (ltb p c) (ltb c n) (ltb_i p c low) (ltb_i c n high))
      (order_i (suc c) (suc c) n qs row u (above c high) (λ q h. all_e qs row q t h))

  -- what each row passes, from the last down
  from_top : T (each (row_holds n G) n) → (k p : ℕ) → n ≤ p + k → p < n
      → T (ascends (suc p) n (row_at G p)) × T (rest_in_parent G (row_at G p))
  unfolding row_holds
  from_top t zero p m l = absurd (omega arith)
  from_top t (suc k) p m l =
      below_parent p (row_at G p) (λ c a b. (from_top t k c (omega arith) b).0)
      (and_r (leb (get_or G.first p 0) (get_or G.first (suc p) 0)) (under_parent n G p (row_at G p))
      (each_e (row_holds n G) n p t l))

  -- rows by the parent's row are the rows of a hierarchy
  rows_e : T (eqb (length G.first) (suc n) && eqb (get_or G.first 0 0) 0 && heads_reach n G && each (row_holds n G) n)
      → T (rows_hold n G)
  unfolding rows_hold first_rises row_ascends row_holds
  rows_e t =
      let u : T (each (row_holds n G) n) = search and_r in
      let ends : T (each (λ p. leb (get_or G.first p 0) (get_or G.first (suc p) 0)) n) =
      each_i (λ p. leb (get_or G.first p 0) (get_or G.first (suc p) 0)) n
      (λ p l. and_l (leb (get_or G.first p 0) (get_or G.first (suc p) 0)) (under_parent n G p (row_at G p)) (each_e (row_holds n G) n p u l)) in
      let climbs : T (each (row_ascends n G) n) = each_i (row_ascends n G) n (λ p l. (from_top u n p (omega arith) l).0) in
      let rests : T (each (λ p. rest_in_parent G (row_at G p)) n) =
      each_i (λ p. rest_in_parent G (row_at G p)) n (λ p l. (from_top u n p (omega arith) l).1) in
      search (and_i, and_l, and_r) depth 12

  -- and the rows of a hierarchy are so
  rows_i : T (rows_hold n G)
      → T (eqb (length G.first) (suc n) && eqb (get_or G.first 0 0) 0 && heads_reach n G && each (row_holds n G) n)
  unfolding rows_hold first_rises row_ascends row_holds
  rows_i t =
      let climbs : (c : ℕ) → c < n → T (ascends (suc c) n (row_at G c)) = λ c l. each_e (row_ascends n G) n c (search (and_l, and_r)) l in
      let holds : T (each (row_holds n G) n) =
      each_i (row_holds n G) n
      (λ p l.
      and_i (leb (get_or G.first p 0) (get_or G.first (suc p) 0)) (under_parent n G p (row_at G p))
      (each_e (λ p. leb (get_or G.first p 0) (get_or G.first (suc p) 0)) n p (search (and_l, and_r)) l)
      (parent_below p (row_at G p) climbs (climbs p l)
      (each_e (λ p. rest_in_parent G (row_at G p)) n p (search (and_l, and_r)) l))) in
      search (and_i, and_l, and_r) depth 12

  -- so the rows are tested by one look at each, beside the parent's row
  pub same_rows : rows_hold n G ≡ (eqb (length G.first) (suc n) && eqb (get_or G.first 0 0) 0 && heads_reach n G && each (row_holds n G) n)
  same_rows =
      same_test (rows_hold n G)
      (eqb (length G.first) (suc n) && eqb (get_or G.first 0 0) 0 && heads_reach n G && each (row_holds n G) n)
      rows_i rows_e

-- ---- all rows, from the last down

-- the rows from p on hold
pub record Down (n : ℕ) (G : Graph) (p : ℕ) : Type 0 where
  pub within : p ≤ n
  pub rows : RowsFrom n G p
  pub same : each (row_holds n G) n ≡ each (row_holds n G) p

-- none to begin with
pub down_start : (n : ℕ) (G : Graph) → get_or G.first n 0 ≤ length G.heads → Down n G n
down_start n G l =
    record { within = omega arith; rows = record { fits = l; rise = λ q a b. absurd (omega arith) }; same = refl }

-- what is known above the next row
pub down_rows : {n p : ℕ} {G : Graph} → Down n G p → 0 < p → (q : ℕ) → q ≡ p - 1 → (q < n) × RowsFrom n G (q + 1)
down_rows {n} {p} {G} d l q e =
    let g : p ≡ q + 1 = omega arith in
    (omega (arith, d.within), subst (λ k. RowsFrom n G k) g d.rows)

-- all rows hold if the next one and those below it do
down_same : {n p : ℕ} {G : Graph} → Down n G p → 0 < p → (q : ℕ) → q ≡ p - 1
    → each (row_holds n G) n ≡ (each (row_holds n G) q && row_holds n G q)
unfolding each
down_same {n} {p} {G} d l q e = let g : p ≡ suc q = omega arith in d.same ∙ rw g refl

-- the next row does not hold
pub down_fails : {n p : ℕ} {G : Graph} → Down n G p → 0 < p → (q : ℕ) (r : Bool) → q ≡ p - 1 → r ≡ row_holds n G q → r ≡ false
    → false ≡ each (row_holds n G) n
down_fails {n} {G} d l q r e s t = sym (down_same d l q e ∙ rw (sym s ∙ t) (and-false (each (row_holds n G) q)))

-- one row more holds
pub down_more : {n p : ℕ} {G : Graph} → Down n G p → 0 < p → (q : ℕ) (r : Bool) → q ≡ p - 1 → r ≡ row_holds n G q → r ≡ true → Down n G q
unfolding row_holds
down_more {n} {p} {G} d l q r e s t =
    let g : p ≡ suc q = omega arith in
    let u : T (row_holds n G q) = true_holds (row_holds n G q) (sym s ∙ t) in
    let v : get_or G.first q 0 ≤ get_or G.first (suc q) 0 = leb-true (get_or G.first q 0) (get_or G.first (suc q) 0) (holds_true (leb (get_or G.first q 0) (get_or G.first (suc q) 0)) (search and_l)) in
    let w : get_or G.first (suc q) 0 ≤ length G.heads = subst (λ k. get_or G.first k 0 ≤ length G.heads) g d.rows.fits in
    record {
      within = omega (arith, d.within);
      rows = record {
        fits = omega arith;
        rise = λ i a b.
            either (split (eqb i q))
            (λ x. subst (λ k. (get_or G.first k 0 ≤ get_or G.first (suc k) 0) × (get_or G.first (suc k) 0 ≤ length G.heads)) (sym (eqb-true i q x)) (v, w))
            (λ x. d.rows.rise i (omega (arith, eqb-false i q x)) b);
      };
      same = down_same d l q e ∙ rw (sym s ∙ t) (and-true (each (row_holds n G) q));
    }

-- all of them hold
pub down_end : {n p : ℕ} {G : Graph} → Down n G p → p ≡ 0 → true ≡ each (row_holds n G) n
unfolding each
down_end {n} {G} d e = sym (d.same ∙ rw e refl)

-- ---- what the test says, step by step

module _ (n : ℕ) (G : Graph) where
  -- first is not n + 1 long
  pub rows_length : (length G.first ≡ suc n → ⊥) → false ≡ rows_hold n G
  rows_length x = sym (same_rows n G ∙ rw (ne_eqb (length G.first) (suc n) x) refl)

  module _ (long : length G.first ≡ suc n) where
    -- first does not start with 0
    pub rows_start : (get_or G.first 0 0 ≡ 0 → ⊥) → false ≡ rows_hold n G
    rows_start x = sym (same_rows n G ∙ rw (eq-eqb (length G.first) (suc n) long, ne_eqb (get_or G.first 0 0) 0 x) refl)

    -- heads is shorter than E
    pub rows_room : get_or G.first 0 0 ≡ 0 → length G.heads < get_or G.first n 0 → false ≡ rows_hold n G
    rows_room z x = sym (same_rows n G ∙ rw (eq-eqb (length G.first) (suc n) long, eq-eqb (get_or G.first 0 0) 0 z, lt-leb (get_or G.first n 0) (length G.heads) x) refl)

    -- the rows decide
    pub rows_each : (r : Bool) → get_or G.first 0 0 ≡ 0 → get_or G.first n 0 ≤ length G.heads → r ≡ each (row_holds n G) n → r ≡ rows_hold n G
    rows_each r z x e =
        e ∙ sym (same_rows n G ∙ rw (eq-eqb (length G.first) (suc n) long, eq-eqb (get_or G.first 0 0) 0 z, le-leb (get_or G.first n 0) (length G.heads) x) refl)
