-- The search of a row: its loop, and what its answer says of an edge. Assumes nothing.
use Prim.Native.Nat.{ℕ, ◌+◌, ◌-◌, ◌≤◌, ◌<◌}
use mathlib.Core.Path.{◌≡◌, refl, sym, ap, ◌∙◌, subst}
use mathlib.Core.Logic.{◌≢◌}
use mathlib.Core.Bool.{Bool}
use mathlib.Core.List.{List}
use native.Mathlib.Omega.{arith}
use lib.Dec.{T, eqb, ltb}
use lib.ListN.{length, get_or}
use borrow.Author.Tests.{ltb-true, ltb-false, lt-ltb, le-ltb, eqb-true, eqb-false}
use Rattle.std.specs.Prelude.{Option, Some, None}
use Rattle.rules.specs.Words.{lowest}
use Rattle.rules.specs.Hierarchy.{linked}
use Rattle.theory.proofs.Words.{either, split, eqb_i, eqb_e, lowest_is, lowest_le, lowest_none, lowest_from, lowest_passes, lowest_before}
use Rattle.lists.specs.Lent.{Ascending, found_in, Placed, edge_found}
use Rattle.rules.specs.Graph.{Graph}
use Rattle.theory.specs.Rows.{Rows, InRow}
use Rattle.theory.proofs.Rows.{row_ends, next_row, linked_e, in_row_i}

-- not found before place k
pub record Unfound (heads : List ℕ) (from to y k : ℕ) : Type 0 where
  pub low : from ≤ k
  pub high : k ≤ to
  pub none : (i : ℕ) → from ≤ i → i < k → get_or heads i 0 ≢ y

pub unfound_more : {heads : List ℕ} {from to y k : ℕ} → Unfound heads from to y k → k < to → (get_or heads k 0 ≡ y → ⊥) → Unfound heads from to y (k + 1)
unfound_more {heads} {from} {to} {y} {k} u h n =
    record {
      low = omega (arith, u.low);
      high = omega arith;
      none = λ i a b e.
          either (split (eqb i k))
          (λ d. n (sym (ap (λ x. get_or heads x 0) (eqb-true i k d)) ∙ e))
          (λ d. u.none i a (omega (arith, eqb-false i k d)) e);
    }

-- nor before an earlier place
pub unfound_less : {heads : List ℕ} {from to y k j : ℕ} → Unfound heads from to y k → from ≤ j → j ≤ k → Unfound heads from to y j
unfound_less u l h = record { low = l; high = omega (arith, u.high); none = λ i a b. u.none i a (omega arith) }

module _ {heads : List ℕ} {from to y k : ℕ} (climb : Ascending heads from to) (u : Unfound heads from to y k) (h : k + 1 < to) where
  -- where the second of two is y, the first is not
  pub second_only : get_or heads (k + 1) 0 ≡ y → Unfound heads from to y (k + 1)
  second_only e = unfound_more u (omega arith) (λ d. omega (arith, climb k (k + 1) u.low (omega arith) h))

  -- where the second is below y, so is the first
  pub both_below : get_or heads (k + 1) 0 < y → Unfound heads from to y (k + 2)
  both_below l =
      let s = unfound_more u (omega arith) (λ d. omega (arith, climb k (k + 1) u.low (omega arith) h)) in
      let e : k + 1 + 1 ≡ k + 2 = omega arith in
      subst (Unfound heads from to y) e (unfound_more s h (λ d. omega arith))

  -- where the second is above y and the first is not y, there is none at all
  pub none_later : y < get_or heads (k + 1) 0 → (get_or heads k 0 ≡ y → ⊥) → Unfound heads from to y to
  none_later l n =
      let s = unfound_more u (omega arith) n in
      record {
        low = omega (arith, u.low);
        high = omega arith;
        none = λ i a b e.
            either (split (ltb i (k + 1)))
            (λ d. s.none i a (ltb-true i (k + 1) d) e)
            (λ d.
            either (split (eqb i (k + 1)))
            (λ t. omega (arith, ap (λ x. get_or heads x 0) (eqb-true i (k + 1) t)))
            (λ t. omega (arith, climb (k + 1) i (omega (arith, u.low)) (omega (arith, ltb-false i (k + 1) d, eqb-false i (k + 1) t)) b)));
      }

pub found_at : {heads : List ℕ} {from to y k : ℕ} → Unfound heads from to y k → k < to → get_or heads k 0 ≡ y → Some k ≡ found_in heads from to y
unfolding found_in
found_at {heads} {from} {to} {y} {k} u h e =
    let f : ℕ → Bool = λ i. eqb (get_or heads i 0) y in
    let l : lowest f from (to - from) ≡ k =
    lowest_is f from (to - from) k u.low (omega (arith, u.low)) (eqb_i (get_or heads k 0) y e) (λ q a b t. u.none q a b (eqb_e (get_or heads q 0) y t)) in
    rw (l, lt-ltb k to h) refl

pub found_none : {heads : List ℕ} {from to y k : ℕ} → Unfound heads from to y k → to ≤ k → None ≡ found_in heads from to y
unfolding found_in
found_none {heads} {from} {to} {y} {k} u h =
    let f : ℕ → Bool = λ i. eqb (get_or heads i 0) y in
    let l : lowest f from (to - from) ≡ from + (to - from) =
    lowest_none f from (to - from) (λ q a b t. u.none q a (omega (arith, u.low)) (eqb_e (get_or heads q 0) y t)) in
    rw (l, le-ltb (from + (to - from)) to (omega (arith, u.low, u.high))) refl

-- what the search's answer says
pub found_placed : (heads : List ℕ) (from to y k : ℕ) → found_in heads from to y ≡ Some k → from ≤ to → Placed heads from to y k
unfolding found_in
found_placed heads from to y k e h =
    let f : ℕ → Bool = λ i. eqb (get_or heads i 0) y in
    let l = lowest f from (to - from) in
    either (split (ltb l to))
    (λ d.
    let g : Some l ≡ Some k = rw d at e in
    let same : l ≡ k = cc in
    let t = lowest_passes f from (to - from) (let x = ltb-true l to d in omega arith) in
    record {
      low = omega (arith, lowest_from f from (to - from));
      high = omega (arith, ltb-true l to d);
      there = ap (λ x. get_or heads x 0) (sym same) ∙ eqb_e (get_or heads l 0) y t;
    })
    (λ d. let g : None ≡ Some k = rw d at e in let z : ◌≡◌ {A = ℕ} 0 1 = cc in absurd (omega arith))

-- before the place that it tells it is not
found_before : (heads : List ℕ) (from to y k : ℕ) → found_in heads from to y ≡ Some k → (i : ℕ) → from ≤ i → i < k → get_or heads i 0 ≢ y
unfolding found_in
found_before heads from to y k e i a b t =
    let f : ℕ → Bool = λ i. eqb (get_or heads i 0) y in
    let l = lowest f from (to - from) in
    either (split (ltb l to))
    (λ d.
    let g : Some l ≡ Some k = rw d at e in
    let same : l ≡ k = cc in
    lowest_before f from (to - from) i a (omega arith) (eqb_i (get_or heads i 0) y t))
    (λ d. let g : None ≡ Some k = rw d at e in let z : ◌≡◌ {A = ℕ} 0 1 = cc in absurd (omega arith))

pub found_nowhere : (heads : List ℕ) (from to y : ℕ) → found_in heads from to y ≡ None → (k : ℕ) → from ≤ k → k < to → get_or heads k 0 ≢ y
unfolding found_in
found_nowhere heads from to y e k a b t =
    let f : ℕ → Bool = λ i. eqb (get_or heads i 0) y in
    let l = lowest f from (to - from) in
    either (split (ltb l to))
    (λ d. let g : Some l ≡ None = rw d at e in let z : ◌≡◌ {A = ℕ} 0 1 = cc in omega arith)
    (λ d. let m = lowest_le f from (to - from) k a (eqb_i (get_or heads k 0) y t) in omega (arith, ltb-false l to d))

-- a search that goes on from a place before which y is not found is the whole search
pub found_later : {heads : List ℕ} {from to y k : ℕ} → Unfound heads from to y k → found_in heads k to y ≡ found_in heads from to y
found_later {heads} {from} {to} {y} {k} u = told (found_in heads k to y) refl
  where
    told : (r : Option ℕ) → found_in heads k to y ≡ r → found_in heads k to y ≡ found_in heads from to y
    told (Some j) e =
        let p = found_placed heads k to y j e u.high in
        e ∙ found_at (record {
          low = omega (arith, u.low, p.low);
          high = omega (arith, p.high);
          none = λ i a b d.
              either (split (ltb i k)) (λ t. u.none i a (ltb-true i k t) d) (λ t. found_before heads k to y j e i (ltb-false i k t) b d);
        }) p.high p.there
    told None e =
        e ∙ found_none (record {
          low = omega (arith, u.low, u.high);
          high = omega arith;
          none = λ i a b d.
              either (split (ltb i k)) (λ t. u.none i a (ltb-true i k t) d) (λ t. found_nowhere heads k to y e i (ltb-false i k t) b d);
        }) (omega arith)

module _ {n : ℕ} {G : Graph} (R : Rows n G) (x : ℕ) (l : x < n) where
  -- what a search of a row asks, from some place of it on
  pub row_asks : {from to : ℕ} → get_or G.first x 0 ≤ from → from ≤ to → to ≡ get_or G.first (x + 1) 0
      → (from ≤ to) × (to ≤ length G.heads) × Ascending G.heads from to
  row_asks a b e =
      (b, omega (arith, (row_ends R x l).1), λ i j h m q. R.climb x i j l (in_row_i G x i (omega arith) (omega arith)) (in_row_i G x j (omega arith) (omega arith)) m)

  -- a search that goes on from a place whose entry is not above y is the search of the row
  pub row_found_from : {y at to : ℕ} {r : Option ℕ} → InRow G x at → get_or G.heads at 0 ≤ y → to ≡ get_or G.first (x + 1) 0
      → r ≡ found_in G.heads at to y → r ≡ edge_found G x y
  row_found_from {at = at} I h e g =
      rw (← e) g ∙ found_later (record {
        low = I.low;
        high = omega (arith, I.high, next_row G x);
        none = λ i a b d. omega (arith, R.climb x i at l (in_row_i G x i a (omega (arith, I.high, next_row G x))) I b);
      })

-- an edge that is found stands in the row
pub edge_at : {n : ℕ} {G : Graph} → Rows n G → (x y k : ℕ) → x < n → edge_found G x y ≡ Some k → InRow G x k × (get_or G.heads k 0 ≡ y)
edge_at {n} {G} R x y k l e =
    let p = found_placed G.heads (get_or G.first x 0) (get_or G.first (x + 1) 0) y k e (row_ends R x l).0 in
    (in_row_i G x k p.low p.high, p.there)

-- where none is found there is none
pub edge_nowhere : {n : ℕ} {G : Graph} → Rows n G → (x y : ℕ) → x < y → edge_found G x y ≡ None → T (linked G x y) → ⊥
edge_nowhere {n} {G} R x y l e t =
    let (k, r, h) = linked_e R x y t l in
    found_nowhere G.heads (get_or G.first x 0) (get_or G.first (x + 1) 0) y e k r.low (omega (arith, r.high, next_row G x)) h
