-- The test of one row: a law for each way that it goes. Assumes nothing.
use Prim.Native.Nat.{ℕ, zero, suc, ◌+◌, ◌-◌, ◌≤◌, ◌<◌}
use mathlib.Core.Path.{◌≡◌, refl, sym, ap, ◌∙◌}
use mathlib.Core.Logic.{◌≢◌}
use mathlib.Core.Bool.{Bool, true, false, ◌&&◌}
use native.Mathlib.Omega.{arith}
use native.Mathlib.Numerals.{add-one}
use lib.Dec.{eqb, ltb, leb}
use lib.ListN.{length, get_or}
use lib.Seq.{slice, slice-cons, slice_empty}
use borrow.Author.Tests.{lt-ltb, le-leb, lt-leb, ltb-true, eqb-true, eqb-false}
use Rattle.rules.specs.Graph.{Graph}
use Rattle.rules.specs.Hierarchy.{row_at}
use Rattle.theory.proofs.Words.{either, split, true_false}
use Rattle.theory.proofs.Rows.{next_row}
use Rattle.hierarchy.specs.Tests.{in_order, under_parent, row_holds, RowsFrom}

-- a third test that passes is none
and-true : (x y : Bool) → (x && y && true) ≡ (x && y)
and-true false y = refl
and-true true false = refl
and-true true true = refl

-- a third test after two that fail
and-false : (x y z : Bool) → false ≡ (x && y) → (x && y && z) ≡ false
and-false false y z e = refl
and-false true false z e = refl
and-false true true z e = true_false (sym e)

-- a parent above p and below n
pub above_e : (n p c : ℕ) → true ≡ (ltb p c && ltb c n) → (p < c) × (c < n)
above_e n p c e =
    either (split (ltb p c))
    (λ x. either (split (ltb c n)) (λ y. (ltb-true p c x, ltb-true c n y)) (λ y. true_false (rw (x, y) at e)))
    (λ x. true_false (rw x at e))

module _ (n : ℕ) (G : Graph) (p a b : ℕ) (low : a ≡ get_or G.first p 0) (high : b ≡ get_or G.first (p + 1) 0) where
  -- the row's test by its ends
  by_ends : row_holds n G p ≡ (leb a b && under_parent n G p (slice a b G.heads))
  unfolding row_holds
  by_ends = rw (low, high, next_row G p) refl

  -- the row ends before it starts, or there is nothing in it
  pub row_none : b ≤ a → eqb a b ≡ row_holds n G p
  unfolding under_parent
  row_none l =
      either (split (eqb a b))
      (λ x. let e : a ≡ b = eqb-true a b x in x ∙ sym (by_ends ∙ rw (le-leb a b (omega arith), e, slice_empty b G.heads) refl))
      (λ x. let e : a ≢ b = eqb-false a b x in x ∙ sym (by_ends ∙ rw (lt-leb a b (omega arith)) refl))

  module _ (c : ℕ) (parent : c ≡ get_or G.heads a 0) (filled : a < b) (fits : b ≤ length G.heads) where
    -- the row's test by its parent
    by_parent : row_holds n G p ≡ (ltb p c && ltb c n && in_order (slice (a + 1) b G.heads) (row_at G c))
    unfolding under_parent
    by_parent = by_ends ∙ rw (le-leb a b (omega arith), slice-cons a b G.heads 0 filled fits, add-one a, parent) refl

    -- there is no rest: the parent decides
    pub row_alone : b ≤ a + 1 → (ltb p c && ltb c n) ≡ row_holds n G p
    unfolding in_order
    row_alone l =
        let e : b ≡ a + 1 = omega arith in
        sym (by_parent ∙ rw (e, slice_empty (a + 1) G.heads) (and-true (ltb p c) (ltb c n)))

    -- the parent is no higher than p, or no position
    pub row_parent : false ≡ (ltb p c && ltb c n) → false ≡ row_holds n G p
    row_parent e = sym (by_parent ∙ and-false (ltb p c) (ltb c n) (in_order (slice (a + 1) b G.heads) (row_at G c)) e)

    -- the rest of the row decides
    pub row_rest : (from to : ℕ) (r : Bool) → p < c → c < n → from ≡ get_or G.first c 0 → to ≡ get_or G.first (c + 1) 0 → r ≡ in_order (slice (a + 1) b G.heads) (slice from to G.heads)
        → r ≡ row_holds n G p
    row_rest from to r l m x y e =
        let g : to ≡ get_or G.first (suc c) 0 = y ∙ next_row G c in
        e ∙ sym (by_parent ∙ rw (lt-ltb p c l, lt-ltb c n m, x, g) refl)

-- later rows start no earlier
rises_from : {n p : ℕ} {G : Graph} → RowsFrom n G p → (d : ℕ) → p + d ≤ n → get_or G.first p 0 ≤ get_or G.first (p + d) 0
rises_from {p = p} {G} rows zero l = omega (arith, ap (λ k. get_or G.first k 0) (let e : p + 0 ≡ p = omega arith in e))
rises_from {p = p} {G} rows (suc d) l =
    let e : p + suc d ≡ suc (p + d) = omega arith in
    omega (arith, ap (λ k. get_or G.first k 0) e, rises_from rows d (omega arith), (rows.rise (p + d) (omega arith) (omega arith)).0)

-- the parent's row lies behind the row, and within heads
pub row_within : {n p : ℕ} {G : Graph} → RowsFrom n G (p + 1) → (c from to : ℕ) → p < c → c < n → from ≡ get_or G.first c 0 → to ≡ get_or G.first (c + 1) 0
    → (get_or G.first (p + 1) 0 ≤ from) × (from ≤ to) × (to ≤ length G.heads)
row_within {p = p} {G} rows c from to l m x y =
    let (u, v) = rows.rise c (omega arith) m in
    let g : to ≡ get_or G.first (suc c) 0 = y ∙ next_row G c in
    let e : p + 1 + (c - (p + 1)) ≡ c = omega arith in
    (omega (arith, rises_from rows (c - (p + 1)) (omega arith), ap (λ k. get_or G.first k 0) e), omega arith, omega arith)
