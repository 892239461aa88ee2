-- The rows of the graph: what stands in them, that they ascend, and the row of a position out of its children's rows. Assumes nothing.
use Prim.Native.Nat.{ℕ, zero, suc, ◌-◌, ◌≤◌, ◌<◌}
use mathlib.Core.Path.{◌≡◌, refl, sym}
use mathlib.Core.Logic.{◌⊎◌, inl, inr, ◌≢◌}
use mathlib.Core.Bool.{Bool, ◌&&◌}
use mathlib.Core.List.{List, [], ◌∷◌}
use native.Mathlib.Omega.{arith}
use lib.Dec.{T, eqb}
use lib.ListN.{get_or}
use borrow.Author.Tests.{eqb-true, eqb-false}
use Rattle.rules.specs.Words.{those, has}
use Rattle.rules.specs.Net.{Net, size, two_positions}
use Rattle.rules.specs.Graph.{arc_joins, joined, row, parent_of}
use Rattle.rules.specs.Hierarchy.{ascends}
use Rattle.theory.proofs.Words.{split, either, and_l, and_r, and_i, ltb_e, leb_e, leb_i, has_here, has_nil, has_cons, has_at, those_e, those_i}
use Rattle.theory.proofs.Rows.{ascends_in}
use Rattle.theory.proofs.Joined.{two_i, joined_two, joined_arc, joined_third, joined_made}

-- ---- lists that ascend

-- the first of a list that ascends is in range, and the rest ascend above it
pub ascends_e : (lo n q : ℕ) (qs : List ℕ) → T (ascends lo n (q ∷ qs)) → (lo ≤ q) × (q < n) × T (ascends (suc q) n qs)
unfolding ascends
ascends_e lo n q qs t = (leb_e lo q (search (and_l, and_r)), ltb_e q n (search (and_l, and_r)), search (and_l, and_r))

-- and such a first before such a rest makes a list that ascends
pub ascends_i : (lo n q : ℕ) (qs : List ℕ) → lo ≤ q → q < n → T (ascends (suc q) n qs) → T (ascends lo n (q ∷ qs))
unfolding ascends
ascends_i lo n q qs l h t = search (and_i, leb_i)

-- every entry is in range
pub ascends_has : (lo n q : ℕ) (xs : List ℕ) → T (ascends lo n xs) → T (has xs q) → (lo ≤ q) × (q < n)
ascends_has lo n q xs t h = let (k, l, e) = has_at xs q h in rw e at (ascends_in lo n xs k t l)

-- those that pass ascend
those_ascends : (f : ℕ → Bool) (lo i k n : ℕ) → lo ≤ i → k ≤ n - i → T (ascends lo n (those f i k))
unfolding those ascends
those_ascends f lo i zero n l h = tt
those_ascends f lo i (suc k) n l h =
    either (split (f i))
    (λ e. rw e (ascends_i lo n i (those f (suc i) k) l (omega arith) (those_ascends f (suc i) (suc i) k n (omega arith) (omega arith))))
    (λ e. rw e (those_ascends f lo (suc i) k n (omega arith) (omega arith)))

-- the first of a list that ascends, of one that has an entry, is an entry and the lowest
first_lowest : (lo n d q : ℕ) (xs : List ℕ) → T (ascends lo n xs) → T (has xs q) → T (has xs (get_or xs 0 d)) × (get_or xs 0 d ≤ q)
first_lowest lo n d q [] t h = absurd (has_nil q h)
first_lowest lo n d q (x ∷ xs) t h =
    let (a, b, u) = ascends_e lo n x xs t in
    (has_here x x xs refl, either (has_cons x q xs h) (λ e. omega arith) (λ g. omega (arith, ascends_has (suc x) n q xs u g)))

module _ (N : Net) where
  -- ---- rows

  -- the row of p has only higher positions that p is joined to
  pub row_e : (p q : ℕ) → T (has (row N p) q) → (p < q) × T (joined N p q)
  unfolding row
  row_e p q t = let (a, b, u) = those_e (joined N p) (suc p) (size N - suc p) q t in (a, u)

  -- and all of them
  pub row_i : (p q : ℕ) → p < q → T (joined N p q) → T (has (row N p) q)
  unfolding row
  row_i p q h t =
      let (a, b, d) = joined_two N p q t in
      those_i (joined N p) (suc p) (size N - suc p) q h (omega arith) t

  -- a row ascends, above its position and below n
  pub row_ascends_lem : (p : ℕ) → T (ascends (suc p) (size N) (row N p))
  unfolding row
  row_ascends_lem p = those_ascends (joined N p) (suc p) (suc p) (size N - suc p) (size N) (omega arith) (omega arith)

  -- ---- parents

  -- the parent is an entry of the row, and the lowest
  pub parent_lowest : (c q : ℕ) → T (has (row N c) q) → T (has (row N c) (parent_of N c)) × (parent_of N c ≤ q)
  unfolding parent_of
  parent_lowest c q t = first_lowest (suc c) (size N) (size N) q (row N c) (row_ascends_lem c) t

  -- every other entry of the row stands in the parent's row too
  pub parent_rest : (c q : ℕ) → T (has (row N c) q) → q ≢ parent_of N c → T (has (row N (parent_of N c)) q)
  parent_rest c q t d =
      let (u, l) = parent_lowest c q t in
      let (h, j) = row_e c (parent_of N c) u in
      let (k, i) = row_e c q t in
      row_i (parent_of N c) q (omega arith) (joined_third N c (parent_of N c) q h k (λ e. d (sym e)) j i)

  -- ---- the row of p is its arc neighbours above it and its children's rows less p

  -- if p and q stand in one row then q stands in the row of a child of p: from parent to parent, up to p
  climb : (k z p q : ℕ) → p - z ≤ k → p < q → T (has (row N z) p) → T (has (row N z) q) → (c : ℕ) × (c < p) × (parent_of N c ≡ p) × T (has (row N c) q)
  climb zero z p q h l s t = let (a, j) = row_e z p s in absurd (omega arith)
  climb (suc k) z p q h l s t =
      let (a, j) = row_e z p s in
      let (u, m) = parent_lowest z p s in
      let (b, i) = row_e z (parent_of N z) u in
      either (split (eqb (parent_of N z) p))
      (λ e. (z, a, eqb-true (parent_of N z) p e, t))
      (λ e.
      let d : p ≢ parent_of N z = λ f. eqb-false (parent_of N z) p e (sym f) in
      climb k (parent_of N z) p q (omega arith) l (parent_rest z p s d) (parent_rest z q t (omega arith)))

  -- every entry of the row of p comes from an arc or from the row of a child of p
  pub row_parts : (p q : ℕ) → T (has (row N p) q) → T (two_positions N p q && arc_joins N p q) ⊎ ((c : ℕ) × (c < p) × (parent_of N c ≡ p) × T (has (row N c) q))
  row_parts p q t =
      let (h, j) = row_e p q t in
      let (a, b, d) = joined_two N p q j in
      either (joined_made N p q j)
      (λ u. inl (and_i (two_positions N p q) (arc_joins N p q) (two_i N p q a b d) u))
      (λ w. inr (climb p w.0 p q (omega arith) h (row_i w.0 p w.1 w.3) (row_i w.0 q w.2 w.4)))

  -- and all that comes so stands in it: both laws together are how the rows are made without the whole game
  pub parts_row : (p q : ℕ) → p < q → T (two_positions N p q && arc_joins N p q) ⊎ ((c : ℕ) × (c < p) × (parent_of N c ≡ p) × T (has (row N c) q)) → T (has (row N p) q)
  parts_row p q h (inl t) = row_i p q h (joined_arc N p q (and_l (two_positions N p q) (arc_joins N p q) t) (and_r (two_positions N p q) (arc_joins N p q) t))
  parts_row p q h (inr (c, l, e, t)) = rw e at (parent_rest c q t (omega arith))
