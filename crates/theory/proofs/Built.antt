-- The lists that build's definition gives, read back: the rows, the joined pairs, that they are a hierarchy, and that each arc has an edge.
-- Assumes nothing.
use Prim.Native.Nat.{ℕ, zero, suc, ◌≤◌, ◌<◌, min, max}
use mathlib.Core.Path.{◌≡◌, refl, sym, ap, ◌∙◌}
use mathlib.Core.Logic.{inl, ◌≢◌}
use mathlib.Core.Bool.{not, ◌&&◌}
use mathlib.Core.List.{List, [], ◌∷◌, ◌++◌, append_assoc, append-nil}
use native.Mathlib.Omega.{arith}
use lib.Dec.{T, eqb, ltb, leb}
use lib.ListN.{length, get_or, length-append, get_or-eq_default}
use lib.Seq.{take-append_seam, drop-append_seam, drop-nil}
use borrow.Author.Tests.{eqb-true, eqb-false, ltb-true, ltb-false, leb-true, leb-false}
use Rattle.rules.specs.Words.{has}
use Rattle.rules.specs.Net.{Net, size, arcs, tail, head, junction}
use Rattle.rules.specs.Graph.{Graph, graph, arc_joins, joined, row, rows_below, first_list, heads_list, edge_count, parent_of}
use Rattle.rules.specs.Hierarchy.{row_at, inverts, first_rises, heads_reach, row_ascends, all_in, rest_in_parent, is_hierarchy, linked}
use Rattle.rules.specs.Refusals.{passes, check8}
use Rattle.theory.proofs.Verdicts.{fails_at_i}
use Rattle.theory.proofs.Words.{split, either, and_l, and_r, and_i, not_e, same_test, eqb_i, neb_e, leb_i, each_i, has_here, has_there, has_nil, length_tabulate, tabulate_at}
use Rattle.theory.proofs.Joined.{two_i, arc_i, joined_two, joined_arc, joined_turn}
use Rattle.theory.proofs.GraphRows.{ascends_e, ascends_has, row_e, row_i, row_ascends_lem, parent_rest}

-- each entry stands in the row, if it does one by one
pub all_in_i : (qs row : List ℕ) → ((q : ℕ) → T (has qs q) → T (has row q)) → T (all_in qs row)
unfolding all_in
all_in_i [] row h = tt
all_in_i (q ∷ qs) row h =
    and_i (has row q) (all_in qs row) (h q (has_here q q qs refl)) (all_in_i qs row (λ r t. h r (has_there q r qs t)))

module _ (N : Net) where
  -- ---- the rows one after the other

  -- the rows below q begin with themselves, nothing more
  rows_same : (q p : ℕ) → p ≡ q → (more : List ℕ) × (rows_below N q ≡ rows_below N p ++ more)
  rows_same q p e = ([], rw e (sym (append-nil (rows_below N q))))

  -- the rows below q begin with the rows below p
  pub rows_split : (q p : ℕ) → p ≤ q → (more : List ℕ) × (rows_below N q ≡ rows_below N p ++ more)
  unfolding rows_below
  rows_split zero p h = rows_same 0 p (omega arith)
  rows_split (suc q) p h =
      either (split (eqb p (suc q)))
      (λ e. rows_same (suc q) p (eqb-true p (suc q) e))
      (λ e.
      let (more, g) = rows_split q p (omega (arith, eqb-false p (suc q) e)) in
      (more ++ row N q, ap (λ l. l ++ row N q) g ∙ append_assoc (rows_below N p) more (row N q)))

  -- rows only grow
  pub rows_grow : (p q : ℕ) → p ≤ q → length (rows_below N p) ≤ length (rows_below N q)
  rows_grow p q h =
      let (more, e) = rows_split q p h in
      omega (arith, ap length e, length-append (rows_below N p) more)

  -- and never past E
  pub rows_within : (p : ℕ) → p ≤ size N → length (rows_below N p) ≤ edge_count N
  unfolding edge_count
  rows_within p h = rows_grow p (size N) h

  -- ---- first

  -- "first" has n + 1 entries
  pub length_first : length (first_list N) ≡ suc (size N)
  unfolding first_list
  length_first = length_tabulate (λ p. length (rows_below N p)) 0 (suc (size N))

  -- row p starts after the rows below it
  pub first_at : (p : ℕ) → p ≤ size N → get_or (first_list N) p 0 ≡ length (rows_below N p)
  unfolding first_list
  first_at p h = tabulate_at (λ p. length (rows_below N p)) (suc (size N)) p 0 (omega arith)

  -- the last entry is E
  pub first_end : get_or (first_list N) (size N) 0 ≡ edge_count N
  unfolding edge_count
  first_end = first_at (size N) (omega arith)

  -- first starts with 0 and never falls
  first_rises_lem : T (first_rises (size N) (first_list N))
  unfolding first_rises rows_below
  first_rises_lem =
      let long = eqb_i (length (first_list N)) (suc (size N)) length_first in
      let start = eqb_i (get_or (first_list N) 0 0) 0 (first_at 0 (omega arith)) in
      let rise : (p : ℕ) → p < size N → T (leb (get_or (first_list N) p 0) (get_or (first_list N) (suc p) 0)) = λ p h.
      leb_i (get_or (first_list N) p 0) (get_or (first_list N) (suc p) 0) (omega (arith, first_at p (omega arith), first_at (suc p) h, rows_grow p (suc p) (omega arith))) in
      search (and_i, each_i)

  module _ (rest : List ℕ) where
    -- the lists of the definition, with anything behind the heads
    abbrev built : Graph
    built = graph (first_list N) (heads_list N ++ rest)

    -- ---- rows read back

    -- the row that the lists hold for a position is its row, whatever follows the heads
    pub row_back : (p : ℕ) → p < size N → row_at built p ≡ row N p
    unfolding heads_list rows_below
    row_back p h =
        let (more, e) = rows_split (size N) (suc p) h in
        rw (first_at p (omega arith), first_at (suc p) h, e, append_assoc (rows_below N (suc p)) more rest, take-append_seam (rows_below N (suc p)) (more ++ rest))
        (drop-append_seam (rows_below N p) (row N p))

    -- there is no row past the last
    row_past : (p : ℕ) → size N ≤ p → row_at built p ≡ []
    row_past p h =
        rw (get_or-eq_default (first_list N) 0 {n = suc p} (omega (arith, length_first)))
        (drop-nil (get_or (first_list N) p 0))

    -- a row read back has what the position is joined to
    has_back : (x y : ℕ) → x ≤ y → has (row_at built x) y ≡ joined N x y
    has_back x y h =
        either (split (ltb x (size N)))
        (λ e.
        rw (row_back x (ltb-true x (size N) e))
        (same_test (has (row N x) y) (joined N x y) (λ t. (row_e N x y t).1) (λ t. let (a, b, d) = joined_two N x y t in row_i N x y (omega arith) t)))
        (λ e.
        rw (row_past x (ltb-false x (size N) e))
        (same_test (has [] y) (joined N x y) (λ t. absurd (has_nil y t)) (λ t. absurd (omega (arith, joined_two N x y t, ltb-false x (size N) e)))))

    -- the pairs that the lists link are the joined ones
    pub built_linked : (a b : ℕ) → linked built a b ≡ joined N a b
    unfolding linked
    built_linked a b =
        either (split (leb a b))
        (λ e.
        let l : a ≤ b = leb-true a b e in
        let m : min a b ≡ a = omega arith in
        let n : max a b ≡ b = omega arith in
        rw (m, n) (has_back a b l))
        (λ e.
        let l : b < a = leb-false a b e in
        let m : min a b ≡ b = omega arith in
        let n : max a b ≡ a = omega arith in
        rw (m, n) (has_back b a (omega arith) ∙ same_test (joined N b a) (joined N a b) (joined_turn N b a) (joined_turn N a b)))

    -- ---- a hierarchy

    -- the entries of a row but its first stand in the parent's row
    rest_shared : (p : ℕ) → p < size N → (qs : List ℕ) → row N p ≡ qs → T (rest_in_parent built qs)
    unfolding rest_in_parent parent_of
    rest_shared p h [] e = tt
    rest_shared p h (c ∷ qs) e =
        let asc = rw e at (row_ascends_lem N p) in
        let (l, k, u) = ascends_e (suc p) (size N) c qs asc in
        rw (row_back c k)
        (all_in_i qs (row N c)
        (λ q t.
        let w : parent_of N p ≡ c = ap (λ l. get_or l 0 (size N)) e in
        let r : T (has (row N p) q) = rw e (has_there c q qs t) in
        rw w at (parent_rest N p q r (λ f. omega (arith, ascends_has (suc c) (size N) q qs u t)))))

    -- what build gives is a hierarchy, with any rank list that inverts the order
    pub built_hierarchy : (rank : List ℕ) → T (inverts N.order rank) → T (is_hierarchy N.order rank built)
    unfolding is_hierarchy row_ascends edge_count
    built_hierarchy rank t =
        let reach : T (heads_reach (size N) built) = leb_i (get_or (first_list N) (size N) 0) (length (heads_list N ++ rest)) (omega (arith, first_end, length-append (heads_list N) rest)) in
        let rise : (p : ℕ) → p < size N → T (row_ascends (size N) built p) = λ p h. rw (row_back p h) (row_ascends_lem N p) in
        let share : (p : ℕ) → p < size N → T (rest_in_parent built (row_at built p)) = λ p h. rw (row_back p h) (rest_shared p h (row N p) refl) in
        search (and_i, each_i, first_rises_lem)

    -- what build gives has an edge for every arc with unequal ends, so that check 8 passes
    pub built_edges : (rank : List ℕ) → ((i : ℕ) → i < arcs N → (tail N i < size N) × (head N i < size N)) → ((j : ℕ) → j < size N → (get_or rank j 0 < size N) × (junction N (get_or rank j 0) ≡ j)) → check8 N.tails N.heads rank built ≡ passes
    unfolding check8
    built_edges rank ends back =
        fails_at_i 8 (λ i. not (eqb (tail N i) (head N i)) && not (linked built (get_or rank (tail N i) 0) (get_or rank (head N i) 0))) (arcs N)
        (λ i h u.
        let a = get_or rank (tail N i) 0 in
        let b = get_or rank (head N i) 0 in
        let (l, x) = back (tail N i) (ends i h).0 in
        let (m, y) = back (head N i) (ends i h).1 in
        let d : tail N i ≢ head N i = neb_e (search (and_l)) in
        let arc : T (arc_joins N a b) = arc_i N a b i h (inl (and_i (eqb (tail N i) (junction N a)) (eqb (head N i) (junction N b)) (eqb_i (tail N i) (junction N a) (sym x)) (eqb_i (head N i) (junction N b) (sym y)))) in
        not_e (linked built a b) (search (and_r))
        (rw (built_linked a b) (joined_arc N a b (two_i N a b l m (λ e. d (sym x ∙ ap (junction N) e ∙ y))) arc)))
