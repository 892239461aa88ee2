-- Rows by places: what any lists that pass the test of a hierarchy say, in a form that code and proofs read. Assumes nothing.
use Prim.Native.Nat.{ℕ, zero, suc, ◌+◌, ◌-◌, ◌≤◌, ◌<◌, min, max}
use mathlib.Core.Path.{◌≡◌, sym, ap, ◌∙◌, subst}
use mathlib.Core.Logic.{◌≢◌}
use mathlib.Core.List.{List, [], ◌∷◌}
use native.Mathlib.Omega.{arith}
use native.Mathlib.Numerals.{add-one}
use native.Mathlib.Nat.{min_comm, max_comm, min-eq_left, max-eq_right}
use lib.Dec.{T, eqb, ltb, leb}
use lib.ListN.{length, get_or, take, length-take, length-drop, get_or-eq_default}
use lib.Seq.{slice, slice-cons, length-slice, get_or-drop, get_or-take}
use borrow.Author.Tests.{eqb-true, eqb-false, ltb-true, ltb-false}
use Rattle.rules.specs.Words.{has}
use Rattle.rules.specs.Hierarchy.{inverts, ascends, row_ascends, all_in, rest_in_parent, row_at, is_hierarchy, linked, place, row_of, EdgeCosts}
use Rattle.theory.proofs.Words.{split, either, and_l, and_r, eqb_e, eqb_i, ltb_e, ltb_i, leb_e, each_e, has_at, at_has, lowest_is, neither_below}
use Rattle.rules.specs.Graph.{Graph}
use Rattle.theory.specs.Rows.{Rows, InRow, count, parent_at, Lists}

pub count_is : {n : ℕ} {G : Graph} → Rows n G → count G.first ≡ n
unfolding count
count_is R = omega (arith, R.long)

-- the lists of a hierarchy whose size is told
pub lists_of : {n : ℕ} {G : Graph} → Rows n G → (C : EdgeCosts) → n ≤ 4096 → get_or G.first n 0 ≤ length C.up → get_or G.first n 0 ≤ length C.down
    → Lists G C
lists_of {n} {G} R C few u w =
    let e : count G.first ≡ n = count_is R in
    record {
      rows = rw e R;
      few = omega arith;
      up_long = rw e u;
      down_long = rw e w;
    }

-- only how long the cost lists are matters
pub lists_same : {G : Graph} {C C' : EdgeCosts} → Lists G C → length C'.up ≡ length C.up → length C'.down ≡ length C.down → Lists G C'
lists_same L u w = record { rows = L.rows; few = L.few; up_long = omega (arith, L.up_long); down_long = omega (arith, L.down_long) }

-- the end of a row is the start of the next
pub next_row : (G : Graph) (p : ℕ) → get_or G.first (p + 1) 0 ≡ get_or G.first (suc p) 0
next_row G p = ap (λ i. get_or G.first i 0) (add-one p)

-- a place between a row's ends lies in the row
pub in_row_i : (G : Graph) (p k : ℕ) → get_or G.first p 0 ≤ k → k < get_or G.first (p + 1) 0 → InRow G p k
in_row_i G p k a b = record { low = a; high = omega (arith, next_row G p) }

-- ---- parts of a list

-- what stands at one of a part's places
part_at : (l : List ℕ) (f t k : ℕ) → t ≤ length l → f ≤ k → k < t
    → (k - f < length (slice f t l)) × (get_or (slice f t l) (k - f) 0 ≡ get_or l k 0)
part_at l f t k h a b =
    let e : f + (k - f) ≡ k = omega arith in (
      omega (arith, length-slice f t l h),
      get_or-drop f (take t l) (k - f) 0 ∙ ap (λ i. get_or (take t l) i 0) e ∙ get_or-take t l k 0 b,
    )

-- an entry of a part stands at one of its places
part_e : (l : List ℕ) (f t y : ℕ) → T (has (slice f t l) y) → (k : ℕ) × (f ≤ k) × (k < t) × (get_or l k 0 ≡ y)
part_e l f t y h =
    let (i, b, e) = has_at (slice f t l) y h in
    let c : f + i < t = omega (arith, length-drop f (take t l), length-take t l) in
    (f + i, omega arith, c, sym (get_or-drop f (take t l) i 0 ∙ get_or-take t l (f + i) 0 c) ∙ e)

-- and what stands at one is an entry
part_i : (l : List ℕ) (f t k : ℕ) → t ≤ length l → f ≤ k → k < t → T (has (slice f t l) (get_or l k 0))
part_i l f t k h a b =
    let (c, e) = part_at l f t k h a b in
    rw (sym e) (at_has (slice f t l) (k - f) c)

-- ---- from the test to the rows

-- the entries of an ascending row are in its bounds
pub ascends_in : (lo n : ℕ) (l : List ℕ) (i : ℕ) → T (ascends lo n l) → i < length l → (lo ≤ get_or l i 0) × (get_or l i 0 < n)
unfolding ascends
ascends_in lo n [] i t h = absurd (omega arith)
ascends_in lo n (q ∷ qs) zero t h = (search (leb_e, and_l, and_r), search (ltb_e, and_l, and_r))
ascends_in lo n (q ∷ qs) (suc i) t h =
    let s : lo ≤ q = search (leb_e, and_l, and_r) in
    let (a, b) = ascends_in (suc q) n qs i (search and_r) (omega arith) in
    (omega arith, b)

-- and a later one is higher
ascends_climb : (lo n : ℕ) (l : List ℕ) (i j : ℕ) → T (ascends lo n l) → i < j → j < length l → get_or l i 0 < get_or l j 0
unfolding ascends
ascends_climb lo n [] i j t b h = absurd (omega arith)
ascends_climb lo n (q ∷ qs) i zero t b h = absurd (omega arith)
ascends_climb lo n (q ∷ qs) zero (suc j) t b h = (ascends_in (suc q) n qs j (search and_r) (omega arith)).0
ascends_climb lo n (q ∷ qs) (suc i) (suc j) t b h = ascends_climb (suc q) n qs i j (search and_r) (omega arith) (omega arith)

-- each of those that stand in a row stands in it
all_in_e : (qs row : List ℕ) (i : ℕ) → T (all_in qs row) → i < length qs → T (has row (get_or qs i 0))
unfolding all_in
all_in_e [] row i t h = absurd (omega arith)
all_in_e (q ∷ qs) row zero t h = search and_l
all_in_e (q ∷ qs) row (suc i) t h = all_in_e qs row i (search and_r) (omega arith)

-- a list that never falls from one place to the next never falls
never_falls : (n : ℕ) (first : List ℕ) → ((p : ℕ) → p < n → get_or first p 0 ≤ get_or first (suc p) 0)
    → (p q : ℕ) → p ≤ q → q ≤ n → get_or first p 0 ≤ get_or first q 0
never_falls n first rise p zero a b = let e : p ≡ 0 = omega arith in omega (arith, ap (λ i. get_or first i 0) e)
never_falls n first rise p (suc q) a b =
    either (split (eqb p (suc q)))
    (λ e. omega (arith, ap (λ i. get_or first i 0) (eqb-true p (suc q) e)))
    (λ e. omega (arith, never_falls n first rise p q (omega (arith, eqb-false p (suc q) e)) (omega arith), rise q (omega arith)))

-- in a row that climbs, of two places the one with the lower entry comes first
pub before : (G : Graph) (p i j : ℕ)
    → ((i j : ℕ) → InRow G p i → InRow G p j → i < j → get_or G.heads i 0 < get_or G.heads j 0)
    → InRow G p i → InRow G p j → get_or G.heads i 0 < get_or G.heads j 0 → i < j
before G p i j climb a b l =
    either (split (ltb i j)) (λ e. ltb-true i j e)
    (λ e. either (split (eqb i j))
    (λ d. absurd (omega (arith, ap (λ k. get_or G.heads k 0) (eqb-true i j d))))
    (λ d. absurd (omega (arith, climb j i b a (omega (arith, ltb-false i j e, eqb-false i j d))))))

module _ (order rank : List ℕ) (G : Graph) (h : T (is_hierarchy order rank G)) where
  -- the rank list of a hierarchy inverts the order
  pub ranked : T (inverts order rank)
  unfolding is_hierarchy
  ranked = search and_l depth 8

  -- the rows follow one another
  row_rise : (p : ℕ) → p < length order → get_or G.first p 0 ≤ get_or G.first (suc p) 0
  unfolding is_hierarchy
  row_rise p l =
      leb_e (get_or G.first p 0) (get_or G.first (suc p) 0)
      (each_e (λ p. leb (get_or G.first p 0) (get_or G.first (suc p) 0)) (length order) p (search (and_l, and_r)) l)

  -- up to the end of the heads at most
  reach : get_or G.first (length order) 0 ≤ length G.heads
  unfolding is_hierarchy
  reach = search (leb_e, and_l, and_r) depth 8

  rows_end : (p : ℕ) → p < length order → get_or G.first (suc p) 0 ≤ length G.heads
  rows_end p l = omega (arith, reach, never_falls (length order) G.first row_rise (suc p) (length order) l (omega arith))

  -- each place of a row holds an entry of the row
  row_at_lem : (p k : ℕ) → p < length order → InRow G p k
      → (k - get_or G.first p 0 < length (row_at G p)) × (get_or (row_at G p) (k - get_or G.first p 0) 0 ≡ get_or G.heads k 0)
  row_at_lem p k l r =
      part_at G.heads (get_or G.first p 0) (get_or G.first (suc p) 0) k (rows_end p l) r.low r.high

  -- and ascends
  row_ascends_lem : (p : ℕ) → p < length order → T (ascends (suc p) (length order) (row_at G p))
  unfolding is_hierarchy
  row_ascends_lem p l = each_e (row_ascends (length order) G) (length order) p (search (and_l, and_r)) l

  row_in : (p k : ℕ) → p < length order → InRow G p k → (p < get_or G.heads k 0) × (get_or G.heads k 0 < length order)
  row_in p k l r =
      let (a, e) = row_at_lem p k l r in
      rw (sym e) (ascends_in (suc p) (length order) (row_at G p) (k - get_or G.first p 0) (row_ascends_lem p l) a)

  row_climb : (p i j : ℕ) → p < length order → InRow G p i → InRow G p j → i < j → get_or G.heads i 0 < get_or G.heads j 0
  row_climb p i j l r s b =
      let (a, e) = row_at_lem p i l r in
      let (c, d) = row_at_lem p j l s in
      omega (
        arith,
        ascends_climb (suc p) (length order) (row_at G p) (i - get_or G.first p 0) (j - get_or G.first p 0)
            (row_ascends_lem p l) (omega (arith, r.low, s.low)) c,
      )

  -- every entry of a row but its first stands in the parent's row too
  in_parent : (z j : ℕ) → z < length order → InRow G z j → get_or G.first z 0 < j
      → (k : ℕ) × InRow G (get_or G.heads (get_or G.first z 0) 0) k × (get_or G.heads k 0 ≡ get_or G.heads j 0)
  unfolding is_hierarchy
  in_parent z j l r b =
      let f = get_or G.first z 0 in
      let t = get_or G.first (suc z) 0 in
      let c = get_or G.heads f 0 in
      let rest : T (rest_in_parent G (row_at G z)) =
      each_e (λ p. rest_in_parent G (row_at G p)) (length order) z (search (and_l, and_r)) l in
      let (a, d) = part_at G.heads (suc f) t j (rows_end z l) b r.high in
      let u : T (has (row_at G c) (get_or (slice (suc f) t G.heads) (j - suc f) 0)) =
      all_in_e (slice (suc f) t G.heads) (row_at G c) (j - suc f) (rw (slice-cons f t G.heads 0 (omega (arith, r.high)) (rows_end z l)) at rest) a in
      let (k, x, y, g) = part_e G.heads (get_or G.first c 0) (get_or G.first (suc c) 0) (get_or (slice (suc f) t G.heads) (j - suc f) 0) u in
      (k, record { low = x; high = y }, g ∙ d)

  -- so two higher neighbours of one position are joined: by going on to the parent until it is the lower of the two
  row_third : (d z i j : ℕ) → length order ≤ z + d → z < length order → InRow G z i → InRow G z j → i < j
      → (k : ℕ) × InRow G (get_or G.heads i 0) k × (get_or G.heads k 0 ≡ get_or G.heads j 0)
  row_third zero z i j m l r s b = absurd (omega arith)
  row_third (suc d) z i j m l r s b =
      let f = get_or G.first z 0 in
      let c = get_or G.heads f 0 in
      either (split (eqb f i))
      (λ e.
      subst (λ o. (k : ℕ) × InRow G (get_or G.heads o 0) k × (get_or G.heads k 0 ≡ get_or G.heads j 0)) (eqb-true f i e)
      (in_parent z j l s (omega (arith, r.low))))
      (λ e.
      let (i', r', ei) = in_parent z i l r (omega (arith, r.low, eqb-false f i e)) in
      let (j', s', ej) = in_parent z j l s (omega (arith, r.low)) in
      let (a, g) = row_in z f l (record { low = omega arith; high = omega (arith, r.low, r.high) }) in
      let b' : i' < j' =
      before G c i' j' (λ x y. row_climb c x y g) r' s' (omega (arith, row_climb z i j l r s b)) in
      let (k, q, ek) = row_third d c i' j' (omega arith) g r' s' b' in
      (k, subst (λ o. InRow G o k) ei q, ek ∙ ej))

  -- lists that pass the test of a hierarchy are rows
  pub rows : Rows (length order) G
  unfolding is_hierarchy
  rows =
      record {
        long = search (eqb_e, and_l, and_r) depth 8;
        start = search (eqb_e, and_l, and_r) depth 8;
        rise = row_rise;
        top = reach;
        above = λ p k l r. (row_in p k l r).0;
        below = λ p k l r. (row_in p k l r).1;
        climb = row_climb;
        third = λ z i j l r s b. row_third (length order) z i j (omega arith) l r s b;
      }

-- ---- what rows say

-- joined goes both ways
pub linked_turn : (G : Graph) (a b : ℕ) → T (linked G a b) → T (linked G b a)
unfolding linked
linked_turn G a b t = rw (min_comm b a, max_comm b a) t

module _ {n : ℕ} {G : Graph} (R : Rows n G) where
  -- rows stand one after the other
  pub rises : (p q : ℕ) → p ≤ q → q ≤ n → get_or G.first p 0 ≤ get_or G.first q 0
  rises = never_falls n G.first R.rise

  -- the places of a row can be read
  pub row_ends : (p : ℕ) → p < n → (get_or G.first p 0 ≤ get_or G.first (p + 1) 0) × (get_or G.first (p + 1) 0 ≤ length G.heads)
  row_ends p l = (omega (arith, next_row G p, R.rise p l), omega (arith, next_row G p, R.top, rises (suc p) n l (omega arith)))

  -- the parent is above its position, and a position of the net
  pub parent_in : (p : ℕ) → p < n → get_or G.first p 0 < get_or G.first (p + 1) 0 → (p < parent_at G p) × (parent_at G p < n)
  parent_in p l h =
      let r : InRow G p (get_or G.first p 0) = in_row_i G p (get_or G.first p 0) (omega arith) h in
      (R.above p (get_or G.first p 0) l r, R.below p (get_or G.first p 0) l r)

  -- a row's places are places of the heads, before E
  pub in_heads : (p k : ℕ) → p < n → InRow G p k → (k < get_or G.first n 0) × (k < length G.heads)
  in_heads p k l r =
      let u = rises (suc p) n l (omega arith) in
      (omega (arith, r.high), omega (arith, r.high, R.top))

  -- a place is in one row
  pub row_of_lem : (p q k : ℕ) → p < n → q < n → InRow G p k → InRow G q k → p ≡ q
  row_of_lem p q k l m r s =
      neither_below p q
      (λ b. omega (arith, rises (suc p) q b (omega arith), r.high, s.low))
      (λ b. omega (arith, rises (suc q) p b (omega arith), s.high, r.low))

  -- an entry stands once in a row
  pub once : (p i j : ℕ) → p < n → InRow G p i → InRow G p j → get_or G.heads i 0 ≡ get_or G.heads j 0 → i ≡ j
  once p i j l r s e =
      neither_below i j (λ b. omega (arith, R.climb p i j l r s b)) (λ b. omega (arith, R.climb p j i l s r b))

  -- only positions of the net have entries, and each entry has a place
  row_place : (x y : ℕ) → T (has (row_at G x) y) → (k : ℕ) × (x < n) × InRow G x k × (get_or G.heads k 0 ≡ y)
  row_place x y t =
      let (k, a, b, e) = part_e G.heads (get_or G.first x 0) (get_or G.first (suc x) 0) y t in
      either (split (ltb x n))
      (λ d. (k, ltb-true x n d, record { low = a; high = b }, e))
      (λ d. absurd (omega (arith, get_or-eq_default G.first 0 {n = suc x} (omega (arith, R.long, ltb-false x n d)))))

  -- joined positions, the lower first: the row of the lower has the higher at a place
  pub linked_e : (x y : ℕ) → T (linked G x y) → x < y → (k : ℕ) × InRow G x k × (get_or G.heads k 0 ≡ y)
  unfolding linked
  linked_e x y t l =
      let u : T (has (row_at G x) y) = rw (min-eq_left {n = x} {m = y} (omega arith), max-eq_right {n = x} {m = y} (omega arith)) at t in
      let (k, a, r, e) = row_place x y u in
      (k, r, e)

  pub linked_i : (x k y : ℕ) → x < n → InRow G x k → get_or G.heads k 0 ≡ y → T (linked G x y)
  unfolding linked
  linked_i x k y l r e =
      let b : x < y = omega (arith, R.above x k l r) in
      let t : T (has (row_at G x) y) =
      subst (λ q. T (has (row_at G x) q)) e
      (part_i G.heads (get_or G.first x 0) (get_or G.first (suc x) 0) k
      (omega (arith, R.top, rises (suc x) n l (omega arith))) r.low r.high) in
      rw (min-eq_left {n = x} {m = y} (omega arith), max-eq_right {n = x} {m = y} (omega arith)) t

  -- joined positions are two positions of the net
  pub linked_two : (a b : ℕ) → T (linked G a b) → (a < n) × (b < n) × (a ≢ b)
  unfolding linked
  linked_two a b t =
      let (k, l, r, e) = row_place (min a b) (max a b) t in
      let u = R.above (min a b) k l r in
      let v = R.below (min a b) k l r in
      (omega arith, omega arith, omega arith)

  -- the lower of two joined positions is a position of the net
  pub linked_low : (x y : ℕ) → T (linked G x y) → x < n
  linked_low x y t = (linked_two x y t).0

  -- two higher neighbours of one position are joined
  pub linked_third : (z a b : ℕ) → z < a → z < b → a ≢ b → T (linked G z a) → T (linked G z b) → T (linked G a b)
  linked_third z a b la lb d ta tb =
      either (split (ltb a b))
      (λ e. rising a b la lb ta tb (ltb-true a b e))
      (λ e. linked_turn G b a (rising b a lb la tb ta (omega (arith, ltb-false a b e))))
    where
      rising : (a b : ℕ) → z < a → z < b → T (linked G z a) → T (linked G z b) → a < b → T (linked G a b)
      rising a b la lb ta tb l =
          let (i, r, ei) = linked_e z a ta la in
          let (j, s, ej) = linked_e z b tb lb in
          let m = linked_low z a ta in
          let (k, q, ek) = R.third z i j m r s (before G z i j (λ x y. R.climb z x y m) r s (omega arith)) in
          linked_i a k b (linked_two z a ta).1 (subst (λ o. InRow G o k) ei q) (ek ∙ ej)

  -- the search for an edge finds its place
  pub place_is : (x k y : ℕ) → x < n → InRow G x k → get_or G.heads k 0 ≡ y → place G x y ≡ k
  unfolding place
  place_is x k y l r e =
      lowest_is (λ i. eqb (get_or G.heads i 0) y) (get_or G.first x 0) (get_or G.first (suc x) 0 - get_or G.first x 0) k r.low
      (omega (arith, r.low, r.high)) (eqb_i (get_or G.heads k 0) y e)
      (λ q a b t.
      omega (arith, once x q k l (record { low = a; high = omega (arith, r.high) }) r (eqb_e (get_or G.heads q 0) y t ∙ sym e)))

  -- the row of a place is the one in which it lies
  pub row_is : (p k : ℕ) → p < n → InRow G p k → row_of n G k ≡ p
  unfolding row_of
  row_is p k l r =
      lowest_is (λ q. ltb k (get_or G.first (suc q) 0)) 0 n p (omega arith) (omega arith) (ltb_i k (get_or G.first (suc p) 0) r.high)
      (λ q a b t. omega (arith, ltb_e k (get_or G.first (suc q) 0) t, rises (suc q) p b (omega arith), r.low))

  -- each place before the end of some rows lies in one of them
  some_row : (m k : ℕ) → m ≤ n → k < get_or G.first m 0 → (p : ℕ) × (p < n) × InRow G p k
  some_row zero k b h = absurd (omega (arith, R.start))
  some_row (suc m) k b h =
      either (split (ltb k (get_or G.first m 0)))
      (λ e. some_row m k (omega arith) (ltb-true k (get_or G.first m 0) e))
      (λ e. (m, omega arith, record { low = ltb-false k (get_or G.first m 0) e; high = h }))

  -- each place before E lies in the row that the definition gives
  pub in_row : (k : ℕ) → k < get_or G.first n 0 → (row_of n G k < n) × InRow G (row_of n G k) k
  in_row k h =
      let (p, l, r) = some_row n k (omega arith) h in
      rw (row_is p k l r) (l, r)
