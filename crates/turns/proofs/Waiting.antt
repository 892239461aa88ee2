-- Rows that wait: taken from the front of a line, put in front of another, and none left that waits for x at the end of its turn. Nothing
-- here speaks of what is done in a turn. Assumes nothing.
use Prim.Native.Nat.{ℕ, suc, ◌+◌, ◌-◌, ◌≤◌, ◌<◌}
use mathlib.Core.Path.{◌≡◌, refl, sym, ap, ◌∙◌, subst}
use mathlib.Core.Logic.{◌⊎◌, inl, inr, ◌≢◌}
use mathlib.Core.List.{List, [], ◌∷◌}
use native.Mathlib.Omega.{arith}
use native.Mathlib.Numerals.{add-one}
use lib.Dec.{T, ltb}
use lib.ListN.{length, get_or, set, replicate, length-replicate, get_or-replicate, get_or-eq_default}
use borrow.Author.Tests.{ltb-true, ltb-false, lt-ltb, le-ltb}
use Rattle.rules.specs.Words.{total, has}
use Rattle.rules.specs.Graph.{Graph}
use Rattle.rules.specs.Hierarchy.{EdgeCosts}
use Rattle.theory.specs.Rows.{InRow, Lists, count}
use Rattle.theory.proofs.Words.{either, split, same_or_not, has_here, has_there, has_nil, has_cons}
use Rattle.theory.proofs.Totals.{total_less}
use Rattle.theory.proofs.Rows.{in_heads, in_row_i, next_row}
use Rattle.turns.specs.Waiting.{Turn, SameBelow, RowChain, Waits, Line, Waiting, PassedBelow, wait_at, queued}
use Rattle.turns.proofs.Stored.{Stored, stored}

-- ---- positions

-- x is one
pub turn_of : {G : Graph} {C : EdgeCosts} {x : ℕ} → Lists G C → x < count G.first → Turn G x
turn_of L l = record { rows = L.rows; few = L.few; under = l }

-- its row may wait at its first place
pub turn_queue : {G : Graph} {x i : ℕ} → Turn G x → i ≡ get_or G.first x 0 → Turn G x × (get_or G.first x 0 ≤ i) × (i ≤ get_or G.first (x + 1) 0)
turn_queue {G} {x} U e = (U, omega arith, omega (arith, U.rows.rise x U.under, next_row G x))

-- ---- chains

-- the links of its own rows make a chain
chain_as : (links links' : List ℕ) (k : ℕ) (rows : List ℕ) → ((w : ℕ) → T (has rows w) → get_or links' w 0 ≡ get_or links w 0)
    → RowChain links k rows → RowChain links' k rows
unfolding RowChain
chain_as links links' k [] same C = C
chain_as links links' k (w ∷ rows) same C = (
  C.0,
  C.1,
  subst (λ o. RowChain links' o rows) (sym (same w (has_here w w rows refl)))
      (chain_as links links' (get_or links w 0) rows (λ v t. same v (has_there w v rows t)) C.2),
)

-- one row more in front
chain_front : (links : List ℕ) (z k : ℕ) (rows : List ℕ) → (T (has rows z) → ⊥) → get_or links z 0 ≡ k → RowChain links k rows → RowChain links (suc z) (z ∷ rows)
unfolding RowChain
chain_front links z k rows out e C = (refl, out, subst (λ o. RowChain links o rows) (sym e) C)

-- one row less
chain_rest : (links : List ℕ) (k z : ℕ) (rows : List ℕ) → RowChain links k rows → k ≡ suc z
    → (rest : List ℕ) × (rows ≡ z ∷ rest) × (T (has rest z) → ⊥) × RowChain links (get_or links z 0) rest
unfolding RowChain
chain_rest links k z [] C e = absurd (omega arith)
chain_rest links k z (w ∷ rows) C e =
    let same : w ≡ z = omega (arith, C.0) in
    (rows, ap (λ v. v ∷ rows) same, subst (λ v. T (has rows v) → ⊥) same C.1, subst (λ v. RowChain links (get_or links v 0) rows) same C.2)

-- an empty chain has no row, and no row is an empty chain
chain_none : (links : List ℕ) (k z : ℕ) (rows : List ℕ) → RowChain links k rows → k ≡ 0 → T (has rows z) → ⊥
unfolding RowChain
chain_none links k z [] C e t = has_nil z t
chain_none links k z (w ∷ rows) C e t = omega (arith, C.0)

chain_empty : (links : List ℕ) (k : ℕ) → k ≡ 0 → RowChain links k []
unfolding RowChain
chain_empty links k e = e

-- ---- lines

waits_as : {G : Graph} {places places' : List ℕ} {z q : ℕ} → get_or places' z 0 ≡ get_or places z 0 → Waits G places z q → Waits G places' z q
waits_as {G} {z = z} e w = record { row = subst (λ v. InRow G z v) (sym e) w.row; entry = ap (λ v. get_or G.heads v 0) e ∙ w.entry }

-- a line whose rows wait as before
line_as : {G : Graph} {m m' q k : ℕ} {links links' places places' : List ℕ} → Line G m q k links places
    → ((w : ℕ) → w < m → Waits G places w q → (w < m') × (get_or links' w 0 ≡ get_or links w 0) × (get_or places' w 0 ≡ get_or places w 0))
    → ((w : ℕ) → w < m' → Waits G places' w q → (w < m) × (get_or places' w 0 ≡ get_or places w 0)) → Line G m' q k links' places'
line_as {k = k} {links} {links'} L on back =
    record {
      rows = L.rows;
      chain = chain_as links links' k L.rows (λ w t. let (h, a) = L.each w t in (on w h a).1) L.chain;
      each = λ w t. let (h, a) = L.each w t in let (h', s, e) = on w h a in (h', waits_as e a);
      all = λ w h a. let (h', e) = back w h a in L.all w h' (waits_as (sym e) a);
    }

-- the row of z alone, a new one or not, waits elsewhere than before
module _ {G : Graph} {m m' z : ℕ} {links links' places places' : List ℕ} (more : m ≤ m') (only : (w : ℕ) → w < m' → w ≢ z → w < m)
    (links_as : (w : ℕ) → w < m → w ≢ z → get_or links' w 0 ≡ get_or links w 0) (places_as : (w : ℕ) → w ≢ z → get_or places' w 0 ≡ get_or places w 0) where
  -- a line in which it never stands
  line_same : {q k : ℕ} → Line G m q k links places → (z < m → Waits G places z q → ⊥) → (Waits G places' z q → ⊥) → Line G m' q k links' places'
  line_same {q} L out out' =
      line_as L
      (λ w h a. let d : w ≢ z = λ e. out (omega arith) (subst (λ v. Waits G places v q) e a) in (omega arith, links_as w h d, places_as w d))
      (λ w h a. let d : w ≢ z = λ e. out' (subst (λ v. Waits G places' v q) e a) in (only w h d, places_as w d))

  -- the line that it joins in front
  line_front : {q k : ℕ} → Line G m q k links places → (z < m → Waits G places z q → ⊥) → z < m' → Waits G places' z q → get_or links' z 0 ≡ k
      → Line G m' q (suc z) links' places'
  line_front {q} {k} L out zm a e =
      let off : (w : ℕ) → T (has L.rows w) → w ≢ z =
      λ w t d. let (h, b) = L.each w t in out (omega arith) (subst (λ v. Waits G places v q) d b) in
      record {
        rows = z ∷ L.rows;
        chain = chain_front links' z k L.rows (λ t. off z t refl) e
            (chain_as links links' k L.rows (λ w t. links_as w (L.each w t).0 (off w t)) L.chain);
        each = λ w t.
            either (has_cons z w L.rows t)
            (λ d. subst (λ v. (v < m') × Waits G places' v q) d (zm, a))
            (λ u. let (h, b) = L.each w u in (omega arith, waits_as (places_as w (off w u)) b));
        all = λ w h b.
            either (same_or_not w z)
            (λ d. has_here z w L.rows (sym d))
            (λ d. has_there z w L.rows (L.all w (only w h d) (waits_as (sym (places_as w d)) b)));
      }

  -- the line that it leaves, whose first it was
  line_rest : {q k : ℕ} → Line G m q k links places → k ≡ suc z → (Waits G places' z q → ⊥) → Line G m' q (get_or links z 0) links' places'
  line_rest {q} {k} L e out =
      let (rest, is, once, C) = chain_rest links k z L.rows L.chain e in
      let off : (w : ℕ) → T (has rest w) → w ≢ z = λ w t d. once (subst (λ v. T (has rest v)) d t) in
      let was : (w : ℕ) → T (has rest w) → (w < m) × Waits G places w q =
      λ w t. L.each w (subst (λ l. T (has l w)) (sym is) (has_there z w rest t)) in
      record {
        rows = rest;
        chain = chain_as links links' (get_or links z 0) rest (λ w t. links_as w (was w t).0 (off w t)) C;
        each = λ w t. let (h, b) = was w t in (omega arith, waits_as (places_as w (off w t)) b);
        all = λ w h b.
            let d : w ≢ z = λ f. out (subst (λ v. Waits G places' v q) f b) in
            either (has_cons z w rest (subst (λ l. T (has l w)) is (L.all w (only w h d) (waits_as (sym (places_as w d)) b))))
            (λ f. absurd (d (sym f))) (λ t. t);
      }

-- ---- where a row waits

-- at the place that is asked, or at its end
pub wait_there : (first : List ℕ) (z i end : ℕ) → end ≡ get_or first (z + 1) 0 → i + 1 < end → i ≡ wait_at first z i
unfolding wait_at
wait_there first z i end e l = rw (lt-ltb (i + 1) (get_or first (z + 1) 0) (omega arith)) refl

pub wait_end : (first : List ℕ) (z i end : ℕ) → end ≡ get_or first (z + 1) 0 → end ≤ i + 1 → end ≡ wait_at first z i
unfolding wait_at
wait_end first z i end e l = rw (le-ltb (i + 1) (get_or first (z + 1) 0) (omega arith)) e

-- not before that place, nor past the end; what it passes over has nothing behind it
pub wait_range : (first : List ℕ) (z i j : ℕ) → j ≡ wait_at first z i → i ≤ get_or first (z + 1) 0
    → (i ≤ j) × (j ≤ get_or first (z + 1) 0) × ((a : ℕ) → a < j → a + 1 < get_or first (z + 1) 0 → a < i)
wait_range first z i j e h =
    let end = get_or first (z + 1) 0 in
    either (split (ltb (i + 1) end))
    (λ t. let d : j ≡ i = e ∙ sym (wait_there first z i end refl (ltb-true (i + 1) end t)) in (omega arith, omega arith, λ a l b. omega arith))
    (λ t.
    let u = ltb-false (i + 1) end t in
    let d : j ≡ end = e ∙ sym (wait_end first z i end refl u) in
    (omega arith, omega arith, λ a l b. omega arith))

-- ---- a row is queued

-- the place i of z's row can be read, and its entry is a position
pub queue_place : {G : Graph} {z i end : ℕ} → Turn G z → get_or G.first z 0 ≤ i → end ≡ get_or G.first (z + 1) 0 → i < end
    → (i < length G.heads) × (get_or G.heads i 0 < 4096)
queue_place {G} {z} {i} U h e l =
    let r = in_row_i G z i h (omega arith) in
    ((in_heads U.rows z i U.under r).1, omega (arith, U.few, U.rows.below z i U.under r))

-- it waits in front of those that wait there, or is past its end
pub queued_waits : (G : Graph) (links : List ℕ) (z i y : ℕ) → i < get_or G.first (z + 1) 0 → y ≡ get_or G.heads i 0
    → set (set links z (get_or links y 0)) y (z + 1) ≡ queued G links z i
unfolding queued
queued_waits G links z i y l e = rw (lt-ltb i (get_or G.first (z + 1) 0) l, ← e) refl

pub queued_ended : (G : Graph) (links : List ℕ) (z i : ℕ) → get_or G.first (z + 1) 0 ≤ i → links ≡ queued G links z i
unfolding queued
queued_ended G links z i l = rw (le-ltb i (get_or G.first (z + 1) 0) l) refl

-- in the turn of x: the row of z, no later than x, at its place i, which has a later entry or is its end; in no later line so far
record Queue (G : Graph) (x z i : ℕ) (links places links' places' : List ℕ) : Type 0 where
  links_long : length links ≡ 4096
  places_long : length places ≡ 4096
  early : z ≤ x
  seat : z < 4096
  from : get_or G.first z 0 ≤ i
  above : InRow G z i → (x < get_or G.heads i 0) × (get_or G.heads i 0 < 4096)
  lines : (q : ℕ) → x < q → Line G x q (get_or links q 0) links places
  out : (q : ℕ) → x < q → z < x → Waits G places z q → ⊥
  links_are : links' ≡ queued G links z i
  places_are : places' ≡ set places z i

module _ {G : Graph} {x z i : ℕ} {links places links' places' : List ℕ} (Q : Queue G x z i links places links' places') where
  abbrev y : ℕ
  y = get_or G.heads i 0

  -- its place moves, no other
  moved : Stored places z i places'
  moved = stored places places' z i Q.places_are (omega (arith, Q.places_long, Q.seat))

  -- it waits where it was put, and nowhere else
  own_row : {q : ℕ} → Waits G places' z q → InRow G z i × (y ≡ q)
  own_row w = (rw moved.here at w.row, ap (λ v. get_or G.heads v 0) (sym moved.here) ∙ w.entry)

  -- its own link and that of its entry change, or none
  relinked : (InRow G z i × Stored links z (get_or links y 0) (set links z (get_or links y 0)) × Stored (set links z (get_or links y 0)) y (z + 1) links')
      ⊎ ((InRow G z i → ⊥) × (links' ≡ links))
  relinked =
      either (split (ltb i (get_or G.first (z + 1) 0)))
      (λ t.
      let l = ltb-true i (get_or G.first (z + 1) 0) t in
      let r = in_row_i G z i Q.from l in
      let a = stored links (set links z (get_or links y 0)) z (get_or links y 0) refl (omega (arith, Q.links_long, Q.seat)) in
      inl (r, a, stored (set links z (get_or links y 0)) links' y (z + 1) (Q.links_are ∙ sym (queued_waits G links z i y l refl)) (omega (arith, a.long, Q.links_long, (Q.above r).1))))
      (λ t.
      let l = ltb-false i (get_or G.first (z + 1) 0) t in
      inr (λ r. omega (arith, r.high, next_row G z), Q.links_are ∙ sym (queued_ended G links z i l)))

  relinked_long : length links' ≡ 4096
  relinked_long = either relinked (λ (r, a, b). b.long ∙ a.long ∙ Q.links_long) (λ (n, e). ap length e ∙ Q.links_long)

  relinked_low : (w : ℕ) → w < x → w ≢ z → get_or links' w 0 ≡ get_or links w 0
  relinked_low w l d =
      either relinked (λ (r, a, b). b.off w (λ e. omega (arith, (Q.above r).0)) ∙ a.off w d) (λ (n, e). ap (λ o. get_or o w 0) e)

  -- the lines of later turns, with it among the rows below m
  lines_on : {m : ℕ} → x ≤ m → z < m → ((w : ℕ) → w < m → w ≢ z → w < x) → (q : ℕ) → x < q → Line G m q (get_or links' q 0) links' places'
  lines_on {m} more zm only q h =
      let same : get_or links' q 0 ≡ get_or links q 0 → (Waits G places' z q → ⊥) → Line G m q (get_or links' q 0) links' places' =
      λ e n. subst (λ v. Line G m q v links' places') (sym e) (line_same more only relinked_low moved.off (Q.lines q h) (Q.out q h) n) in
      either relinked
      (λ (r, a, b). either (same_or_not q y)
      (λ d.
      let w : Waits G places' z q = record { row = rw moved.here r; entry = ap (λ v. get_or G.heads v 0) moved.here ∙ sym d } in
      let e : get_or links' z 0 ≡ get_or links q 0 = b.off z (λ f. omega (arith, Q.early)) ∙ a.here ∙ ap (λ v. get_or links v 0) (sym d) in
      subst (λ v. Line G m q v links' places') (sym (ap (λ v. get_or links' v 0) d ∙ b.here ∙ add-one z))
      (line_front more only relinked_low moved.off (Q.lines q h) (Q.out q h) zm w e))
      (λ d. same (b.off q d ∙ a.off q (λ f. omega (arith, Q.early))) (λ w. d (sym (own_row w).1))))
      (λ (n, e). same (ap (λ o. get_or o q 0) e) (λ w. n (own_row w).0))

-- ---- before the first turn

module _ {G : Graph} where
  -- no row waits
  pub waiting_none : (links places : List ℕ) → links ≡ replicate 4096 0 → length places ≡ 4096 → Waiting G 0 (get_or links 0 0) links places
  waiting_none links places e long =
      record {
        links_long = ap length e ∙ length-replicate {A = ℕ} 4096 0;
        places_long = long;
        from = λ z h. absurd (omega arith);
        ahead = λ z i h r l. absurd (omega arith);
        here = empty 0;
        later = λ q h. empty q;
      }
    where
      clear : (q : ℕ) → get_or links q 0 ≡ 0
      clear q =
          either (split (ltb q 4096))
          (λ d. ap (λ l. get_or l q 0) e ∙ get_or-replicate {A = ℕ} 4096 q 0 0 (ltb-true q 4096 d))
          (λ d. get_or-eq_default links 0 {n = q} (omega (arith, ap length e, length-replicate {A = ℕ} 4096 0, ltb-false q 4096 d)))

      empty : (q : ℕ) → Line G 0 q (get_or links q 0) links places
      empty q =
          record {
            rows = [];
            chain = chain_empty links (get_or links q 0) (clear q);
            each = λ z t. absurd (has_nil z t);
            all = λ z h a. absurd (omega arith);
          }

  pub passed_none : (places : List ℕ) → PassedBelow G 0 0 places
  passed_none places = record { below = λ z i h r l. absurd (omega arith) }

  -- ---- what stands from x on does not matter to the rows below

  pub waiting_same : {x k : ℕ} {links places places' : List ℕ} → Waiting G x k links places → length places' ≡ 4096
      → SameBelow x places places' → Waiting G x k links places'
  waiting_same W long S =
      record {
        links_long = W.links_long;
        places_long = long;
        from = λ z h. omega (arith, S.below z h, W.from z h);
        ahead = λ z i h r l. W.ahead z i h r (omega (arith, S.below z h));
        here = line_as W.here (λ w h a. (h, refl, S.below w h)) (λ w h a. (h, S.below w h));
        later = λ q l. line_as (W.later q l) (λ w h a. (h, refl, S.below w h)) (λ w h a. (h, S.below w h));
      }

  pub passed_same : {m top : ℕ} {places places' : List ℕ} → SameBelow m places places' → PassedBelow G m top places → PassedBelow G m top places'
  passed_same S P = record { below = λ z i h r l. P.below z i h r (omega (arith, S.below z h)) }

  -- what is past entries below x is past entries up to x
  pub passed_begun : {x : ℕ} {places : List ℕ} → PassedBelow G x x places → PassedBelow G x (x + 1) places
  passed_begun P = record { below = λ z i h r l. omega (arith, P.below z i h r l) }

-- ---- how much is left to meet

-- the places of the rows below m that are still to be met
pub unmet : (G : Graph) (m : ℕ) (places : List ℕ) → ℕ
unmet G m places = total (λ z. get_or G.first (suc z) 0 - get_or places z 0) m

-- ---- in the turn of x

module _ {G : Graph} {x : ℕ} (U : Turn G x) where
  -- the row that is met next waits for x
  pub met_first : {k : ℕ} {links places : List ℕ} → Waiting G x k links places → (z : ℕ) → k ≡ suc z → (z < x) × Waits G places z x
  met_first {k} {links} W z e =
      let (rest, is, once, C) = chain_rest links k z W.here.rows W.here.chain e in
      W.here.each z (subst (λ l. T (has l z)) (sym is) (has_here z z rest refl))

  -- it is the one before k
  pub met_low : {k : ℕ} {links places : List ℕ} → Waiting G x k links places → k ≤ x
  met_low {k} W =
      either (split (ltb 0 k))
      (λ t. let l = ltb-true 0 k t in omega (arith, (met_first W (k - 1) (let e : k ≡ suc (k - 1) = omega arith in e)).0))
      (λ t. omega (arith, ltb-false 0 k t))

  module _ {k : ℕ} {links places : List ℕ} (W : Waiting G x k links places) (z i : ℕ) (e : k ≡ suc z) (ei : i ≡ get_or places z 0) where
    -- it has x at place i
    pub met : (z < count G.first) × (z < x) × InRow G z i × (get_or G.heads i 0 ≡ x)
    met = let (h, a) = met_first W z e in rw ei (omega (arith, U.under), h, a.row, a.entry)

    -- what waiting for the next entry asks
    pub met_turn : Turn G z × (get_or G.first z 0 ≤ i + 1) × (i + 1 ≤ get_or G.first (z + 1) 0)
    met_turn =
        let (zn, zx, r, ex) = met in
        (record { rows = U.rows; few = U.few; under = zn }, omega (arith, r.low), omega (arith, r.high, next_row G z))

    -- where it waits next: past x, and past nothing else that has something behind it
    pub met_next : {j : ℕ} → j ≡ wait_at G.first z (i + 1)
        → (i < j) × (j ≤ get_or G.first (z + 1) 0) × ((a : ℕ) → a < j → InRow G z (a + 1) → a < i + 1)
    met_next {j} ej =
        let (l, h, over) = wait_range G.first z (i + 1) j ej met_turn.2 in
        (omega arith, h, λ a b r. over a b (omega (arith, r.high, next_row G z)))

    -- it waits at a later place j
    module _ {j : ℕ} {links' places' : List ℕ} (ij : i < j) (el : links' ≡ queued G links z j) (ep : places' ≡ set places z j) where
      queue : Queue G x z j links places links' places'
      queue =
          let (zn, zx, ri, ex) = met in
          record {
            links_long = W.links_long;
            places_long = W.places_long;
            early = omega arith;
            seat = omega (arith, U.few);
            from = omega (arith, ri.low);
            above = λ r. (omega (arith, U.rows.climb z i j zn ri r ij), omega (arith, U.rows.below z j zn r, U.few));
            lines = W.later;
            out = λ q h l a. omega (arith, a.entry, ap (λ v. get_or G.heads v 0) ei);
            links_are = el;
            places_are = ep;
          }

      -- its place moves, no other
      pub met_moves : Stored places z j places'
      met_moves = moved queue

      -- the rows that wait then
      pub met_waits : {k' : ℕ} → k' ≡ get_or links z 0 → Waiting G x k' links' places'
      met_waits {k'} d =
          let (zn, zx, ri, ex) = met in
          let s = met_moves in
          record {
            links_long = relinked_long queue;
            places_long = s.long ∙ W.places_long;
            from = λ w h.
                either (same_or_not w z)
                (λ f. rw f (omega (arith, s.here, ri.low)))
                (λ f. omega (arith, s.off w f, W.from w h));
            ahead = λ w b h r l.
                either (same_or_not w z)
                (λ f.
                let rb : InRow G z b = subst (λ v. InRow G v b) f r in
                omega (arith, U.rows.climb z i b zn ri rb (omega (arith, s.here, ap (λ v. get_or places' v 0) f))))
                (λ f. W.ahead w b h r (omega (arith, s.off w f)));
            here = subst (λ v. Line G x x v links' places') (sym d)
                (line_rest (omega arith) (λ w h n. h) (relinked_low queue) s.off W.here e
                (λ a. let (r, f) = own_row queue a in omega (arith, (queue.above r).0)));
            later = lines_on queue (omega arith) zx (λ w h n. h);
          }

      -- less is left to meet
      pub met_less : unmet G x places' < unmet G x places
      unfolding unmet
      met_less =
          let (zn, zx, ri, ex) = met in
          total_less (λ z. get_or G.first (suc z) 0 - get_or places z 0) (λ z. get_or G.first (suc z) 0 - get_or places' z 0) x z zx
          (omega (arith, met_moves.here, ri.high)) (λ w d. omega (arith, met_moves.off w d))

    -- it is past x then, if it waits at the next place
    pub met_passed : {places' : List ℕ} → Stored places z (i + 1) places' → PassedBelow G x (x + 1) places → PassedBelow G x (x + 1) places'
    met_passed {places'} s P =
        record {
          below = λ w b h r l.
              either (same_or_not w z)
              (λ f.
              either (same_or_not b i)
              (λ g. let (zn, zx, ri, ex) = met in omega (arith, ap (λ v. get_or G.heads v 0) g))
              (λ g. P.below w b h r (omega (arith, ap (λ v. get_or places' v 0) f, ap (λ v. get_or places v 0) f, s.here))))
              (λ f. P.below w b h r (omega (arith, s.off w f)));
        }

  -- at the end of the turn each row that has x is past it
  pub waiting_past : {k : ℕ} {links places : List ℕ} → Waiting G x k links places → k ≡ 0 → (z a : ℕ) → z < x → InRow G z a → get_or G.heads a 0 ≡ x
      → a < get_or places z 0
  waiting_past {k} {links} {places} W e z a h r g =
      either (split (ltb a (get_or places z 0))) (λ d. ltb-true a (get_or places z 0) d)
      (λ d.
      let c = get_or places z 0 in
      let l : c ≤ a = ltb-false a c d in
      let rc : InRow G z c = record { low = W.from z h; high = omega (arith, r.high) } in
      let u = W.ahead z c h rc (omega arith) in
      let same : get_or G.heads c 0 ≡ x =
      either (same_or_not c a) (λ f. ap (λ v. get_or G.heads v 0) f ∙ g)
      (λ f. let t = U.rows.climb z c a (omega (arith, U.under)) rc r (omega arith) in omega arith) in
      absurd (chain_none links k z W.here.rows W.here.chain e (W.here.all z h (record { row = rc; entry = same }))))

  -- the row of x waits at a place of its own, and the next turn comes
  pub waiting_next : {i : ℕ} {links places links' places' : List ℕ} → get_or G.first x 0 ≤ i → links' ≡ queued G links x i → places' ≡ set places x i
      → Waiting G x 0 links places → Waiting G (x + 1) (get_or links' (x + 1) 0) links' places'
  waiting_next {i} {links} {places} {links'} {places'} from el ep W =
      let Q : Queue G x x i links places links' places' = record {
        links_long = W.links_long;
        places_long = W.places_long;
        early = omega arith;
        seat = omega (arith, U.under, U.few);
        from = from;
        above = λ r. (U.rows.above x i U.under r, omega (arith, U.rows.below x i U.under r, U.few));
        lines = W.later;
        out = λ q h l a. omega arith;
        links_are = el;
        places_are = ep;
      } in
      let s = moved Q in
      let lines : (q : ℕ) → x < q → Line G (x + 1) q (get_or links' q 0) links' places' = lines_on Q (omega arith) (omega arith) (λ w h d. omega arith) in
      record {
        links_long = relinked_long Q;
        places_long = s.long ∙ W.places_long;
        from = λ w h.
            either (same_or_not w x)
            (λ f. rw f (omega (arith, s.here)))
            (λ f. omega (arith, s.off w f, W.from w (omega arith)));
        ahead = λ w b h r l.
            either (same_or_not w x)
            (λ f. omega (arith, U.rows.above w b (omega (arith, U.under)) r))
            (λ f.
            either (same_or_not (get_or G.heads b 0) x)
            (λ g. absurd (omega (arith, waiting_past W refl w b (omega arith) r g, s.off w f)))
            (λ g. omega (arith, W.ahead w b (omega arith) r (omega (arith, s.off w f)))));
        here = lines (x + 1) (omega arith);
        later = λ q h. lines q (omega arith);
      }

  -- it is past no entry, if it waits at its first place
  pub passed_next : {i : ℕ} {places places' : List ℕ} → i ≡ get_or G.first x 0 → places' ≡ set places x i → x < length places
      → PassedBelow G x (x + 1) places → PassedBelow G (x + 1) (x + 1) places'
  passed_next {i} {places} {places'} ei ep long P =
      let s = stored places places' x i ep long in
      record {
        below = λ w b h r l.
            either (same_or_not w x)
            (λ f. absurd (omega (arith, r.low, ap (λ v. get_or places' v 0) f, ap (λ v. get_or G.first v 0) f, s.here)))
            (λ f. P.below w b (omega arith) r (omega (arith, s.off w f)));
      }
