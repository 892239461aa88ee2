-- The lowest position that leads up to each: positions take their turns upward, each handing on to its parent, and a lower neighbour leads up
-- by parents. Assumes nothing.
use Prim.Native.Nat.{ℕ, zero, suc, ◌+◌, ◌≤◌, ◌<◌, min}
use mathlib.Core.Path.{◌≡◌, refl, sym, ap, ◌∙◌, subst}
use mathlib.Core.List.{List}
use native.Mathlib.Omega.{arith}
use lib.Dec.{T, eqb, ltb}
use lib.ListN.{length, get_or, set, length-set}
use lib.Seq.{get_or-set_same, get_or-set_other}
use borrow.Author.Tests.{ltb-true, ltb-false, lt-ltb, le-ltb, eqb-true, eqb-false}
use Rattle.rules.specs.Graph.{Graph}
use Rattle.rules.specs.Hierarchy.{linked}
use Rattle.theory.specs.Rows.{InRow, Rows, count, parent_at}
use Rattle.theory.proofs.Words.{either, split}
use Rattle.theory.proofs.Rows.{next_row, in_row_i, parent_in, linked_e, linked_i, linked_low}
use Rattle.unpack.specs.Opening.{low_turn, Lows}

-- ---- one turn

module _ (G : Graph) (low : List ℕ) (p mine from to : ℕ) (from_is : from ≡ get_or G.first p 0) (to_is : to ≡ get_or G.first (p + 1) 0)
    (mine_is : mine ≡ min (get_or low p 0) p) where
  -- the code's steps are the turn: of a position with no parent, and of one with a parent
  pub hand_alone : to ≤ from → set low p mine ≡ low_turn G p low
  unfolding low_turn
  hand_alone l = rw (mine_is, le-ltb (get_or G.first p 0) (get_or G.first (p + 1) 0) (omega arith)) refl

  pub hand_parent : (parent v : ℕ) → from < to → parent ≡ get_or G.heads from 0 → v ≡ min (get_or (set low p mine) parent 0) mine
      → set (set low p mine) parent v ≡ low_turn G p low
  unfolding low_turn
  hand_parent parent v l c w =
      let f = c ∙ ap (λ k. get_or G.heads k 0) from_is in
      rw (w, f, mine_is, lt-ltb (get_or G.first p 0) (get_or G.first (p + 1) 0) (omega arith)) refl

-- what the turn of p leaves
record Turned (G : Graph) (p : ℕ) (low then : List ℕ) : Type 0 where
  long : length then ≡ length low
  own : get_or then p 0 ≤ p
  lowers : (x : ℕ) → get_or then x 0 ≤ get_or low x 0
  keeps : (x : ℕ) → x < p → get_or then x 0 ≡ get_or low x 0
  hands : get_or G.first p 0 < get_or G.first (p + 1) 0 → get_or then (parent_at G p) 0 ≤ get_or then p 0

-- a place of a list after a store there and elsewhere
stored : (l : List ℕ) (i v x : ℕ) → i < length l → v ≤ get_or l i 0 → get_or (set l i v) x 0 ≤ get_or l x 0
stored l i v x h b =
    either (split (eqb x i))
    (λ e. omega (arith, ap (λ k. get_or (set l i v) k 0) (eqb-true x i e), get_or-set_same l i v 0 h, ap (λ k. get_or l k 0) (eqb-true x i e)))
    (λ e. omega (arith, get_or-set_other l i x v 0 (eqb-false x i e)))

module _ {G : Graph} (R : Rows (count G.first) G) (few : count G.first ≤ 4096) (p : ℕ) (low then : List ℕ) (h : p < count G.first)
    (long : length low ≡ 4096) (is : then ≡ low_turn G p low) where
  abbrev mine : ℕ
  mine = min (get_or low p 0) p

  abbrev c : ℕ
  c = parent_at G p

  abbrev after_own : List ℕ
  after_own = set low p mine

  own_is : get_or after_own p 0 ≡ mine
  own_is = get_or-set_same low p mine 0 (omega arith)

  -- a position with no parent
  alone : get_or G.first (p + 1) 0 ≤ get_or G.first p 0 → Turned G p low then
  unfolding low_turn
  alone l =
      let e : then ≡ after_own = is ∙ rw (le-ltb (get_or G.first p 0) (get_or G.first (p + 1) 0) l) refl in
      rw e
      (record {
        long = length-set low p mine;
        own = omega (arith, own_is);
        lowers = λ x. stored low p mine x (omega arith) (omega arith);
        keeps = λ x b. get_or-set_other low p x mine 0 (λ d. omega arith);
        hands = λ g. absurd (omega arith);
      })

  -- one with a parent
  handed : get_or G.first p 0 < get_or G.first (p + 1) 0 → Turned G p low then
  unfolding low_turn
  handed l =
      let (above, below) = parent_in R p h l in
      let v = min (get_or after_own c 0) mine in
      let room : c < length after_own = omega (arith, length-set low p mine) in
      let e : then ≡ set after_own c v = is ∙ rw (lt-ltb (get_or G.first p 0) (get_or G.first (p + 1) 0) l) refl in
      let there : get_or (set after_own c v) c 0 ≡ v = get_or-set_same after_own c v 0 room in
      let own : get_or (set after_own c v) p 0 ≡ mine = get_or-set_other after_own c p v 0 (λ d. omega arith) ∙ own_is in
      rw e
      (record {
        long = length-set after_own c v ∙ length-set low p mine;
        own = omega arith;
        lowers = λ x. omega (arith, stored after_own c v x room (omega arith), stored low p mine x (omega arith) (omega arith));
        keeps = λ x b. get_or-set_other after_own c x v 0 (λ d. omega arith) ∙ get_or-set_other low p x mine 0 (λ d. omega arith);
        hands = λ g. omega arith;
      })

  turned : Turned G p low then
  turned =
      either (split (ltb (get_or G.first p 0) (get_or G.first (p + 1) 0)))
      (λ e. handed (ltb-true (get_or G.first p 0) (get_or G.first (p + 1) 0) e))
      (λ e. alone (ltb-false (get_or G.first p 0) (get_or G.first (p + 1) 0) e))

-- ---- all turns

-- the positions below p have had their turn
pub record Lowered (G : Graph) (p : ℕ) (low : List ℕ) : Type 0 where
  pub within : p ≤ count G.first
  pub long : length low ≡ 4096
  pub under : (x : ℕ) → x < p → get_or low x 0 ≤ x
  pub on : (z : ℕ) → z < p → get_or G.first z 0 < get_or G.first (z + 1) 0 → get_or low (parent_at G z) 0 ≤ get_or low z 0

pub lowered_none : (G : Graph) (low : List ℕ) → length low ≡ 4096 → Lowered G 0 low
lowered_none G low e =
    record { within = omega arith; long = e; under = λ x l. absurd (omega arith); on = λ z l g. absurd (omega arith) }

pub lowered_more : {G : Graph} {low : List ℕ} {p : ℕ} (then : List ℕ) → Rows (count G.first) G → count G.first ≤ 4096 → Lowered G p low
    → p < count G.first → then ≡ low_turn G p low → Lowered G (p + 1) then
lowered_more {G} {low} {p} then R few L h e =
    let T = turned R few p low then h L.long e in
    record {
      within = omega arith;
      long = T.long ∙ L.long;
      under = λ x l.
          either (split (eqb x p))
          (λ d. omega (arith, ap (λ k. get_or then k 0) (eqb-true x p d), T.own, eqb-true x p d))
          (λ d. omega (arith, T.lowers x, L.under x (omega (arith, eqb-false x p d))));
      on = λ z l g.
          either (split (eqb z p))
          (λ d. subst (λ q. get_or then (parent_at G q) 0 ≤ get_or then q 0) (sym (eqb-true z p d))
          (T.hands (subst (λ q. get_or G.first q 0 < get_or G.first (q + 1) 0) (eqb-true z p d) g)))
          (λ d.
          let b : z < p = omega (arith, eqb-false z p d) in
          omega (arith, T.lowers (parent_at G z), L.on z b g, T.keeps z b));
    }

module _ {G : Graph} {low : List ℕ} (R : Rows (count G.first) G) (L : Lowered G (count G.first) low) where
  -- what leads up to a position leads up to all its higher neighbours
  climbs : (k z x : ℕ) → x ≤ z + k → z < x → T (linked G z x) → get_or low x 0 ≤ get_or low z 0
  climbs zero z x m l t = absurd (omega arith)
  climbs (suc k) z x m l t =
      let n = linked_low R z x t in
      let (i, r, e) = linked_e R z x t l in
      let f = get_or G.first z 0 in
      let c = parent_at G z in
      let some : f < get_or G.first (z + 1) 0 = omega (arith, r.low, r.high, next_row G z) in
      let first_in : InRow G z f = in_row_i G z f (omega arith) some in
      let low_c = L.on z n some in
      let p = parent_in R z n some in
      either (split (eqb f i))
      (λ d. let same : c ≡ x = ap (λ j. get_or G.heads j 0) (eqb-true f i d) ∙ e in omega (arith, ap (λ j. get_or low j 0) same))
      (λ d.
      let b : f < i = omega (arith, r.low, eqb-false f i d) in
      let (j, q, ej) = R.third z f i n first_in r b in
      let under : c < x = omega (arith, R.climb z f i n first_in r b) in
      omega (arith, climbs k c x (omega (arith, p.0)) under (linked_i R c j x p.1 q (ej ∙ e))))

  -- so no lower neighbour lies lower than what leads up
  pub lows_found : Lows G low
  lows_found =
      record {
        long = L.long;
        under = L.under;
        reach = λ z x l t. omega (arith, climbs x z x (omega arith) l t, L.under z (linked_low R z x t));
      }
