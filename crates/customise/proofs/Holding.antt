-- The turn of x, for some roads: its row costs the least of the roads and of the ways over the rows that are past x, so at the end the
-- customised costs. Assumes nothing.
use Prim.Native.Nat.{ℕ, ◌+◌, ◌≤◌, ◌<◌, min}
use mathlib.Core.Path.{◌≡◌, refl, sym, ap, ◌∙◌, subst}
use mathlib.Core.Logic.{◌≢◌}
use mathlib.Core.Bool.{Bool, true, false, cond, ◌&&◌}
use mathlib.Core.List.{List}
use native.Mathlib.Omega.{arith}
use lib.Dec.{T, ltb}
use lib.ListN.{get_or}
use borrow.Author.Tests.{ltb-true, le-ltb, lt-ltb}
use Rattle.rules.specs.declared.Direction.{Direction}
use Rattle.rules.specs.declared.Direction.TheVariants.{Up, Down}
use Rattle.rules.specs.Words.{least}
use Rattle.rules.specs.Costs.{closed, sum}
use Rattle.rules.specs.Graph.{Graph}
use Rattle.rules.specs.Hierarchy.{EdgeCosts, along, linked, place}
use Rattle.rules.specs.Customised.{over, customised}
use Rattle.theory.specs.Rows.{InRow, count}
use Rattle.theory.proofs.Words.{either, split, same_or_not, true_holds, holds_true, true_false, cond_true, cond_false, and_i, and_l, and_r, least_start, least_above, least_once, least_same}
use Rattle.theory.proofs.Rows.{in_row_i, next_row, before, row_of_lem, linked_e, linked_i, place_is}
use Rattle.theory.proofs.Customised.{customised_is}
use Rattle.rules.specs.Lent.{chosen}
use Rattle.turns.specs.Edges.{At}
use Rattle.turns.specs.Waiting.{Turn, PassedBelow}
use Rattle.customise.specs.Turns.{Crossed, Shut, Risen, across}
use Rattle.turns.proofs.At.{at_as}
use Rattle.turns.proofs.Stored.{Stored}

-- ---- the least, with one number that counts for more

-- ---- the ways over some rows

module _ (joined : ℕ → ℕ → Bool) (cost : ℕ → ℕ → ℕ) (a b z : ℕ) where
  over_some : T (joined z a) → T (joined z b) → over joined cost a b z ≡ sum (cost a z) (cost z b)
  over_some s t = cond_true (joined z a && joined z b) (sum (cost a z) (cost z b)) closed (and_i (joined z a) (joined z b) s t)

  over_none : (T (joined z a) → T (joined z b) → ⊥) → over joined cost a b z ≡ closed
  over_none n =
      cond_false (joined z a && joined z b) (sum (cost a z) (cost z b)) closed
      (λ t. n (and_l (joined z a) (joined z b) t) (and_r (joined z a) (joined z b) t))

-- the least of the road from a to b and of the ways over the rows that count
module _ (G : Graph) (road : ℕ → ℕ → ℕ) (counts : ℕ → Bool) (a b : ℕ) where
  offer : ℕ → ℕ
  offer z = cond (counts z) (over (linked G) (customised (linked G) road) a b z) closed

  pub so_far : ℕ
  so_far = least offer (road a b) (min a b)

-- x is the lower of a and b
record Ends (G : Graph) (x a b : ℕ) : Type 0 where
  low : min a b ≡ x
  joined : (z : ℕ) → T (linked G z a) → T (linked G z b) → T (linked G z x)

module _ {G : Graph} {x a b : ℕ} (E : Ends G x a b) {road : ℕ → ℕ → ℕ} (shut : Shut road) where
  abbrev J : ℕ → ℕ → Bool
  J = linked G

  abbrev c : ℕ → ℕ → ℕ
  c = customised J road

  -- no row with x counts
  so_far_none : (counts : ℕ → Bool) → ((z : ℕ) → z < x → T (J z x) → counts z ≡ false) → so_far G road counts a b ≡ road a b
  unfolding so_far offer
  so_far_none counts none =
      omega (
        arith,
        least_start (offer G road counts a b) (road a b) (min a b),
        least_above (offer G road counts a b) (road a b) (min a b) (road a b) (omega arith)
            (λ z l.
            either (split (counts z))
            (λ e.
            rw e
            (omega (arith, shut a b, over_none J c a b z (λ s t. true_false (sym e ∙ none z (omega (arith, E.low)) (E.joined z s t))))))
            (λ e. rw e (shut a b))),
      )

  -- every row with x counts
  so_far_all : (counts : ℕ → Bool) → ((z : ℕ) → z < x → T (J z x) → counts z ≡ true) → so_far G road counts a b ≡ c a b
  unfolding so_far offer
  so_far_all counts all =
      least_same (offer G road counts a b) (over J c a b) (road a b) (min a b)
      (λ z l.
      either (split (counts z))
      (λ e. rw e refl)
      (λ e. rw e (sym (over_none J c a b z (λ s t. true_false (sym (all z (omega (arith, E.low)) (E.joined z s t)) ∙ e))))))
      ∙ sym (customised_is J road a b)

  -- one row more counts
  so_far_more : (counts counts' : ℕ → Bool) (z : ℕ) → z < x → counts z ≡ false → counts' z ≡ true → ((w : ℕ) → w ≢ z → counts' w ≡ counts w)
      → (so_far G road counts' a b ≡ min (so_far G road counts a b) (over J c a b z)) × (so_far G road counts a b ≤ closed)
  unfolding so_far offer
  so_far_more counts counts' z l off on same =
      let f : offer G road counts a b z ≡ closed = rw off refl in
      let g : offer G road counts' a b z ≡ over J c a b z = rw on refl in
      let s = least_once (offer G road counts a b) (offer G road counts' a b) (road a b) (min a b) z (omega (arith, E.low)) (omega (arith, shut a b))
      (λ w d. ap (λ t. cond t (over J c a b w) closed) (same w d)) in
      (omega arith, omega (arith, least_start (offer G road counts a b) (road a b) (min a b), shut a b))

-- ---- the turn of x

-- row z is past x
abbrev past : (G : Graph) (x : ℕ) (places : List ℕ) (z : ℕ) → Bool
past G x places z = ltb (place G z x) (get_or places z 0)

-- lower rows are final, higher ones as the roads; the row of x costs the least of the roads and of the ways over the rows that are past x
pub record Holding (G : Graph) (road : ℕ → ℕ → ℕ) (x : ℕ) (places : List ℕ) (C : EdgeCosts) : Type 0 where
  final : (p k : ℕ) → p < x → p < count G.first → InRow G p k → At G C (customised (linked G) road) p k
  roads : (p k : ℕ) → x < p → p < count G.first → InRow G p k → At G C road p k
  own : (k : ℕ) → InRow G x k → At G C (so_far G road (past G x places)) x k

module _ {G : Graph} {x : ℕ} (U : Turn G x) {road : ℕ → ℕ → ℕ} (shut : Shut road) where
  abbrev K : ℕ → ℕ → ℕ
  K = customised (linked G) road

  -- from x to the entry at place k of its row, and back
  there : (k : ℕ) → InRow G x k → Ends G x x (get_or G.heads k 0)
  there k r = let a = U.rows.above x k U.under r in record { low = omega arith; joined = λ z t u. t }

  back : (k : ℕ) → InRow G x k → Ends G x (get_or G.heads k 0) x
  back k r = let a = U.rows.above x k U.under r in record { low = omega arith; joined = λ z t u. u }

  -- a row with x has it at a place
  x_at : (z : ℕ) → z < x → T (linked G z x) → (a : ℕ) × InRow G z a × (get_or G.heads a 0 ≡ x) × (place G z x ≡ a)
  x_at z l t = let (a, r, e) = linked_e U.rows z x t l in (a, r, e, place_is U.rows z a x (omega (arith, U.under)) r e)

  -- no row is past x yet
  pub holding_start : {places : List ℕ} {C : EdgeCosts} → PassedBelow G x x places → Risen G road x C → Holding G road x places C
  holding_start {places} P S =
      record {
        final = S.final;
        roads = λ p k h l r. S.roads p k (omega arith) l r;
        own = λ k r.
            at_as (S.roads x k (omega arith) U.under r) (sym (so_far_none (there k r) shut (past G x places) none))
            (sym (so_far_none (back k r) shut (past G x places) none));
      }
    where
      none : (z : ℕ) → z < x → T (linked G z x) → past G x places z ≡ false
      none z l t =
          let (a, r, e, q) = x_at z l t in
          either (split (past G x places z))
          (λ h. absurd (omega (arith, P.below z a l r (omega (arith, ltb-true (place G z x) (get_or places z 0) h)))))
          (λ h. h)

  -- each row with x is past it
  pub holding_end : {places : List ℕ} {C : EdgeCosts} → ((z a : ℕ) → z < x → InRow G z a → get_or G.heads a 0 ≡ x → a < get_or places z 0)
      → Holding G road x places C → Risen G road (x + 1) C
  holding_end {places} {C} after H =
      record {
        final = λ p k h g r.
            either (same_or_not p x)
            (λ d. subst (λ v. At G C K v k) (sym d) (own k (subst (λ v. InRow G v k) d r)))
            (λ d. H.final p k (omega arith) g r);
        roads = λ p k h g r. H.roads p k (omega arith) g r;
      }
    where
      all : (z : ℕ) → z < x → T (linked G z x) → past G x places z ≡ true
      all z l t = let (a, r, e, q) = x_at z l t in lt-ltb (place G z x) (get_or places z 0) (omega (arith, after z a l r e))

      own : (k : ℕ) → InRow G x k → At G C K x k
      own k r = at_as (H.own k r) (so_far_all (there k r) shut (past G x places) all) (so_far_all (back k r) shut (past G x places) all)

  -- the row of z, which has x at place i, is past it now and has made its offers
  module _ {z i : ℕ} {places places' : List ℕ} {C C' : EdgeCosts} (zn : z < count G.first) (zx : z < x) (ri : InRow G z i) (ei : get_or G.heads i 0 ≡ x)
      (at : i ≡ get_or places z 0) (s : Stored places z (i + 1) places') (X : Crossed G i (get_or G.first (z + 1) 0) C C') (H : Holding G road x places C) where
    -- the other rows stay as they were
    off_row : (p k : ℕ) → p < count G.first → p ≢ x → InRow G p k → (d : Direction) → get_or (chosen d C') k 0 ≡ get_or (chosen d C) k 0
    off_row p k h n r d =
        X.others d k (λ b l g t. n (row_of_lem U.rows p x k h U.under r (subst (λ v. InRow G v k) ei t.row)))

    -- the way over z
    abbrev way : ℕ → ℕ → ℕ
    way a b = over (linked G) K a b z

    more : {a b : ℕ} → Ends G x a b
        → (so_far G road (past G x places') a b ≡ min (so_far G road (past G x places) a b) (way a b)) × (so_far G road (past G x places) a b ≤ closed)
    more E =
        let p : place G z x ≡ i = place_is U.rows z i x zn ri ei in
        so_far_more E shut (past G x places) (past G x places') z zx (le-ltb (place G z x) (get_or places z 0) (omega arith))
        (lt-ltb (place G z x) (get_or places' z 0) (omega (arith, s.here))) (λ w d. ap (λ v. ltb (place G w x) v) (s.off w d))

    module _ (k : ℕ) (r : InRow G x k) where
      abbrev y : ℕ
      y = get_or G.heads k 0

      more_along : (d : Direction)
          → (along d (so_far G road (past G x places')) x y ≡ min (along d (so_far G road (past G x places)) x y) (along d way x y))
          × (along d (so_far G road (past G x places)) x y ≤ closed)
      more_along Up = more (there k r)
      more_along Down = more (back k r)

      -- where z's row has y, too, the way over z is the offer
      way_some : (b : ℕ) → InRow G z b → get_or G.heads b 0 ≡ y → T (linked G z y) → (d : Direction) → along d (across C) i b ≡ along d way x y
      way_some b rb eb jy Up =
          rw ((H.final z i zx zn ri).stands Down, (H.final z b zx zn rb).stands Up, ei, eb)
          (sym (over_some (linked G) K x y z (linked_i U.rows z i x zn ri ei) jy))
      way_some b rb eb jy Down =
          rw ((H.final z b zx zn rb).stands Down, (H.final z i zx zn ri).stands Up, ei, eb)
          (sym (over_some (linked G) K y x z jy (linked_i U.rows z i x zn ri ei)))

      -- where it has not, there is none
      way_none : (T (linked G z y) → ⊥) → (d : Direction) → along d way x y ≡ closed
      way_none n Up = over_none (linked G) K x y z (λ t u. n u)
      way_none n Down = over_none (linked G) K y x z (λ t u. n t)

      own_more : (d : Direction) → get_or (chosen d C') k 0 ≡ along d (so_far G road (past G x places')) x y
      own_more d =
          let (m, small) = more_along d in
          let old = (H.own k r).stands d in
          let xy : x < y = U.rows.above x k U.under r in
          either (split (linked G z y))
          (λ t.
          let jy = true_holds (linked G z y) t in
          let (b, rb, eb) = linked_e U.rows z y jy (omega arith) in
          let ib : i < b = before G z i b (λ u v. U.rows.climb z u v zn) ri rb (omega arith) in
          omega (
            arith,
            X.thirds d b k ib (omega (arith, rb.high, next_row G z)) (record { row = rw ei r; other = sym eb }),
            way_some b rb eb jy d,
          ))
          (λ t.
          let n : T (linked G z y) → ⊥ = λ u. true_false (sym (holds_true (linked G z y) u) ∙ t) in
          omega (
            arith,
            X.others d k (λ b l g u. n (linked_i U.rows z b y zn (in_row_i G z b (omega (arith, ri.low)) g) (sym u.other))),
            way_none n d,
          ))

    pub holding_more : Holding G road x places' C'
    holding_more =
        record {
          final = λ p k h g r. record { stands = λ d. off_row p k g (λ e. omega arith) r d ∙ (H.final p k h g r).stands d };
          roads = λ p k h g r. record { stands = λ d. off_row p k g (λ e. omega arith) r d ∙ (H.roads p k h g r).stands d };
          own = λ k r. record { stands = own_more k r };
        }
