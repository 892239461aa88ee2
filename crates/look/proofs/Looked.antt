-- The lower triangles over one row, one stretch of places after the other. Assumes nothing.
use Prim.Native.Nat.{ℕ, zero, suc, ◌+◌, ◌-◌, ◌≤◌, ◌<◌, min}
use mathlib.Core.Path.{◌≡◌, refl, sym, ap, ◌∙◌, subst}
use mathlib.Core.Logic.{◌⊎◌, inl, inr}
use mathlib.Core.Bool.{Bool, true, false, cond, ◌&&◌, ◌||◌}
use mathlib.Core.List.{List}
use native.Mathlib.Omega.{arith}
use lib.Dec.{T, eqb, ltb, leb}
use lib.ListN.{length, get_or}
use borrow.Author.Tests.{ltb-true, ltb-false}
use Rattle.rules.specs.declared.Direction.{Direction}
use Rattle.rules.specs.declared.Direction.TheVariants.{Up, Down}
use Rattle.rules.specs.Words.{total, how_many}
use Rattle.rules.specs.Graph.{Graph}
use Rattle.rules.specs.Hierarchy.{EdgeCosts}
use Rattle.theory.specs.Rows.{InRow, Lists, count}
use Rattle.theory.proofs.Words.{either, split, true_holds, and_i, and_l, and_r, or_l, or_r, or_e, some_i, some_e, eqb_e, eqb_i, leb_e, leb_i}
use Rattle.theory.proofs.Rows.{in_heads, in_row_i, next_row}
use Rattle.theory.proofs.Totals.{many_same, many_more, many_none, many_le}
use Rattle.rules.specs.Lent.{chosen}
use Rattle.turns.specs.Edges.{Stretch, at_most}
use Rattle.turns.proofs.Stored.{Stored, stored}
use Rattle.turns.proofs.Stretches.{stretch_row, stretch_part}
use Rattle.reconsider.specs.Marks.{says}
use Rattle.reconsider.proofs.Said.{says_no}
use Rattle.look.specs.Looking.{Seats, Costed, way_to, taken, among, Looked}

-- ---- how many

-- of two tests that do not both hold, either counts as much as the two
one_or : (a b : Bool) → (T a → T b → ⊥) → cond (a || b) 1 0 ≡ cond a 1 0 + cond b 1 0
one_or true true h = absurd (h tt tt)
one_or true false h = refl
one_or false b h = omega arith

-- where none passes both of two tests, those that pass either are those of the one and those of the other
many_or : (p q : ℕ → Bool) (n : ℕ) → ((i : ℕ) → T (p i) → T (q i) → ⊥) → how_many (λ i. p i || q i) n ≡ how_many p n + how_many q n
unfolding how_many total
many_or p q zero h = refl
many_or p q (suc n) h = omega (arith, many_or p q n h, one_or (p n) (q n) (h n))

-- not all pass where one does not
many_less : (p : ℕ → Bool) (n y : ℕ) → y < n → (T (p y) → ⊥) → how_many p n < n
many_less p n y l h =
    omega (
      arith,
      many_le (λ w. p w || eqb w y) n,
      many_more p (λ w. p w || eqb w y) n y l h (or_r (p y) (eqb y y) (eqb_i y y refl))
          (λ w d. (or_l (p w) (eqb w y), λ t. either (or_e (p w) (eqb w y) t) (λ u. u) (λ u. absurd (d (eqb_e w y u))))),
    )

-- ---- what stands at the places from a up to b

-- what has a place there is among them, and what is among them has one
pub among_i : (heads : List ℕ) (a b k y : ℕ) → a ≤ k → k < b → get_or heads k 0 ≡ y → T (among heads a b y)
unfolding among
among_i heads a b k y h l e =
    some_i (λ k. leb a k && eqb (get_or heads k 0) y) b k l (and_i (leb a k) (eqb (get_or heads k 0) y) (leb_i a k h) (eqb_i (get_or heads k 0) y e))

pub among_e : (heads : List ℕ) (a b y : ℕ) → T (among heads a b y) → (k : ℕ) × (a ≤ k) × (k < b) × (get_or heads k 0 ≡ y)
unfolding among
among_e heads a b y t =
    let (k, l, u) = some_e (λ k. leb a k && eqb (get_or heads k 0) y) b t in
    (k, leb_e a k (and_l (leb a k) (eqb (get_or heads k 0) y) u), l, eqb_e (get_or heads k 0) y (and_r (leb a k) (eqb (get_or heads k 0) y) u))

-- y is counted
abbrev counted : (heads : List ℕ) (marks : List Bool) (a b y : ℕ) → Bool
counted heads marks a b y = among heads a b y && says marks y

-- ---- two stretches, one behind the other

module _ {heads : List ℕ} {a b c : ℕ} (S : Stretch heads a c) (ab : a ≤ b) (bc : b ≤ c) where
  -- what stands in the one does not stand in the other
  apart : (y : ℕ) → T (among heads a b y) → T (among heads b c y) → ⊥
  apart y t u =
      let (k, h, l, e) = among_e heads a b y t in
      let (m, g, n, f) = among_e heads b c y u in
      omega (arith, S.climb k m h (omega arith) n)

  -- what stands in one of them stands in both together
  left : (y : ℕ) → T (among heads a b y) → T (among heads a c y)
  left y t = let (k, h, l, e) = among_e heads a b y t in among_i heads a c k y h (omega arith) e

  right : (y : ℕ) → T (among heads b c y) → T (among heads a c y)
  right y t = let (k, h, l, e) = among_e heads b c y t in among_i heads a c k y (omega arith) l e

  -- and nothing else does
  parts : (y : ℕ) → T (among heads a c y) → T (among heads a b y) ⊎ T (among heads b c y)
  parts y t =
      let (k, h, l, e) = among_e heads a c y t in
      either (split (ltb k b))
      (λ u. inl (among_i heads a b k y h (ltb-true k b u) e))
      (λ u. inr (among_i heads b c k y (ltb-false k b u) l e))

  -- so those counted in both are those of the one and those of the other
  both : (marks : List Bool) → how_many (counted heads marks a c) 4096 ≡ how_many (counted heads marks a b) 4096 + how_many (counted heads marks b c) 4096
  both marks =
      let p = among heads a b in
      let q = among heads b c in
      let u = among heads a c in
      let m = says marks in
      many_same (λ y. u y && m y) (λ y. (p y && m y) || (q y && m y)) 4096
      (λ y l. (
        λ t. either (parts y (and_l (u y) (m y) t))
            (λ h. or_l (p y && m y) (q y && m y) (and_i (p y) (m y) h (and_r (u y) (m y) t)))
            (λ h. or_r (p y && m y) (q y && m y) (and_i (q y) (m y) h (and_r (u y) (m y) t))),
        λ t. either (or_e (p y && m y) (q y && m y) t)
            (λ h. and_i (u y) (m y) (left y (and_l (p y) (m y) h)) (and_r (p y) (m y) h))
            (λ h. and_i (u y) (m y) (right y (and_l (q y) (m y) h)) (and_r (q y) (m y) h)),
      ))
      ∙ many_or (λ y. p y && m y) (λ y. q y && m y) 4096 (λ y t h. apart y (and_l (p y) (m y) t) (and_l (q y) (m y) h))

-- ---- one triangle

-- what is taken, in each direction
taken_is : (C D D' : EdgeCosts) (rise fall j y : ℕ) → D' ≡ taken C rise fall j y D → (d : Direction)
    → chosen d D' ≡ at_most (chosen d D) y (way_to C rise fall d j)
taken_is C D D' rise fall j y e Up = ap (λ (D : EdgeCosts). D.up) e
taken_is C D D' rise fall j y e Down = ap (λ (D : EdgeCosts). D.down) e

-- a place for each position, in one direction
seat_in : {D : EdgeCosts} → Seats D → (d : Direction) → length (chosen d D) ≡ 4096
seat_in S Up = S.up_long
seat_in S Down = S.down_long

-- both lists of costs go as far as to an earlier place
pub costed_part : {C : EdgeCosts} {a b : ℕ} → Costed C b → a ≤ b → Costed C a
costed_part K l = record { up_in = omega (arith, K.up_in); down_in = omega (arith, K.down_in) }

module _ {heads : List ℕ} {marks : List Bool} {C : EdgeCosts} {rise fall : ℕ} where
  -- where nothing is marked there is none
  pub looked_none : {a b s : ℕ} {D : EdgeCosts} → Seats D → ((k : ℕ) → a ≤ k → k < b → T (says marks (get_or heads k 0)) → ⊥)
      → Looked heads C marks rise fall a b D D s s
  looked_none {a} {b} S n =
      record {
        seats = S;
        hit = λ d k h l t. absurd (n k h l t);
        miss = λ d y m. refl;
        number = omega (
          arith,
          many_none (counted heads marks a b) 4096
              (λ y l t.
              let (k, h, g, e) = among_e heads a b y (and_l (among heads a b y) (says marks y) t) in
              n k h g (subst (λ v. T (says marks v)) (sym e) (and_r (among heads a b y) (says marks y) t))),
        );
      }

  -- none to what stands at place j, if that is not marked
  pub looked_past : {j s : ℕ} {D : EdgeCosts} → Seats D → get_or marks (get_or heads j 0) false ≡ false → Looked heads C marks rise fall j (j + 1) D D s s
  looked_past {j} S e =
      looked_none S (λ k h l t.
      let f : k ≡ j = omega arith in says_no marks (get_or heads j 0) e (subst (λ v. T (says marks (get_or heads v 0))) f t))

  -- the one to what stands at place j, if that is marked
  pub looked_one : {j s : ℕ} {D D' : EdgeCosts} → Seats D → get_or heads j 0 < 4096 → get_or marks (get_or heads j 0) false ≡ true
      → D' ≡ taken C rise fall j (get_or heads j 0) D → Looked heads C marks rise fall j (j + 1) D D' s (s + 1)
  looked_one {j} {s} {D} {D'} S seat me e =
      let y = get_or heads j 0 in
      let m = true_holds (says marks y) me in
      let o : (d : Direction) → Stored (chosen d D) y (min (get_or (chosen d D) y 0) (way_to C rise fall d j)) (chosen d D') =
      λ d. stored (chosen d D) (chosen d D') y _ (taken_is C D D' rise fall j y e d) (omega (arith, seat_in S d)) in
      let here : T (among heads j (j + 1) y) = among_i heads j (j + 1) j y (omega arith) (omega arith) refl in
      let only : (w : ℕ) → T (among heads j (j + 1) w) → w ≡ y =
      λ w t. let (k, h, l, f) = among_e heads j (j + 1) w t in let g : k ≡ j = omega arith in sym f ∙ ap (λ k. get_or heads k 0) g in
      record {
        seats = record { up_long = (o Up).long ∙ S.up_long; down_long = (o Down).long ∙ S.down_long };
        hit = λ d k h l t. let f : k ≡ j = omega arith in rw f (o d).here;
        miss = λ d w n. (o d).off w (λ f. n (subst (λ v. T (among heads j (j + 1) v)) (sym f) here) (subst (λ v. T (says marks v)) (sym f) m));
        number =
            omega (
              arith,
              many_none (λ w. false) 4096 (λ w l t. t),
              many_more (λ w. false) (counted heads marks j (j + 1)) 4096 y seat (λ t. t) (and_i (among heads j (j + 1) y) (says marks y) here m)
                  (λ w d. (λ t. absurd t, λ t. d (only w (and_l (among heads j (j + 1) w) (says marks w) t)))),
            );
      }

  -- no more than there are positions
  pub looked_few : {a b s r : ℕ} {D D' : EdgeCosts} → Looked heads C marks rise fall a b D D' s r → r ≤ s + 4096
  looked_few {a} {b} L = omega (arith, L.number, many_le (counted heads marks a b) 4096)

  module _ {a b c : ℕ} (S : Stretch heads a c) (ab : a ≤ b) where
    -- and fewer where one more stands behind them
    pub looked_fewer : {s r : ℕ} {D D' : EdgeCosts} → b < c → Looked heads C marks rise fall a b D D' s r → r < s + 4096
    looked_fewer bc L =
        let y = get_or heads b 0 in
        omega (
          arith,
          L.number,
          many_less (counted heads marks a b) 4096 y (S.seat b ab bc)
              (λ t. apart S ab (omega arith) y (and_l (among heads a b y) (says marks y) t) (among_i heads b c b y (omega arith) bc refl)),
        )

    -- those of one stretch and then of the next are those of both
    pub looked_join : {s r r' : ℕ} {D D' D'' : EdgeCosts} → b ≤ c → Looked heads C marks rise fall a b D D' s r → Looked heads C marks rise fall b c D' D'' r r'
        → Looked heads C marks rise fall a c D D'' s r'
    looked_join {D = D} {D'} bc L M =
        record {
          seats = M.seats;
          hit = λ d k h l t.
              let y = get_or heads k 0 in
              either (split (ltb k b))
              (λ u.
              let low = among_i heads a b k y h (ltb-true k b u) refl in
              M.miss d y (λ v w. apart S ab bc y low v) ∙ L.hit d k h (ltb-true k b u) t)
              (λ u.
              let high = among_i heads b c k y (ltb-false k b u) l refl in
              let e : get_or (chosen d D') y 0 ≡ get_or (chosen d D) y 0 = L.miss d y (λ v w. apart S ab bc y v high) in
              M.hit d k (ltb-false k b u) l t ∙ ap (λ v. min v (way_to C rise fall d k)) e);
          miss = λ d y n. M.miss d y (λ t u. n (right S ab bc y t) u) ∙ L.miss d y (λ t u. n (left S ab bc y t) u);
          number = omega (arith, L.number, M.number, both S ab bc marks);
        }

-- ---- the row

-- what lies behind a place of a row is a stretch, and both lists of costs go up to its end
pub row_laid : {G : Graph} {C : EdgeCosts} {z i : ℕ} → Lists G C → z < count G.first → InRow G z i
    → let end = get_or G.first (z + 1) 0 in (i < end) × Stretch G.heads (i + 1) end × Costed C end
row_laid {G} {C} {z} {i} L under r =
    let end = get_or G.first (z + 1) 0 in
    let l : i < end = omega (arith, r.high, next_row G z) in
    let a = (in_heads L.rows z (end - 1) under (in_row_i G z (end - 1) (omega (arith, r.low)) (omega arith))).0 in (
      l,
      stretch_part (stretch_row (record { rows = L.rows; few = L.few; under = under }) r) (omega arith) (omega arith),
      record { up_in = omega (arith, L.up_long); down_in = omega (arith, L.down_long) },
    )
