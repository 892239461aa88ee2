-- The rows that are met in the turn of x, one after the other, in whatever order they are listed. Assumes nothing.
use Prim.Native.Nat.{ℕ, ◌+◌, ◌*◌, ◌≤◌, ◌<◌, min}
use mathlib.Core.Path.{◌≡◌, refl, sym, ap, ◌∙◌, subst}
use mathlib.Core.Logic.{◌⊎◌, inl, inr, ◌≢◌}
use mathlib.Core.Bool.{Bool, cond, ◌&&◌}
use mathlib.Core.List.{List}
use native.Mathlib.Omega.{arith}
use lib.Dec.{T, eqb, ltb}
use lib.ListN.{get_or}
use borrow.Author.Tests.{ltb-true, ltb-false}
use Rattle.rules.specs.declared.Direction.{Direction}
use Rattle.rules.specs.declared.Direction.TheVariants.{Up, Down}
use Rattle.rules.specs.Words.{some, least, total, how_many}
use Rattle.rules.specs.Costs.{closed, sum}
use Rattle.rules.specs.Graph.{Graph}
use Rattle.rules.specs.Hierarchy.{EdgeCosts, linked, along}
use Rattle.rules.specs.Customised.{over}
use Rattle.rules.specs.Changed.{corner}
use Rattle.theory.specs.Rows.{InRow, Lists, count}
use Rattle.theory.proofs.Words.{either, split, true_holds, holds_true, true_false, same_or_not, same_test, and_i, and_l, and_r, some_i, some_e, eqb_e, eqb_i, ltb_i, ltb_e, cond_true, cond_false, least_start, least_same, least_top, least_once}
use Rattle.theory.proofs.Rows.{linked_e, linked_i, in_row_i, next_row, before}
use Rattle.rules.specs.Lent.{chosen}
use Rattle.turns.specs.Edges.{At}
use Rattle.turns.specs.Met.{Met, AllMet}
use Rattle.reconsider.specs.Marks.{says}
use Rattle.look.specs.Looking.{Seats, way_to, among, Looked, Below, over_corner, LookedRow}
use Rattle.theory.proofs.Totals.{total_same, total_none, total_once, many_same, many_none}
use Rattle.look.proofs.Looked.{among_i, among_e, looked_few}

-- ---- what counts of the first t rows met

-- z is one of them
abbrev met_by : (met : List ℕ) (t z : ℕ) → Bool
met_by met t z = some (λ s. eqb (get_or met s 0) z) t

-- what f gives for z if z is one of them
abbrev met_only : (met : List ℕ) (t : ℕ) (f : ℕ → ℕ) (other z : ℕ) → ℕ
met_only met t f other z = cond (met_by met t z) (f z) other

-- of none
met_none : (met : List ℕ) (f : ℕ → ℕ) (other z : ℕ) → met_only met 0 f other z ≡ other
unfolding some
met_none met f other z = refl

-- of one more, itself
met_now : (met : List ℕ) (t : ℕ) (f : ℕ → ℕ) (other z : ℕ) → z ≡ get_or met t 0 → met_only met (t + 1) f other z ≡ f z
met_now met t f other z e =
    cond_true (met_by met (t + 1) z) (f z) other
    (some_i (λ s. eqb (get_or met s 0) z) (t + 1) t (omega arith) (eqb_i (get_or met t 0) z (sym e)))

-- and the others
met_same : (met : List ℕ) (t : ℕ) (f : ℕ → ℕ) (other z w : ℕ) → z ≡ get_or met t 0 → w ≢ z → met_only met (t + 1) f other w ≡ met_only met t f other w
met_same met t f other z w e d =
    ap (λ b. cond b (f w) other)
    (same_test (met_by met (t + 1) w) (met_by met t w)
    (λ u.
    let (s, l, q) = some_e (λ s. eqb (get_or met s 0) w) (t + 1) u in
    let g = eqb_e (get_or met s 0) w q in
    either (same_or_not s t)
    (λ a. absurd (d (sym g ∙ ap (λ v. get_or met v 0) a ∙ sym e)))
    (λ a. some_i (λ s. eqb (get_or met s 0) w) t s (omega arith) q))
    (λ u.
    let (s, l, q) = some_e (λ s. eqb (get_or met s 0) w) t u in
    some_i (λ s. eqb (get_or met s 0) w) (t + 1) s (omega arith) q))

-- ---- what one row gives

-- a row that does not have both ends of an edge gives nothing
over_none : (d : Direction) (joined : ℕ → ℕ → Bool) (cost : ℕ → ℕ → ℕ) (x y z : ℕ) → (T (corner joined x y z) → ⊥)
    → along d (over joined cost) x y z ≡ closed
over_none Up joined cost x y z n = cond_false (joined z x && joined z y) (sum (cost x z) (cost z y)) closed n
over_none Down joined cost x y z n =
    cond_false (joined z y && joined z x) (sum (cost y z) (cost z x)) closed
    (λ t. n (and_i (joined z x) (joined z y) (and_r (joined z y) (joined z x) t) (and_l (joined z y) (joined z x) t)))

-- one that has both, at places i and b, gives what stands there
over_is : {G : Graph} {C : EdgeCosts} {cost : ℕ → ℕ → ℕ} {z i b : ℕ} (d : Direction) (x y : ℕ) → At G C cost z i → At G C cost z b
    → get_or G.heads i 0 ≡ x → get_or G.heads b 0 ≡ y → T (linked G z x) → T (linked G z y)
    → way_to C (get_or C.up i 0) (get_or C.down i 0) d b ≡ along d (over (linked G) cost) x y z
over_is {G} {C} {cost} {z} {i} {b} Up x y A B ei eb jx jy =
    let di : get_or C.down i 0 ≡ cost x z = A.stands Down ∙ ap (λ v. cost v z) ei in
    let ub : get_or C.up b 0 ≡ cost z y = B.stands Up ∙ ap (cost z) eb in
    rw (di, ub)
    (sym (cond_true (corner (linked G) x y z) (sum (cost x z) (cost z y)) closed (and_i (linked G z x) (linked G z y) jx jy)))
over_is {G} {C} {cost} {z} {i} {b} Down x y A B ei eb jx jy =
    let db : get_or C.down b 0 ≡ cost y z = B.stands Down ∙ ap (λ v. cost v z) eb in
    let ui : get_or C.up i 0 ≡ cost z x = A.stands Up ∙ ap (cost z) ei in
    rw (db, ui)
    (sym (cond_true (corner (linked G) y x z) (sum (cost y z) (cost z x)) closed (and_i (linked G z y) (linked G z x) jy jx)))

-- a row that has no edge of x with both ends has no triangle
corner_none : (joined : ℕ → ℕ → Bool) (marks : List Bool) (x z : ℕ) → ((y : ℕ) → x < y → T (corner joined x y z) → ⊥) → over_corner joined marks x z ≡ 0
unfolding over_corner
corner_none joined marks x z n =
    many_none (λ y. corner joined x y z && (ltb x y && says marks y)) 4096
    (λ y l t. n y (ltb_e x y (and_l (ltb x y) (says marks y) (and_r (corner joined x y z) (ltb x y && says marks y) t)))
    (and_l (corner joined x y z) (ltb x y && says marks y) t))

-- the least with one more that was closed before
least_more : (f g : ℕ → ℕ) (top n z v v' : ℕ) → z < n → f z ≡ closed → top ≤ closed → ((w : ℕ) → w ≢ z → g w ≡ f w)
    → v ≡ least f top n → (v' ≡ min v (g z)) ⊎ ((g z ≡ closed) × (v' ≡ v)) → v' ≡ least g top n
least_more f g top n z v v' l h t e ev (inl s) = let a = least_once f g top n z l (omega arith) e in omega arith
least_more f g top n z v v' l h t e ev (inr s) =
    let a = least_once f g top n z l (omega arith) e in
    let b = least_start f top n in
    omega (arith, s.0, s.1)

-- ---- the walk

-- the first t rows met have given what they have: r triangles are counted by then, where s were before
pub record Walk (G : Graph) (C : EdgeCosts) (marks : List Bool) (x m : ℕ) (met : List ℕ) (D₀ : EdgeCosts) (s t : ℕ) (D : EdgeCosts) (r : ℕ) : Type 0 where
  pub within : t ≤ m
  pub seats : Seats D
  pub lowest : (d : Direction) (cost : ℕ → ℕ → ℕ) → Below G cost x C → (k : ℕ) → InRow G x k → T (says marks (get_or G.heads k 0))
      → get_or (chosen d D₀) (get_or G.heads k 0) 0 ≤ closed
      → get_or (chosen d D) (get_or G.heads k 0) 0
      ≡ least (met_only met t (along d (over (linked G) cost) x (get_or G.heads k 0)) closed) (get_or (chosen d D₀) (get_or G.heads k 0) 0) x
  pub number : r ≡ s + total (met_only met t (over_corner (linked G) marks x) 0) x
  pub few : r ≤ s + 4096 * t

pub walk_start : {G : Graph} {C : EdgeCosts} {marks : List Bool} {x m : ℕ} {met : List ℕ} {D : EdgeCosts} {s : ℕ} → Seats D
    → Walk G C marks x m met D s 0 D s
walk_start {G} {marks = marks} {x} {met = met} {D} S =
    record {
      within = omega arith;
      seats = S;
      lowest = λ d cost B k r s h.
          let y = get_or G.heads k 0 in
          let f = along d (over (linked G) cost) x y in
          sym (least_top (met_only met 0 f closed) (get_or (chosen d D) y 0) x (λ w l. omega (arith, met_none met f closed w)));
      number =
          let f = over_corner (linked G) marks x in
          omega (arith, total_none (met_only met 0 f 0) x (λ w l. met_none met f 0 w));
      few = omega arith;
    }

module _ {G : Graph} {C : EdgeCosts} {x m : ℕ} {met at : List ℕ} (L : Lists G C) (under : x < count G.first) (M : Met G x m met at) where
  abbrev J : ℕ → ℕ → Bool
  J = linked G

  -- all that are met have given what they have: and no other row has x and anything behind it
  pub walk_end : {marks : List Bool} {D₀ D : EdgeCosts} {s t r : ℕ} → AllMet G x m met → m ≤ t → Walk G C marks x m met D₀ s t D r
      → LookedRow G C marks x D₀ D s r
  walk_end {marks} {D₀} {D} {t = t} A h K =
      record {
        seats = K.seats;
        lowest = λ d cost B k r s u.
            let y = get_or G.heads k 0 in
            let f = along d (over J cost) x y in
            K.lowest d cost B k r s u
            ∙ least_same (met_only met t f closed) f (get_or (chosen d D₀) y 0) x
            (λ w l. all f closed w l (λ n. over_none d J cost x y w (n y (L.rows.above x k under r))));
        number =
            let f = over_corner J marks x in
            omega (arith, K.number, total_same (met_only met t f 0) f x (λ w l. all f 0 w l (corner_none J marks x w)));
        few = omega (arith, K.few, K.within, M.few, L.few);
      }
    where
      all : (f : ℕ → ℕ) (other w : ℕ) → w < x → (((y : ℕ) → x < y → T (corner J x y w) → ⊥) → f w ≡ other) → met_only met t f other w ≡ f w
      all f other w l n =
          either (split (J w x))
          (λ e.
          let (a, r, q) = linked_e L.rows w x (true_holds (J w x) e) l in
          either (split (ltb (a + 1) (get_or G.first (w + 1) 0)))
          (λ c.
          let (s, b, g) = A.all w a l r (in_row_i G w (a + 1) (omega (arith, r.low)) (ltb-true (a + 1) (get_or G.first (w + 1) 0) c)) q in
          cond_true (met_by met t w) (f w) other
          (some_i (λ s. eqb (get_or met s 0) w) t s (omega arith) (eqb_i (get_or met s 0) w g)))
          (λ c. none (λ y h v.
          let (b, p, g) = linked_e L.rows w y (and_r (J w x) (J w y) v) (omega arith) in
          let a<b = before G w a b (λ i j. L.rows.climb w i j (omega arith)) r p (omega arith) in
          omega (arith, p.high, next_row G w, ltb-false (a + 1) (get_or G.first (w + 1) 0) c))))
          (λ e. none (λ y h v. true_false (sym (holds_true (J w x) (and_l (J w x) (J w y) v)) ∙ e)))
        where
          none : ((y : ℕ) → x < y → T (corner J x y w) → ⊥) → met_only met t f other w ≡ f w
          none u = let o = n u in either (split (met_by met t w)) (λ c. rw c refl) (λ c. rw c (sym o))

  -- ---- the row that is met next

  module _ (t : ℕ) (h : t < m) where
    abbrev z : ℕ
    z = get_or met t 0

    abbrev i : ℕ
    i = get_or at t 0

    -- it was not met before
    fresh : (f : ℕ → ℕ) (other : ℕ) → met_only met t f other z ≡ other
    fresh f other =
        cond_false (met_by met t z) (f z) other
        (λ u.
        let (s, l, q) = some_e (λ s. eqb (get_or met s 0) z) t u in
        M.once s t l h (eqb_e (get_or met s 0) z q))

    -- it is below x, and has x at place i
    meets : (z < x) × InRow G z i × (get_or G.heads i 0 ≡ x)
    meets = (M.under t h, M.row t h, M.entry t h)

    pub next_row_in : (z < count G.first) × InRow G z i
    next_row_in = (omega (arith, meets.0), meets.1)

    zn : z < count G.first
    zn = next_row_in.0

    jx : T (J z x)
    jx = linked_i L.rows z i x zn meets.1 meets.2

    -- what it has behind x
    behind : (y : ℕ) → x < y → T (J z y) → (b : ℕ) × (i < b) × (b < get_or G.first (z + 1) 0) × InRow G z b × (get_or G.heads b 0 ≡ y)
    behind y l u =
        let (b, r, d) = linked_e L.rows z y u (omega (arith, meets.0)) in
        let (a, q, e) = meets in
        (b, before G z i b (λ i j. L.rows.climb z i j zn) q r (omega arith), omega (arith, r.high, next_row G z), r, d)

    ahead : (y : ℕ) → T (among G.heads (i + 1) (get_or G.first (z + 1) 0) y) → (x < y) × T (J z y)
    ahead y u =
        let (b, g, l, d) = among_e G.heads (i + 1) (get_or G.first (z + 1) 0) y u in
        let r = in_row_i G z b (omega (arith, meets.1.low)) l in
        (omega (arith, L.rows.climb z i b zn meets.1 r (omega arith), meets.2), linked_i L.rows z b y zn r d)

    -- how many triangles it has
    corner_is : (marks : List Bool)
        → how_many (λ y. among G.heads (i + 1) (get_or G.first (z + 1) 0) y && says marks y) 4096 ≡ over_corner J marks x z
    unfolding over_corner
    corner_is marks =
        let e = get_or G.first (z + 1) 0 in
        many_same (λ y. among G.heads (i + 1) e y && says marks y) (λ y. corner J x y z && (ltb x y && says marks y)) 4096
        (λ y l. (
          λ u.
              let (g, j) = ahead y (and_l (among G.heads (i + 1) e y) (says marks y) u) in
              and_i (corner J x y z) (ltb x y && says marks y) (and_i (J z x) (J z y) jx j)
              (and_i (ltb x y) (says marks y) (ltb_i x y g) (and_r (among G.heads (i + 1) e y) (says marks y) u)),
          λ u.
              let c : T (corner J x y z) = and_l (corner J x y z) (ltb x y && says marks y) u in
              let v : T (ltb x y && says marks y) = and_r (corner J x y z) (ltb x y && says marks y) u in
              let (b, ib, be, rb, eb) = behind y (ltb_e x y (and_l (ltb x y) (says marks y) v)) (and_r (J z x) (J z y) c) in
              and_i (among G.heads (i + 1) e y) (says marks y) (among_i G.heads (i + 1) e b y (omega arith) be eb) (and_r (ltb x y) (says marks y) v),
        ))

    pub walk_more : {marks : List Bool} {D₀ D D' : EdgeCosts} {s r r' : ℕ} → Walk G C marks x m met D₀ s t D r
        → Looked G.heads C marks (get_or C.up i 0) (get_or C.down i 0) (i + 1) (get_or G.first (z + 1) 0) D D' r r'
        → Walk G C marks x m met D₀ s (t + 1) D' r'
    walk_more {marks} {D₀} {D} {D'} K S =
        record {
          within = omega arith;
          seats = S.seats;
          lowest = λ d cost B k rk u g.
              let y = get_or G.heads k 0 in
              let f = along d (over J cost) x y in
              let now = met_now met t f closed z refl in
              least_more (met_only met t f closed) (met_only met (t + 1) f closed) (get_or (chosen d D₀) y 0) x z
              (get_or (chosen d D) y 0) (get_or (chosen d D') y 0) meets.0 (fresh f closed) g
              (λ w n. met_same met t f closed z w refl n) (K.lowest d cost B k rk u g)
              (either (split (J z y))
              (λ e.
              let jy = true_holds (J z y) e in
              let (b, ib, be, rb, eb) = behind y (L.rows.above x k under rk) jy in
              let hit = S.hit d b (omega arith) be (subst (λ v. T (says marks v)) (sym eb) u) in
              let o = over_is d x y (B.there z i meets.0 meets.1) (B.there z b meets.0 rb) meets.2 eb jx jy in
              inl (rw now (rw (eb, o) at hit)))
              (λ e.
              let n : T (J z y) → ⊥ = λ v. true_false (sym (holds_true (J z y) v) ∙ e) in
              inr (
                now ∙ over_none d J cost x y z (λ v. n (and_r (J z x) (J z y) v)),
                S.miss d y (λ v q. n (ahead y v).1),
              )));
          number =
              let f = over_corner J marks x in
              let a = total_once (met_only met t f 0) (met_only met (t + 1) f 0) x z (f z) meets.0 (λ w n. met_same met t f 0 z w refl n)
              (omega (arith, fresh f 0, met_now met t f 0 z refl)) in
              omega (arith, K.number, S.number, corner_is marks);
          few = omega (arith, K.few, looked_few S);
        }
