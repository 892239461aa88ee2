-- The triangles of a row with one of its entries, one after the other. Assumes nothing.
use Prim.Native.Nat.{ℕ, ◌+◌, ◌≤◌, ◌<◌, min}
use mathlib.Core.Path.{◌≡◌, refl, sym, ap, ◌∙◌, subst}
use mathlib.Core.Logic.{◌≢◌}
use mathlib.Core.List.{List}
use native.Mathlib.Omega.{arith}
use lib.ListN.{length, get_or}
use Rattle.rules.specs.declared.Direction.{Direction}
use Rattle.rules.specs.declared.Direction.TheVariants.{Up, Down}
use Rattle.rules.specs.Graph.{Graph}
use Rattle.rules.specs.Hierarchy.{EdgeCosts, along}
use Rattle.theory.specs.Rows.{InRow, Rows, Lists, count}
use Rattle.theory.proofs.Words.{either, same_or_not}
use Rattle.theory.proofs.Rows.{in_heads, in_row_i, next_row, lists_same, row_of_lem, once}
use Rattle.rules.specs.Lent.{chosen}
use Rattle.turns.specs.Edges.{at_most}
use Rattle.customise.specs.Turns.{Spread, Within, lowered, Beside, Third, Crossed, across}
use Rattle.turns.proofs.Stored.{Stored, stored}

-- ---- one triangle

-- each list of the two
lowered_is : (i j k : ℕ) (C : EdgeCosts) (d : Direction) → chosen d (lowered i j k C) ≡ at_most (chosen d C) k (along d (across C) i j)
lowered_is i j k C Up = refl
lowered_is i j k C Down = refl

-- both lists have a place for each edge
edge_within : {G : Graph} {C : EdgeCosts} → Lists G C → (p k : ℕ) → p < count G.first → InRow G p k → Within C k
edge_within L p k l r =
    let h = (in_heads L.rows p k l r).0 in
    record { up_in = omega (arith, L.up_long); down_in = omega (arith, L.down_long) }

within_chosen : {C : EdgeCosts} {k : ℕ} → Within C k → (d : Direction) → k < length (chosen d C)
within_chosen w Up = w.up_in
within_chosen w Down = w.down_in

-- ---- what z's row offers its neighbour at place i

-- the places of z's row between i and j have made their offers
pub record Crossing (G : Graph) (z i end : ℕ) (C₀ : EdgeCosts) (j : ℕ) (C : EdgeCosts) : Type 0 where
  pub end_is : end ≡ get_or G.first (z + 1) 0
  pub later : i < j
  pub within : j ≤ end
  pub crossed : Crossed G i j C₀ C

module _ {G : Graph} {C₀ : EdgeCosts} {z i : ℕ} (B : Beside G C₀ z i) where
  abbrev R : Rows (count G.first) G
  R = B.lists.rows

  abbrev x : ℕ
  x = get_or G.heads i 0

  xn : x < count G.first
  xn = R.below z i B.under B.row

  pub crossing_start : {end : ℕ} → end ≡ get_or G.first (z + 1) 0 → Crossing G z i end C₀ (i + 1) C₀
  crossing_start e =
      record {
        end_is = e;
        later = omega arith;
        within = omega (arith, B.row.high, next_row G z);
        crossed = record { up_long = refl; down_long = refl; thirds = λ d b k h g t. absurd (omega arith); others = λ d k n. refl };
      }

  module _ {end j : ℕ} {C : EdgeCosts} {places : List ℕ} (S : Spread G x places) (X : Crossing G z i end C₀ j C) (l : j < end) where
    rj : InRow G z j
    rj = in_row_i G z j (omega (arith, B.row.low, X.later)) (omega (arith, X.end_is))

    -- the entry at place j
    pub crossing_j : (j < length G.heads) × (get_or G.heads j 0 < 4096)
    crossing_j = ((in_heads R z j B.under rj).1, omega (arith, B.lists.few, R.below z j B.under rj))

    -- the edge of the triangle, at the place that the spread row has
    third : (k : ℕ) → k ≡ get_or places (get_or G.heads j 0) 0 → Third G i j k
    third k e =
        let (q, rq, eq) = R.third z i j B.under B.row rj X.later in
        let same : q ≡ k = sym (e ∙ ap (λ o. get_or places o 0) (sym eq) ∙ S.there q rq) in
        subst (λ o. Third G i j o) same (record { row = rq; other = eq })

    -- z's own row stays as it was
    own : (d : Direction) (b : ℕ) → InRow G z b → get_or (chosen d C) b 0 ≡ get_or (chosen d C₀) b 0
    own d b r =
        X.crossed.others d b
        (λ q h g t. let a = R.above z i B.under B.row in omega (arith, row_of_lem R z x b B.under xn r t.row))

    own_across : (d : Direction) → along d (across C) i j ≡ along d (across C₀) i j
    own_across Up = rw (own Down i B.row, own Up j rj) refl
    own_across Down = rw (own Down j rj, own Up i B.row) refl

    -- what one triangle asks
    pub crossing_corner : {k : ℕ} → k ≡ get_or places (get_or G.heads j 0) 0 → Within C i × Within C j × Within C k
    crossing_corner {k} e =
        let L : Lists G C = lists_same B.lists X.crossed.up_long X.crossed.down_long in
        (edge_within L z i B.under B.row, edge_within L z j B.under rj, edge_within L x k xn (third k e).row)

    -- one offer more
    pub crossing_more : {k : ℕ} {C' : EdgeCosts} → k ≡ get_or places (get_or G.heads j 0) 0 → C' ≡ lowered i j k C → Crossing G z i end C₀ (j + 1) C'
    crossing_more {k} {C'} e w =
        let O = X.crossed in
        let t = third k e in
        let s : (d : Direction) → Stored (chosen d C) k (min (get_or (chosen d C) k 0) (along d (across C) i j)) (chosen d C') =
        λ d. stored (chosen d C) (chosen d C') k _ (ap (chosen d) w ∙ lowered_is i j k C d) (within_chosen (crossing_corner e).2 d) in
        let apart : (b : ℕ) → i < b → b < j → get_or G.heads b 0 ≢ get_or G.heads j 0 =
        λ b h g f. omega (arith, R.climb z b j B.under (in_row_i G z b (omega (arith, B.row.low)) (omega (arith, X.end_is))) rj g) in
        record {
          end_is = X.end_is;
          later = omega (arith, X.later);
          within = omega arith;
          crossed = record {
            up_long = (s Up).long ∙ O.up_long;
            down_long = (s Down).long ∙ O.down_long;
            thirds = λ d b q h g u.
                either (same_or_not b j)
                (λ f.
                let c : q ≡ k = once R x q k xn u.row t.row (u.other ∙ ap (λ o. get_or G.heads o 0) f ∙ sym t.other) in
                rw (f, c) (omega (arith, (s d).here, own_across d, O.others d k (λ b h g u. apart b h g (sym u.other ∙ t.other)))))
                (λ f.
                (s d).off q (λ c. apart b h (omega arith) (sym u.other ∙ ap (λ o. get_or G.heads o 0) c ∙ t.other))
                ∙ O.thirds d b q h (omega arith) u);
            others = λ d q n.
                (s d).off q (λ c. n j X.later (omega arith) (subst (λ o. Third G i j o) (sym c) t))
                ∙ O.others d q (λ b h g u. n b h (omega arith) u);
          };
        }

  -- all offers of the row
  pub crossing_all : {end j : ℕ} {C : EdgeCosts} → Crossing G z i end C₀ j C → end ≤ j → Crossed G i (get_or G.first (z + 1) 0) C₀ C
  crossing_all {j = j} {C} X l =
      subst (λ o. Crossed G i o C₀ C) (let e : j ≡ get_or G.first (z + 1) 0 = omega (arith, X.end_is, X.within) in e) X.crossed
