-- An arc's cost at the place of its edge: what laying it asks, and what both lists hold then. Assumes nothing.
use Prim.Native.Nat.{ℕ, ◌+◌, ◌≤◌, ◌<◌}
use mathlib.Core.Path.{◌≡◌, refl, sym, ap, ◌∙◌, subst}
use mathlib.Core.Logic.{◌≢◌}
use mathlib.Core.List.{List}
use native.Mathlib.Omega.{arith}
use lib.Dec.{T, ltb}
use lib.ListN.{length, get_or, set}
use borrow.Author.Tests.{lt-ltb, le-ltb, ltb-true, ltb-false}
use Rattle.rules.specs.declared.Direction.{Direction}
use Rattle.rules.specs.declared.Direction.TheVariants.{Up, Down}
use Rattle.std.specs.Prelude.{Some, None}
use Rattle.rules.specs.Net.{Net, size, arcs, tail, head, arc_cost, junction}
use Rattle.rules.specs.Graph.{Graph}
use Rattle.rules.specs.Hierarchy.{EdgeCosts, along, linked, place}
use Rattle.theory.specs.Rows.{InRow, Rows, Lists, count}
use Rattle.theory.specs.Accepted.{Accepted}
use Rattle.theory.proofs.Words.{either, split, same_or_not}
use Rattle.theory.proofs.Rows.{in_heads, row_of_lem, once, linked_e, linked_low, linked_turn, place_is}
use Rattle.theory.proofs.LastArc.{last_between, last_hit, last_miss}
use Rattle.lists.specs.Lent.{edge_found}
use Rattle.rules.specs.Lent.{chosen}
use Rattle.lists.proofs.Found.{edge_at, edge_nowhere}
use Rattle.customise.specs.Edges.{Edge, laid_on, ArcFits, laid}
use Rattle.turns.proofs.Stored.{stored}

-- ---- one list

-- where x is not below y nothing is laid
pub laid_none : (G : Graph) (list : List ℕ) (x y v : ℕ) → y ≤ x → list ≡ laid_on G list x y v
unfolding laid_on
laid_none G list x y v l = rw (le-ltb x y l) refl

-- where it is, the cost stands at the edge's place
laid_set : (G : Graph) (list : List ℕ) (x y k v : ℕ) → x < y → k ≡ place G x y → set list k v ≡ laid_on G list x y v
unfolding laid_on
laid_set G list x y k v l e = rw (lt-ltb x y l, ← e) refl

module _ {G : Graph} {room x y : ℕ} (E : Edge G room x y) (l : x < y) where
  -- the edge's row is one of the rows
  pub edge_low : x < count G.first
  edge_low = linked_low E.rows x y (E.joined l)

  -- the search finds the edge
  pub edge_some : edge_found G x y ≡ None → ⊥
  edge_some e = edge_nowhere E.rows x y l e (E.joined l)

  -- at its place
  pub edge_laid : (list : List ℕ) (k v : ℕ) → edge_found G x y ≡ Some k → (k < room) × (set list k v ≡ laid_on G list x y v)
  edge_laid list k v e =
      let (r, h) = edge_at E.rows x y k edge_low e in (
        omega (arith, (in_heads E.rows x k edge_low r).0, E.fits),
        laid_set G list x y k v l (sym (place_is E.rows x k y edge_low r h)),
      )

-- ---- one arc, by the positions of its ends

-- what laying its cost asks, in each direction
pub arc_edges : {rank : List ℕ} {G : Graph} {t h : ℕ} {C : EdgeCosts} {x y : ℕ} → x ≡ get_or rank t 0 → y ≡ get_or rank h 0 → Lists G C → ArcFits rank G t h
    → Edge G (length C.up) x y × Edge G (length C.down) y x
arc_edges {rank} {G} {x = x} {y} ex ey L F =
    let joined : x ≢ y → T (linked G x y) = λ n. rw (ex, ey) (F.joined (λ e. n (ex ∙ ap (λ j. get_or rank j 0) e ∙ sym ey))) in (
      record { rows = L.rows; fits = L.up_long; joined = λ l. joined (λ e. omega arith) },
      record { rows = L.rows; fits = L.down_long; joined = λ l. linked_turn G x y (joined (λ e. omega arith)) },
    )

-- ---- one arc more

module _ {N : Net} {rank : List ℕ} {G : Graph} {room : EdgeCosts} (A : Accepted N rank G room) (m : ℕ) (l : m < arcs N) where
  abbrev R : Rows (size N) G
  R = A.rows_of

  -- the positions of its ends
  abbrev t : ℕ
  t = get_or rank (tail N m) 0

  abbrev h : ℕ
  h = get_or rank (head N m) 0

  -- what laying it asks
  pub arc_fits : ArcFits rank G (tail N m) (head N m)
  arc_fits =
      let (a, b) = A.ends_in m l in
      record { tail_in = omega (arith, A.ranks.long); head_in = omega (arith, A.ranks.long); joined = A.edges m l }

  -- between its ends it is the last arc so far
  arc_hit : last_between N (m + 1) t h ≡ arc_cost N m
  arc_hit =
      let (u, v) = A.ends_in m l in
      last_hit N (junction N t) (junction N h) m (sym (A.ranks.there (tail N m) u)) (sym (A.ranks.there (head N m) v))

  -- between others nothing changes
  arc_miss : (a b : ℕ) → a < size N → b < size N → (a ≡ t → b ≡ h → ⊥) → last_between N (m + 1) a b ≡ last_between N m a b
  arc_miss a b la lb other =
      last_miss N (junction N a) (junction N b) m
      (λ e d. other (sym (A.ranks.back a la) ∙ ap (λ j. get_or rank j 0) (sym e)) (sym (A.ranks.back b lb) ∙ ap (λ j. get_or rank j 0) (sym d)))

  -- a list that holds what f says of each edge, the lower end first, holds what g says then
  pub record Onward (f g : ℕ → ℕ → ℕ) (list list' : List ℕ) : Type 0 where
    pub long : length list' ≡ length list
    pub rest : (k : ℕ) → get_or G.first (size N) 0 ≤ k → get_or list' k 0 ≡ get_or list k 0
    pub there : (p k : ℕ) → p < size N → InRow G p k → get_or list k 0 ≡ f p (get_or G.heads k 0) → get_or list' k 0 ≡ g p (get_or G.heads k 0)

  -- so it is once a cost is laid on the edge (x, y), if g says that cost there, and elsewhere the same as f
  onward : {list list' : List ℕ} (f g : ℕ → ℕ → ℕ) (x y v : ℕ) → Edge G (length list) x y → list' ≡ laid_on G list x y v → g x y ≡ v
      → ((p q : ℕ) → p < size N → q < size N → (p ≡ x → q ≡ y → ⊥) → g p q ≡ f p q) → Onward f g list list'
  onward {list} {list'} f g x y v E e hit miss =
      either (split (ltb x y))
      (λ s.
      let xy = ltb-true x y s in
      let xn : x < size N = linked_low R x y (E.joined xy) in
      let (k, rk, ek) = linked_e R x y (E.joined xy) xy in
      let k_e = (in_heads R x k xn rk).0 in
      let kr : k < length list = omega (arith, (in_heads E.rows x k (edge_low E xy) rk).0, E.fits) in
      let S = stored list list' k v (e ∙ sym (laid_set G list x y k v xy (sym (place_is R x k y xn rk ek)))) kr in
      record {
        long = S.long;
        rest = λ q b. S.off q (λ d. omega arith);
        there = λ p q b r old.
            either (same_or_not q k)
            (λ d.
            let same : x ≡ p = row_of_lem R x p k xn b rk (subst (λ o. InRow G p o) d r) in
            let other : y ≡ get_or G.heads q 0 = sym ek ∙ ap (λ o. get_or G.heads o 0) (sym d) in
            ap (λ o. get_or list' o 0) d ∙ S.here ∙ sym hit ∙ rw (same, other) refl)
            (λ d.
            S.off q d ∙ old
            ∙ sym (miss p (get_or G.heads q 0) b (R.below p q b r) (λ a c. d (once R x q k xn (subst (λ o. InRow G o q) a r) rk (c ∙ sym ek)))));
      })
      (λ s.
      let same : list' ≡ list = e ∙ sym (laid_none G list x y v (ltb-false x y s)) in
      record {
        long = ap length same;
        rest = λ q b. ap (λ o. get_or o q 0) same;
        there = λ p q b r old.
            ap (λ o. get_or o q 0) same ∙ old
            ∙ sym (miss p (get_or G.heads q 0) b (R.below p q b r) (λ a c. omega (arith, R.above p q b r, ltb-false x y s)));
      })

  -- both lists
  pub laid_on_lem : {C C' : EdgeCosts} → Lists G C → C' ≡ laid rank G (tail N m) (head N m) (arc_cost N m) C
      → (d : Direction) → Onward (along d (last_between N m)) (along d (last_between N (m + 1))) (chosen d C) (chosen d C')
  laid_on_lem L e Up =
      onward (last_between N m) (last_between N (m + 1)) t h (arc_cost N m) (arc_edges refl refl L arc_fits).0 (ap (λ (c : EdgeCosts). c.up) e) arc_hit arc_miss
  laid_on_lem L e Down =
      onward (λ p q. last_between N m q p) (λ p q. last_between N (m + 1) q p) h t (arc_cost N m) (arc_edges refl refl L arc_fits).1 (ap (λ (c : EdgeCosts). c.down) e) arc_hit
      (λ p q b c n. arc_miss q p c b (λ d f. n f d))
