-- A new cost of one arc: what it asks of the work behind it, and what the lists then are. Assumes nothing.
use Prim.Native.Nat.{ℕ, ◌≤◌, ◌<◌, min, max}
use mathlib.Core.Path.{◌≡◌, refl, sym, ap, ap₂, ◌∙◌, subst}
use mathlib.Core.Logic.{inl, inr, ◌≢◌}
use mathlib.Core.List.{List}
use native.Mathlib.Omega.{arith}
use lib.Dec.{T, ltb}
use lib.ListN.{length, get_or, length-set}
use lib.Seq.{get_or-set_same, get_or-set_other}
use borrow.Author.Tests.{ltb-true, ltb-false}
use Rattle.rules.specs.declared.Direction.{Direction}
use Rattle.rules.specs.declared.Direction.TheVariants.{Up, Down}
use Rattle.rules.specs.Net.{Net, net, with_cost, size, road_between}
use Rattle.rules.specs.Graph.{Graph}
use Rattle.rules.specs.Hierarchy.{EdgeCosts, edge_costs, linked, held, along}
use Rattle.rules.specs.Changed.{differs, triangles, triangles_from, looked_at}
use Rattle.rules.specs.Calls.{changed_cost, changed_costs, triangles_looked_at}
use Rattle.theory.specs.Accepted.{LawfulCost, Accepted}
use Rattle.theory.specs.Rows.{InRow, count}
use Rattle.theory.proofs.Words.{either, split, same_or_not}
use Rattle.theory.proofs.Totals.{total_none}
use Rattle.theory.proofs.Rows.{count_is, lists_of, linked_turn, in_heads}
use Rattle.theory.proofs.EdgesFew.{edges_few}
use Rattle.theory.proofs.Held.{held_up, held_down}
use Rattle.theory.proofs.CostLists.{list_of}
use Rattle.theory.proofs.Changed.{why, calm_same, calm_why, differ_i, differ_e}
use Rattle.theory.proofs.RoadsMove.{moved_two, moved_ends}
use Rattle.theory.proofs.Standing.{road_small}
use Rattle.rules.specs.Lent.{chosen}
use Rattle.turns.specs.Edges.{At, Kept}
use Rattle.roads.specs.declared.Roads.{Roads}
use Rattle.roads.specs.Roads.{RoadsOf}
use Rattle.change.specs.Turning.{new_of, again, Ways, Carriage}
use Rattle.change.specs.Carrying.{Carried}
use Rattle.change.proofs.Counted.{from_none}

-- with another lawful cost of one arc all is accepted as before
accepted_with : {N : Net} {rank : List ℕ} {G : Graph} {C : EdgeCosts} → Accepted N rank G C → (arc cost : ℕ) → LawfulCost cost
    → Accepted (with_cost N arc cost) rank G C
accepted_with {N} A arc cost lawful =
    record {
      some = A.some;
      few = A.few;
      heads_long = A.heads_long;
      costs_long = length-set N.costs arc cost ∙ A.costs_long;
      fit = A.fit;
      ends_in = A.ends_in;
      seats = A.seats;
      ranks = A.ranks;
      rows_of = A.rows_of;
      edges = A.edges;
      lawful = λ i h.
          either (same_or_not i arc)
          (λ e. rw (e, get_or-set_same N.costs arc cost 0 (omega (arith, A.costs_long))) lawful)
          (λ e. rw (get_or-set_other N.costs arc i cost 0 e) (A.lawful i h));
      up_long = A.up_long;
      down_long = A.down_long;
    }

module _ {tails heads costs order rank : List ℕ} {G : Graph} {C : EdgeCosts} (A : Accepted (net tails heads costs order) rank G C) where
  abbrev N : Net
  N = net tails heads costs order

  -- an arc's ends are junctions
  pub ends_in : (arc : ℕ) → arc < length tails → (get_or tails arc 0 < length rank) × (get_or heads arc 0 < length rank)
  ends_in arc listed = let (t, h) = A.ends_in arc listed in let l = A.ranks.long in (omega arith, omega arith)

  -- a and b are the positions of an arc's ends, and M is the net with the arc's new cost
  module _ {arc a b : ℕ} (cost : ℕ) (listed : arc < length tails) (a_is : a ≡ get_or rank (get_or tails arc 0) 0) (b_is : b ≡ get_or rank (get_or heads arc 0) 0) where
    abbrev M : Net
    M = with_cost N arc cost

    pub seated : (a < length order) × (b < length order)
    seated = let (t, h) = A.ends_in arc listed in (rw a_is (A.ranks.position (get_or tails arc 0) t), rw b_is (A.ranks.position (get_or heads arc 0) h))

    -- ---- the lists

    -- the costs after the change, and which edges are reconsidered
    abbrev new : ℕ → ℕ → ℕ
    new = new_of G (road_between N) (road_between M) C

    -- at an edge's place stands what is held between its ends
    stood : (d : Direction) (p k : ℕ) → p < size N → InRow G p k → get_or (chosen d C) k 0 ≡ along d (held G C) p (get_or G.heads k 0)
    stood Up p k l r = held_up A.rows_of C p k l r (omega (arith, (in_heads A.rows_of p k l r).0, A.up_long))
    stood Down p k l r = held_down A.rows_of C p k l r (omega (arith, (in_heads A.rows_of p k l r).0, A.down_long))

    -- lists with the new costs at the edges' places, and the same past E, are those of the definition
    changed_of : (C' : EdgeCosts) → Kept G C C' → ((p k : ℕ) → p < count G.first → InRow G p k → At G C' new p k) → C' ≡ changed_costs N G C arc cost
    unfolding changed_cost
    changed_of C' K there =
        let R = A.rows_of in
        let e = count_is R in
        let past : (d : Direction) (k : ℕ) → get_or G.first (size N) 0 ≤ k → get_or (chosen d C') k 0 ≡ get_or (chosen d C) k 0 =
        λ d k h. K.rest d k (subst (λ m. get_or G.first m 0 ≤ k) (sym e) h) in
        ap₂ edge_costs
        (list_of R new Up (λ k. get_or C.up k 0) (length C.up) C'.up K.up_long (λ p k l r. (there p k (omega arith) r).stands Up) (λ k h m. past Up k h))
        (list_of R new Down (λ k. get_or C.down k 0) (length C.down) C'.down K.down_long (λ p k l r. (there p k (omega arith) r).stands Down)
        (λ k h m. past Down k h))

    -- ---- where no road changes

    module _ (calm : (p q : ℕ) → T (differs (road_between N) (road_between M) p q) → ⊥) where
      -- no edge does
      calm_along : (d : Direction) (p q : ℕ) → along d (held G C) p q ≡ along d new p q
      calm_along d p q = by d
        where
          kept : (new p q ≡ held G C p q) × (new q p ≡ held G C q p)
          kept =
              calm_same (linked G) (road_between N) (road_between M) (held G C) p q
              (calm_why (linked G) (road_between N) (road_between M) (held G C) calm p q)

          by : (d : Direction) → along d (held G C) p q ≡ along d new p q
          by Up = sym kept.0
          by Down = sym kept.1

      calm_lists : C ≡ changed_costs N G C arc cost
      calm_lists =
          changed_of C (record { up_long = refl; down_long = refl; rest = λ d k h. refl })
          (λ p k l r.
          record { stands = λ d. stood d p k (omega (arith, count_is A.rows_of)) r ∙ calm_along d p (get_or G.heads k 0) })

      -- and nothing is looked at
      calm_count : 0 ≡ triangles_looked_at N G C arc cost
      unfolding triangles_looked_at looked_at triangles
      calm_count =
          sym (total_none (triangles_from (linked G) (again G (road_between N) (road_between M) C) (size N)) (size N)
          (λ x l. from_none (linked G) (again G (road_between N) (road_between M) C) (size N) x
          (λ y h j t.
          calm_why (linked G) (road_between N) (road_between M) (held G C) calm x y
          (why (linked G) (road_between N) (road_between M) (held G C) new x y t))))

    -- ---- the road that can change

    -- it leads from the one position to the other, and they are two
    moved_road : (p q : ℕ) → road_between N p q ≢ road_between M p q → (p ≡ a) × (q ≡ b) × (p ≢ q)
    moved_road p q n =
        let (lp, lq, d) = moved_two N arc cost p q n in
        let (u, v) = moved_ends N arc cost A.seats p q n in (
          sym (a_is ∙ ap (λ i. get_or rank i 0) u ∙ A.ranks.back p lp),
          sym (b_is ∙ ap (λ i. get_or rank i 0) v ∙ A.ranks.back q lq),
          d,
        )

    -- all stays where the two are one, for then none changes
    pub left_loop : a ≡ b → (C ≡ changed_costs N G C arc cost) × (0 ≡ triangles_looked_at N G C arc cost)
    left_loop e = (calm_lists calm, calm_count calm)
      where
        calm : (p q : ℕ) → T (differs (road_between N) (road_between M) p q) → ⊥
        calm p q t =
            either (differ_e (road_between N) (road_between M) p q t)
            (λ n. let (u, v, d) = moved_road p q n in d (u ∙ e ∙ sym v))
            (λ n. let (u, v, d) = moved_road q p n in d (u ∙ e ∙ sym v))

    -- and where that road costs what it did
    pub left_same : road_between N a b ≡ road_between M a b → (C ≡ changed_costs N G C arc cost) × (0 ≡ triangles_looked_at N G C arc cost)
    left_same e = (calm_lists calm, calm_count calm)
      where
        stays : (p q : ℕ) → road_between N p q ≢ road_between M p q → ⊥
        stays p q n = let (u, v, d) = moved_road p q n in n (rw (u, v) e)

        calm : (p q : ℕ) → T (differs (road_between N) (road_between M) p q) → ⊥
        calm p q t = either (differ_e (road_between N) (road_between M) p q t) (λ n. stays p q n) (λ n. stays q p n)

    -- ---- where it changes

    module _ (moved : road_between N a b ≢ road_between M a b) where
      apart : a ≢ b
      apart = (moved_road a b moved).2

      -- what is so of both ends, whichever is the lower, is so of the lower and the higher
      in_order : (P : ℕ → ℕ → Type 0) → P a b → P b a → P (min a b) (max a b)
      in_order P p q =
          either (split (ltb a b))
          (λ s.
          let l = ltb-true a b s in
          let e : min a b ≡ a = omega arith in
          let f : max a b ≡ b = omega arith in
          rw (e, f) p)
          (λ s.
          let l = ltb-false a b s in
          let e : min a b ≡ b = omega arith in
          let f : max a b ≡ a = omega arith in
          rw (e, f) q)

      ways : LawfulCost cost → Ways M (min a b) (max a b) (road_between N)
      ways lawful =
          record {
            shut = road_small (accepted_with A arc cost lawful);
            only = λ p q l t.
                either (differ_e (road_between N) (road_between M) p q t)
                (λ n. let (u, v, d) = moved_road p q n in (omega arith, omega arith))
                (λ n. let (u, v, d) = moved_road q p n in (omega arith, omega arith));
            there =
                in_order (λ p q. T (differs (road_between N) (road_between M) p q)) (differ_i (road_between N) (road_between M) a b (inl moved))
                (differ_i (road_between N) (road_between M) b a (inr moved));
          }

      pub carriage : {threads : Roads} {lo hi : ℕ} → lo ≡ min a b → hi ≡ max a b → RoadsOf M threads → Carriage M threads G C 131072 lo hi
      carriage el eh K =
          let j : T (linked G a b) = rw (a_is, b_is) (A.edges arc listed (λ e. apart (a_is ∙ ap (λ i. get_or rank i 0) e ∙ sym b_is))) in
          rw (el, eh) (record {
            lists = lists_of A.rows_of C A.few A.up_long A.down_long;
            size_is = sym (count_is A.rows_of);
            roads = K;
            flags_long = let f = edges_few A.rows_of A.few in rw (count_is A.rows_of) f;
            rising = omega (arith, apart);
            edge = in_order (λ p q. T (linked G p q)) j (linked_turn G a b j);
          })

      -- the lists are those of the definition, and so is the number
      pub carried : {lo hi : ℕ} → lo ≡ min a b → hi ≡ max a b → LawfulCost cost → {C' : EdgeCosts} {r : ℕ} → Carried M G lo hi C C' r
          → (C' ≡ changed_costs N G C arc cost) × (r ≡ triangles_looked_at N G C arc cost)
      unfolding triangles_looked_at
      carried el eh lawful {C' = C'} K =
          let (there, number) = K.new (road_between N) (rw (el, eh) (ways lawful)) in
          (changed_of C' K.kept there, number ∙ ap (looked_at (linked G) (road_between N) (road_between M) (held G C)) (count_is A.rows_of))
