-- Accepted roads, order and graph, with costs as customising left them: they meet every hypothesis of the theory of ways, so the distance
-- between two positions is the least walk between them. Assumes nothing.
use Prim.Native.Nat.{ℕ, ◌≤◌, ◌<◌}
use mathlib.Core.Path.{◌≡◌, ap, ◌∙◌}
use mathlib.Core.Logic.{inl, inr, ◌≢◌}
use mathlib.Core.List.{List}
use native.Mathlib.Omega.{arith}
use native.Mathlib.Nat.{mul-le-mul_right}
use lib.Dec.{T, eqb, ltb}
use lib.ListN.{length, get_or, get_or-eq_default}
use borrow.Author.Tests.{ltb-true, ltb-false, eqb-false}
use Rattle.rules.specs.Words.{tabulate}
use Rattle.rules.specs.Costs.{closed, none, greatest}
use Rattle.rules.specs.declared.Direction.{Direction}
use Rattle.rules.specs.declared.Direction.TheVariants.{Up, Down}
use Rattle.rules.specs.Net.{Net, size, tail, head, arc_cost, arc_between, road_between}
use Rattle.rules.specs.Hierarchy.{EdgeCosts, linked, held, row_of, along}
use Rattle.rules.specs.Customised.{cost_at, cost_list}
use Rattle.rules.specs.Distance.{label, distance}
use Rattle.rules.specs.Calls.{shortcut_cost, customised_costs}
use Rattle.theory.proofs.Words.{either, split, true_holds, eqb_e, length_tabulate, tabulate_at}
use Rattle.theory.proofs.Customised.{customised_direct, customised_over, customised_made}
use Rattle.theory.proofs.Distance.{distance_le, distance_made}
use Rattle.theory.proofs.Parents.{labels}
use Rattle.theory.proofs.Roads.{between_arc, force_apart}
use Rattle.theory.proofs.Ways.{Walk, Joins, Customised, Labels, Meets, turned, reached}
use Rattle.theory.proofs.Simple.{bounded}
use Rattle.theory.proofs.Low.{cost_bound, shortest_of_all}
use Rattle.theory.proofs.Joined.{two_e}
use Rattle.theory.proofs.Rows.{linked_turn, linked_two, linked_third}
use Rattle.theory.proofs.Held.{held_small as entries_small}
use Rattle.theory.proofs.CostLists.{held_list}
use Rattle.theory.specs.Accepted.{Accepted, LawfulCost}
use Rattle.rules.specs.Graph.{Graph}

module _ {N : Net} {rank : List ℕ} {G : Graph} {C : EdgeCosts} (A : Accepted N rank G C) where
  -- two positions are joined, by the lists
  abbrev pub Joined : ℕ → ℕ → Type 0
  Joined a b = T (linked G a b)

  -- a road that is not CLOSED costs from 1 to the greatest, and joins its ends
  pub road_lawful : (a b : ℕ) → road_between N a b ≢ closed → (1 ≤ road_between N a b) × (road_between N a b ≤ greatest)
  road_lawful a b n =
      let w = between_arc N a b n in
      let i = arc_between N a b in
      let c = w.2 in
      let l : LawfulCost (arc_cost N i) = A.lawful i w.1.listed in (
        let x = l.least_one in omega arith,
        either l.most (λ e. absurd (n (c ∙ e))) (λ e. omega arith),
      )

  pub road_small : (a b : ℕ) → road_between N a b ≤ closed
  road_small a b =
      either (split (eqb (road_between N a b) closed))
      (λ e. let x = eqb_e (road_between N a b) closed (true_holds (eqb (road_between N a b) closed) e) in omega arith)
      (λ e. let x = (road_lawful a b (eqb-false (road_between N a b) closed e)).1 in omega arith)

  road_open : (a b : ℕ) → road_between N a b < closed → road_between N a b ≢ closed
  road_open a b h e = omega arith

  pub road_joins : (a b : ℕ) → road_between N a b < closed → Joined a b
  road_joins a b h =
      let w = between_arc N a b (road_open a b h) in
      let i = arc_between N a b in
      let o = w.1 in
      let two = two_e N a b w.0 in
      let j : T (linked G (get_or rank (tail N i) 0) (get_or rank (head N i) 0)) = A.edges i o.listed (force_apart N i o.in_force_lem) in
      let ea : get_or rank (tail N i) 0 ≡ a = ap (λ x. get_or rank x 0) o.tail_is ∙ A.ranks.back a two.0 in
      let eb : get_or rank (head N i) 0 ≡ b = ap (λ x. get_or rank x 0) o.head_is ∙ A.ranks.back b two.1 in
      rw (ea, eb) at j

  pub joins : Joins closed (size N) (road_between N) Joined
  joins =
      record {
        turn = λ {a} {b} j. linked_turn G a b j;
        apart = λ {a} {b} j. (linked_two A.rows_of a b j).2;
        below = λ {a} {b} j. (linked_two A.rows_of a b j).0;
        roads = λ {a} {b} h. road_joins a b h;
        third = linked_third A.rows_of;
      }

  -- the customised costs
  abbrev shortcut : ℕ → ℕ → ℕ
  shortcut = shortcut_cost N G

  -- they are customised in the sense of the theory of ways
  pub shortcut_customised : Customised closed (road_between N) Joined shortcut
  unfolding shortcut_cost
  shortcut_customised =
      let joined = linked G in
      record {
        direct = λ {a} {b} j. customised_direct joined (road_between N) a b;
        over = λ {z} {a} {b} h g n i j. customised_over joined (road_between N) z a b h g i j;
        made = λ {a} {b} j h.
            either (customised_made joined (road_between N) a b h) (λ e. inl e)
            (λ w. inr (record { mid = w.0; under_a = let x = w.1 in omega arith; under_b = let x = w.1 in omega arith; to_a = w.2; to_b = w.3; sum = w.4 }));
      }

  pub shortcut_small : (a b : ℕ) → shortcut a b ≤ closed
  unfolding shortcut_cost
  shortcut_small a b = omega (arith, customised_direct (linked G) (road_between N) a b, road_small a b)

  -- "Customised costs that aren't CLOSED are at most 4,095 × 500,000 = 2,047,500,000"
  pub shortcut_bound : (a b : ℕ) → Joined a b → shortcut a b < closed → shortcut a b ≤ 2047500000
  shortcut_bound a b j h =
      let few = A.few in
      let x = cost_bound joins shortcut_customised {M = greatest} (λ u v r. (road_lawful u v (road_open u v r)).1) j h in
      omega (arith, mul-le-mul_right greatest few)

  -- a list of costs has nothing over CLOSED
  list_small : (d : Direction) (room k : ℕ) → get_or (cost_list (size N) G shortcut d (λ i. closed) room) k 0 ≤ closed
  unfolding cost_list
  list_small d room k =
      either (split (ltb k room))
      (λ e.
      let g = tabulate_at at room k 0 (ltb-true k room e) in
      omega (arith, at_small k))
      (λ e.
      let g = get_or-eq_default (tabulate at 0 room) 0 {n = k} (let x = ltb-false k room e in omega (arith, length_tabulate at 0 room)) in
      omega arith)
    where
      at : ℕ → ℕ
      at = cost_at (size N) G shortcut d (λ i. closed)

      along_small : (d : Direction) (a b : ℕ) → along d shortcut a b ≤ closed
      along_small Up a b = shortcut_small a b
      along_small Down a b = shortcut_small b a

      at_small : (i : ℕ) → at i ≤ closed
      at_small i =
          either (split (ltb i (get_or G.first (size N) 0)))
          (λ e. rw e (along_small d (row_of (size N) G i) (get_or G.heads i 0)))
          (λ e. rw e (omega arith))

  -- ---- up and down as customising left them

  module _ {C' : EdgeCosts} (e : C' ≡ customised_costs N G C) where
    -- the cost held at an edge's place is the customised one
    abbrev pub held_cost : ℕ → ℕ → ℕ
    held_cost = held G C'

    pub held_is : (a b : ℕ) → Joined a b → held_cost a b ≡ shortcut a b
    held_is a b j = rw e (held_list A.rows_of shortcut a b C A.up_long A.down_long j)

    pub held_small : (a b : ℕ) → held_cost a b ≤ closed
    held_small a b =
        rw e (entries_small G (customised_costs N G C) (list_small Up (length C.up)) (list_small Down (length C.down)) a b)

    pub held_customised : Customised closed (road_between N) Joined held_cost
    held_customised =
        let J = joins in
        let C = shortcut_customised in
        record {
          direct = λ {a} {b} j. rw (held_is a b j) (C.direct j);
          over = λ {z} {a} {b} h g n i j.
              rw (held_is a b (J.third z a b h g n i j), held_is a z (J.turn i), held_is z b j) (C.over h g n i j);
          made = λ {a} {b} j h.
              either (C.made j (let x = held_is a b j in omega arith))
              (λ e. inl (held_is a b j ∙ e))
              (λ w.
              inr (record {
                mid = w.mid;
                under_a = w.under_a;
                under_b = w.under_b;
                to_a = w.to_a;
                to_b = w.to_b;
                sum = rw (held_is a b j, held_is a w.mid (J.turn w.to_a), held_is w.mid b w.to_b) w.sum;
              }));
        }

    module _ (s t : ℕ) where
      abbrev pub far : ℕ
      far = distance (size N) (linked G) held_cost s t

      from_start : Labels closed none Joined held_cost s (label (linked G) (along Up held_cost) s)
      from_start = labels (linked G) held_cost held_small s

      from_target : Labels closed none Joined (turned held_cost) t (label (linked G) (along Down held_cost) t)
      from_target = labels (linked G) (turned held_cost) (λ a b. held_small b a) t

      meets : Meets (size N) none (label (linked G) (along Up held_cost) s) (label (linked G) (along Down held_cost) t) far
      meets =
          record {
            least = distance_le (size N) (linked G) held_cost s t;
            made = distance_made (size N) (linked G) held_cost s t;
          }

      -- the distance between two positions is that of a walk
      pub far_walk : far < none → Walk closed (road_between N) s t far
      far_walk h = reached joins held_customised from_start from_target meets h

      -- and no walk is cheaper
      pub far_least : {w : ℕ} → s < size N → Walk closed (road_between N) s t w → far ≤ w
      far_least l p =
          let few = A.few in
          shortest_of_all joins held_customised {M = greatest} (λ u v r. (road_lawful u v (road_open u v r)).1)
          (omega (arith, mul-le-mul_right greatest few)) from_start from_target meets l p

      -- where there is a walk there is a distance, at most 4,095 × 500,000 as n - 1 roads may cost
      pub far_some : {w : ℕ} → s < size N → Walk closed (road_between N) s t w → far ≤ 2047500000
      far_some l p =
          let few = A.few in
          let (x, q, c, b) =
          bounded {M = greatest} (λ u v r. joins.below (joins.turn (joins.roads r))) (λ u v r. (road_lawful u v (road_open u v r)).1) l p in
          omega (arith, far_least l q, mul-le-mul_right greatest few)

      -- so a distance that is not the number for none is at most that: below CLOSED
      pub far_small : s < size N → far < none → far ≤ 2047500000
      far_small l h = far_some l (far_walk h)
