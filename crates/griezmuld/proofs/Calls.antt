-- What the calls leave, case by case: a refusal, or the work's outcome. Assumes nothing.
use Prim.Native.Nat.{ℕ, suc, ◌-◌, ◌<◌}
use mathlib.Core.Path.{◌≡◌, refl, sym, ap, ◌∙◌}
use mathlib.Core.List.{List, [], ◌∷◌, ◌++◌}
use native.Mathlib.Omega.{arith}
use lib.Dec.{leb}
use lib.ListN.{length, get_or, replicate}
use borrow.Author.Tests.{leb-true, leb-false, lt-ltb, le-ltb, eq-eqb, ne_eqb}
use Rattle.rules.specs.Costs.{none}
use Rattle.rules.specs.Replies.{refused, edges, done, far, no_walk, looked}
use Rattle.rules.specs.Net.{Net, net, with_cost, rank_list}
use Rattle.rules.specs.Graph.{Graph, first_list, heads_list, edge_count, graph}
use Rattle.rules.specs.Refusals.{passes, fails, check6, check15}
use Rattle.lists.specs.Lent.{filled}
use Rattle.lists.proofs.Filled.{filled_whole}
use Rattle.rules.specs.Hierarchy.{EdgeCosts, along}
use Rattle.rules.specs.declared.Direction.{Direction}
use Rattle.rules.specs.Calls.{build_left, build_checks, build_leaves, customise_left, customise_checks, customise_leaves, change_left, change_checks, changed_costs, triangles_looked_at, change_leaves, distance_left, distance_checks, listed_distance, distance_between, distance_leaves, SweepLeaves, sweep_left, sweep_checks, swept_leaves, sweep_leaves, route_left, route_checks, route_leaves, customised_costs}
use Rattle.theory.proofs.Words.{either, split}
use Rattle.theory.proofs.Orders.{inverse_list}
use Rattle.theory.specs.Accepted.{Buildable, Asked}
use Rattle.theory.proofs.Buildable.{buildable}
use Rattle.theory.proofs.Accepted.{asked, passes15}
use Rattle.theory.proofs.Verdicts.{first_passes}
use Rattle.theory.specs.Rows.{count, Lists}
use Rattle.sweep.specs.Swept.{Places}
use Rattle.graph.specs.Contracted.{Left, left, contracted}
use Rattle.std.specs.Prelude.{Option, Some, None}

-- ---- build

pub build_refused : (tails heads order rank : List ℕ) (G : Graph) (k p : ℕ) → build_checks tails heads order rank G.first ≡ fails k p
    → build_left rank G (refused k p) ≡ build_leaves tails heads order rank G
unfolding build_leaves
build_refused tails heads order rank G k p e = rw e refl

-- the rank list filled, all is as it was before but for the rank list
pub ranked_room : {tails heads order rank₀ first : List ℕ} (rank : List ℕ) → Buildable tails heads order rank₀ first → rank ≡ rank_list order
    → Buildable tails heads order rank first
ranked_room {order = order} rank B e =
    record {
      some = B.some;
      few = B.few;
      heads_long = B.heads_long;
      fit = B.fit;
      ends_in = B.ends_in;
      seats = B.seats;
      rank_long = ap length e ∙ (inverse_list B.seats).long;
      first_long = B.first_long;
    }

module _ (tails heads order rank₀ : List ℕ) (G₀ : Graph) (c : build_checks tails heads order rank₀ G₀.first ≡ passes) where
  -- the net, which has no costs, and how long the room of heads is
  abbrev N : Net
  N = net tails heads [] order

  abbrev room : ℕ
  room = length G₀.heads

  -- the room of heads was too short: 6, and all is 0
  pub build_full : (answer : Option ℕ) (written rank : List ℕ) (G : Graph) → left answer G ≡ contracted N room → answer ≡ None
      → written ≡ rank_list order → rank ≡ filled written 0 0
      → build_left rank G (refused 6 0) ≡ build_leaves tails heads order rank₀ G₀
  unfolding build_leaves contracted check6
  build_full answer written rank G e o w f =
      let B = buildable tails heads order rank₀ G₀.first c in
      let l : length written ≡ length rank₀ = ap length w ∙ (inverse_list B.seats).long ∙ sym B.rank_long in
      let r : rank ≡ replicate (length rank₀) 0 = f ∙ filled_whole written 0 ∙ ap (λ k. replicate k 0) l in
      either (split (leb (edge_count N) room))
      (λ d.
      let g : left answer G ≡ left (Some (edge_count N)) (graph (first_list N) (heads_list N ++ replicate (room - edge_count N) 0)) = rw d at e in
      let f : None ≡ Some (edge_count N) = sym o ∙ ap (λ (l : Left). l.reply) g in
      let z : ◌≡◌ {A = ℕ} 0 1 = cc in absurd (omega arith))
      (λ d.
      let g : left answer G ≡ left None (graph (replicate (suc (length order)) 0) (replicate room 0)) = rw d at e in
      let eg : G ≡ graph (replicate (suc (length order)) 0) (replicate room 0) = ap (λ (l : Left). l.rows) g in
      rw (c, lt-ltb room (edge_count N) (leb-false (edge_count N) room d), r, eg, B.first_long) refl)

  -- the graph was written: E is told
  pub build_told : (answer : Option ℕ) (rank : List ℕ) (G : Graph) (e : ℕ) → rank ≡ rank_list order → left answer G ≡ contracted N room → answer ≡ Some e
      → build_left rank G (edges e) ≡ build_leaves tails heads order rank₀ G₀
  unfolding build_leaves contracted check6
  build_told answer rank G e r f o =
      either (split (leb (edge_count N) room))
      (λ d.
      let g : left answer G ≡ left (Some (edge_count N)) (graph (first_list N) (heads_list N ++ replicate (room - edge_count N) 0)) = rw d at f in
      let er : Some e ≡ Some (edge_count N) = sym o ∙ ap (λ (l : Left). l.reply) g in
      let ee : e ≡ edge_count N = cc in
      let eg : G ≡ graph (first_list N) (heads_list N ++ replicate (room - edge_count N) 0) = ap (λ (l : Left). l.rows) g in
      rw (c, le-ltb room (edge_count N) (leb-true (edge_count N) room d), r, ee, eg) refl)
      (λ d.
      let g : left answer G ≡ left None (graph (replicate (suc (length order)) 0) (replicate room 0)) = rw d at f in
      let er : Some e ≡ None = sym o ∙ ap (λ (l : Left). l.reply) g in
      let z : ◌≡◌ {A = ℕ} 0 1 = cc in absurd (omega arith))

-- ---- customise

module _ (N : Net) (rank : List ℕ) (G : Graph) (C₀ : EdgeCosts) where
  pub customise_refused : (k p : ℕ) → customise_checks N rank G C₀ ≡ fails k p → customise_left C₀ (refused k p) ≡ customise_leaves N rank G C₀
  unfolding customise_leaves
  customise_refused k p e = rw e refl

  pub customise_done : (C : EdgeCosts) → customise_checks N rank G C₀ ≡ passes → C ≡ customised_costs N G C₀
      → customise_left C done ≡ customise_leaves N rank G C₀
  unfolding customise_leaves
  customise_done C e l = rw (e, l) refl

-- ---- change

module _ (N : Net) (rank : List ℕ) (G : Graph) (C₀ : EdgeCosts) (arc cost : ℕ) where
  pub change_refused : (k p : ℕ) → change_checks N rank G C₀ arc cost ≡ fails k p
      → change_left N.costs C₀ (refused k p) ≡ change_leaves N rank G C₀ arc cost
  unfolding change_leaves
  change_refused k p e = rw e refl

  -- the cost list and the shortcut costs have changed, and the triangles are told
  pub change_told : (costs : List ℕ) (C : EdgeCosts) (t : ℕ) → change_checks N rank G C₀ arc cost ≡ passes
      → costs ≡ (with_cost N arc cost).costs → C ≡ changed_costs N G C₀ arc cost → t ≡ triangles_looked_at N G C₀ arc cost
      → change_left costs C (looked t) ≡ change_leaves N rank G C₀ arc cost
  unfolding change_leaves
  change_told costs C t e a l n = rw (e, a, l, n) refl

-- ---- distance

module _ (order rank : List ℕ) (G : Graph) (C : EdgeCosts) (from to : ℕ) where
  pub distance_refused : (k p : ℕ) → distance_checks order rank G C from to ≡ fails k p
      → distance_left (refused k p) ≡ distance_leaves order rank G C from to
  unfolding distance_leaves
  distance_refused k p e = rw e refl

  module _ (c : distance_checks order rank G C from to ≡ passes) (d n s t : ℕ)
      (e : d ≡ listed_distance n G C s t) (en : n ≡ length order) (es : s ≡ get_or rank from 0) (et : t ≡ get_or rank to 0) where
    far_is : d ≡ listed_distance (length order) G C (get_or rank from 0) (get_or rank to 0)
    far_is = rw (← en, ← es, ← et) e

    pub distance_none : d ≡ none → distance_left no_walk ≡ distance_leaves order rank G C from to
    unfolding distance_leaves
    distance_none f =
        rw (c, eq-eqb (listed_distance (length order) G C (get_or rank from 0) (get_or rank to 0)) none (sym far_is ∙ f)) refl

    pub distance_told : (d ≡ none → ⊥) → distance_left (far d) ≡ distance_leaves order rank G C from to
    unfolding distance_leaves
    distance_told f =
        rw (c, ne_eqb (listed_distance (length order) G C (get_or rank from 0) (get_or rank to 0)) none (λ g. f (far_is ∙ g)), ← far_is) refl

-- ---- sweep

module _ (order rank : List ℕ) (G : Graph) (C : EdgeCosts) (j : ℕ) (distances : List ℕ) where
  -- where a sweep's checks pass, distance's do, and the list is n long
  sweep_passed : sweep_checks order rank G C j distances ≡ passes → Asked order rank G C j j × (length distances ≡ length order)
  unfolding sweep_checks
  sweep_passed c =
      let (e, f) = first_passes (distance_checks order rank G C j j) (check15 (length order) distances ∷ []) c in
      (asked order rank G C j j e, passes15 (length order) distances (first_passes (check15 (length order) distances) [] f).0)

  -- so there is what `sweep_by` asks
  pub sweep_asked : sweep_checks order rank G C j distances ≡ passes
      → Lists G C × Places rank distances × (length rank ≡ count G.first) × (j < length rank)
  sweep_asked c =
      let (A, long) = sweep_passed c in (
        A.lists,
        record {
          few = omega (arith, A.lists.few, A.size, A.ranks.long);
          as_many = long ∙ sym A.ranks.long;
          position = λ x h. omega (arith, A.ranks.long, A.ranks.position x (omega (arith, A.ranks.long)));
        },
        A.ranks.long ∙ sym A.size,
        omega (arith, A.start, A.ranks.long),
      )

  module _ (d : Direction) where
    pub sweep_refused : (k p : ℕ) → sweep_checks order rank G C j distances ≡ fails k p
        → sweep_left distances (refused k p) ≡ sweep_leaves order rank G C d j distances
    unfolding sweep_leaves
    sweep_refused k p e = rw e refl

    pub sweep_told : (left : SweepLeaves) → sweep_checks order rank G C j distances ≡ passes
        → left ≡ swept_leaves (count G.first) (along d (distance_between (count G.first) rank G C) j)
        → left ≡ sweep_leaves order rank G C d j distances
    unfolding sweep_leaves
    sweep_told left c e = rw (c, ← (sweep_passed c).0.size) e

-- ---- route

pub route_refused : (N : Net) (rank : List ℕ) (G : Graph) (C : EdgeCosts) (from to : ℕ) (route : List ℕ) (k p : ℕ) → route_checks N rank G C from to ≡ fails k p
    → route_left route (refused k p) ≡ route_leaves N rank G C from to route
unfolding route_leaves
route_refused N rank G C from to route k p e = rw e refl
