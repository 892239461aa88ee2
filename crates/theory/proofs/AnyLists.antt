-- What holds whatever the cost lists hold: a sweep lists what distance tells; arcs that route hands back are a walk of the distance told; the
-- paper's equation has one solution. Assumes nothing.
use Prim.Native.Nat.{ℕ, ◌≤◌, ◌<◌, min}
use mathlib.Core.Path.{◌≡◌, refl, sym, ap, ap₂, ◌∙◌}
use mathlib.Core.Bool.{cond}
use mathlib.Core.List.{List, [], ◌∷◌}
use native.Mathlib.Omega.{arith}
use lib.Dec.{T, eqb}
use lib.ListN.{length, get_or, replicate}
use borrow.Author.Tests.{eqb-true, eqb-false}
use Rattle.rules.specs.Costs.{closed, none}
use Rattle.rules.specs.declared.Direction.{Direction}
use Rattle.rules.specs.declared.Direction.TheVariants.{Up, Down}
use Rattle.rules.specs.Words.{least, tabulate}
use Rattle.rules.specs.Replies.{Reply, refused, done, drive, no_walk}
use Rattle.rules.specs.Net.{Net, size, junction, arc_between, road_between}
use Rattle.rules.specs.Hierarchy.{EdgeCosts, edge_costs, linked, held, along, its_e}
use Rattle.rules.specs.Customised.{over}
use Rattle.rules.specs.Distance.{distance}
use Rattle.rules.specs.Route.{Event, met, trouble, driven, route_list}
use Rattle.rules.specs.Refusals.{passes, check11, check15, check16}
use Rattle.rules.specs.Calls.{customise_checks, shortcut_cost, customised_costs, distance_checks, distance_between, distance_leaves, SweepLeaves, sweep_left, sweep_checks, or_closed, swept_leaves, sweep_leaves, RouteLeaves, route_left, route_checks, listed_distance, listed_way, driven_leaves, route_leaves}
use Rattle.theory.specs.Demand3.{start_by, target_by, SomeWalk, RouteOnAnyLists, SweepOnAnyLists, Says, SweepSaysDistance}
use Rattle.theory.proofs.Words.{either, split, least_same, clash, length_tabulate, tabulate_at}
use Rattle.theory.proofs.Verdicts.{first_passes, unless_e}
use Rattle.theory.proofs.Customised.{customised_is, customised_only, over_same}
use Rattle.theory.proofs.Distance.{distance_top}
use Rattle.theory.proofs.Sweep.{reach_is}
use Rattle.theory.proofs.Route.{trouble_e, length_route, met_drive}
use Rattle.theory.specs.Rows.{InRow}
use Rattle.theory.proofs.Rows.{linked_turn, linked_i, in_heads}
use Rattle.theory.proofs.Held.{held_up, held_down}
use Rattle.theory.proofs.CostLists.{list_past, list_of, held_list}
use Rattle.theory.specs.Accepted.{Accepted}
use Rattle.theory.proofs.Accepted.{accepted, asked, passes11, others_pass}
use Rattle.theory.proofs.Walks.{drive_walk}
use Rattle.rules.specs.Graph.{Graph}

-- ---- the sweeps

-- the procedure finds the distance, for the graph's test of two positions is the same either way round
pub sweep_on_any_lists : SweepOnAnyLists
unfolding listed_distance
sweep_on_any_lists n G C d s p = reach_is n (linked G) (linked_turn G) (held G C) d s p

-- what distance replies, once its checks have passed, is what an entry made of the distance says
says_is : (order rank : List ℕ) (G : Graph) (C : EdgeCosts) (from to : ℕ) → distance_checks order rank G C from to ≡ passes
    → Says (or_closed (distance_between (length order) rank G C from to)) (distance_leaves order rank G C from to).reply
unfolding distance_leaves
says_is order rank G C from to p =
    let d = distance_between (length order) rank G C from to in
    rw p (either (split (eqb d none)) (λ e. rw e refl) (λ e. rw e refl))

-- the same for the two junctions of an entry, from j or to j, where a sweep's checks have passed
entry_says : (order rank : List ℕ) (G : Graph) (C : EdgeCosts) (d : Direction) (j x : ℕ) → distance_checks order rank G C j j ≡ passes → x < length order
    → Says (or_closed (along d (distance_between (length order) rank G C) j x)) (distance_leaves order rank G C (start_by d j x) (target_by d j x)).reply
entry_says order rank G C Up j x p h =
    says_is order rank G C j x (others_pass order rank G C j j j x p (asked order rank G C j j p).start h)
entry_says order rank G C Down j x p h =
    says_is order rank G C x j (others_pass order rank G C j j x j p h (asked order rank G C j j p).start)

-- a sweep that is done passed its checks and 16, and so would distance for each entry
pub sweep_says_distance : SweepSaysDistance
unfolding sweep_leaves sweep_checks swept_leaves
sweep_says_distance order rank G C d j lent e =
    let n = length order in
    let f = along d (distance_between n rank G C) j in
    let entry : ℕ → ℕ = λ x. or_closed (f x) in
    let reply : SweepLeaves → Reply = λ l. l.reply in
    let filled = sweep_left (tabulate entry 0 n) done in
    let c = unless_e reply (sweep_checks order rank G C j lent) (sweep_left lent) (swept_leaves n f) done (λ k p g. clash (cc)) e in
    let c16 = unless_e reply (check16 n f) (sweep_left (replicate n closed)) filled done (λ k p g. clash (cc)) (rw c at e) in
    let p = (first_passes (distance_checks order rank G C j j) (check15 n lent ∷ []) c).0 in
    rw (c, c16) (length_tabulate entry 0 n, λ x h. rw (tabulate_at entry n x 0 h) (entry_says order rank G C d j x p h))

-- ---- route

route_passed : (N : Net) (rank : List ℕ) (G : Graph) (C : EdgeCosts) (from to : ℕ) → route_checks N rank G C from to ≡ passes
    → (customise_checks N rank G C ≡ passes) × (check11 (size N) from to ≡ passes)
unfolding route_checks
route_passed N rank G C from to e =
    let (a, b) = first_passes (customise_checks N rank G C) (check11 (size N) from to ∷ []) e in
    (a, (first_passes (check11 (size N) from to) [] b).0)

-- with places for the arcs, the arcs of what was met
drive_left : (way : List Event) (d₀ room d k : ℕ) → (driven_leaves way d₀ room).reply ≡ drive d k
    → (trouble room way ≡ 0) × (d₀ ≡ d) × (length (driven way) ≡ k) × ((driven_leaves way d₀ room).route ≡ route_list (driven way) room)
unfolding driven_leaves
drive_left way d₀ room d k e =
    either (split (eqb (trouble room way) 0))
    (λ f.
    let g : drive d₀ (length (driven way)) ≡ drive d k = rw f at e in
    (eqb-true (trouble room way) 0 f, cc, cc, rw f refl))
    (λ f.
    let g : refused (trouble room way) 0 ≡ drive d k = rw f at e in
    clash (cc))

-- the walk that route hands back, once its checks have passed
drive_found : (N : Net) (rank : List ℕ) (G : Graph) (C : EdgeCosts) (from to : ℕ) (room : ℕ) (d k : ℕ)
    → Accepted N rank G C → from < size N → to < size N
    → let s = get_or rank from 0 in
    let t = get_or rank to 0 in
    let d₀ = distance (size N) (linked G) (held G C) s t in
    let left =
    cond (eqb d₀ none) (route_left (replicate room closed) no_walk)
    (driven_leaves (met (size N) (linked G) (held G C) (road_between N) (arc_between N) s t) d₀ room) in
    left.reply ≡ drive d k → SomeWalk N from to d k left.route
drive_found N rank G C from to room d k A h g e =
    let joined = linked G in
    let cost = held G C in
    let s = get_or rank from 0 in
    let t = get_or rank to 0 in
    let d₀ = distance (size N) joined cost s t in
    let way = met (size N) joined cost (road_between N) (arc_between N) s t in
    either (split (eqb d₀ none))
    (λ f. let x : no_walk ≡ drive d k = rw f at e in clash (cc))
    (λ f.
    let (calm, ed, ek, el) = drive_left way d₀ room d k (rw f at e) in
    let below : d₀ < none = omega (arith, distance_top (size N) joined cost s t, eqb-false d₀ none f) in
    let (clear, fits) = trouble_e room way calm in
    let (u, v) = drive_walk N (met_drive joined cost (road_between N) (arc_between N) (size N) s t below clear) in
    let es : junction N s ≡ from = A.ranks.there from h in
    let et : junction N t ≡ to = A.ranks.there to g in
    rw f
    (record {
      way = driven way;
      walks = rw (es, et) at u;
      costs = v ∙ ed;
      count = ek;
      listed = el ∙ ap (route_list (driven way)) (sym (ap length el ∙ length_route (driven way) room fits));
    }))

pub route_on_any_lists : RouteOnAnyLists
unfolding route_leaves listed_distance listed_way
route_on_any_lists N rank G C from to room d k e =
    let p = unless_e (λ (l : RouteLeaves). l.reply) (route_checks N rank G C from to) (route_left room) _ (drive d k) (λ n q g. clash (cc)) e in
    let (c, f) = route_passed N rank G C from to p in
    let (h, g) = passes11 (size N) from to f in
    rw p (drive_found N rank G C from to (length room) d k (accepted N rank G C c) h g (rw p at e))

-- ---- customised costs

-- "Each is the least of ..", asked of lists: at each edge up and down hold the least of the road and of going over lower positions, by what
-- they hold themselves, and past E they hold CLOSED
pub record Satisfies (N : Net) (G : Graph) (C : EdgeCosts) : Type 0 where
  pub equation : (a b : ℕ) → T (linked G a b)
      → held G C a b ≡ least (over (linked G) (held G C) a b) (road_between N a b) (min a b)
  pub up_past : (k : ℕ) → its_e N.order G ≤ k → k < length C.up → get_or C.up k 0 ≡ closed
  pub down_past : (k : ℕ) → its_e N.order G ≤ k → k < length C.down → get_or C.down k 0 ≡ closed

-- exactly one pair of lists satisfies the paper's equation: the one that customise leaves
pub satisfied_once : (N : Net) (rank : List ℕ) (G : Graph) (C : EdgeCosts) → Accepted N rank G C → Satisfies N G C → C ≡ customised_costs N G C
unfolding shortcut_cost
satisfied_once N rank G C A S =
    let R = A.rows_of in
    let joined = linked G in
    let cost = held G C in
    let f = shortcut_cost N G in
    let is : (a b : ℕ) → T (joined a b) → cost a b ≡ f a b = customised_only joined (road_between N) (linked_turn G) cost S.equation in
    ap₂ edge_costs
    (list_of R f Up (λ i. closed) (length C.up) C.up refl
    (λ p k l r.
    let y = get_or G.heads k 0 in
    let j = linked_i R p k y l r refl in
    held_up R C p k l r (long p k C.up l r A.up_long) ∙ is p y j)
    S.up_past)
    (list_of R f Down (λ i. closed) (length C.down) C.down refl
    (λ p k l r.
    let y = get_or G.heads k 0 in
    let j = linked_i R p k y l r refl in
    held_down R C p k l r (long p k C.down l r A.down_long) ∙ is y p (linked_turn G p y j))
    S.down_past)
  where
    long : (p k : ℕ) (l : List ℕ) → p < size N → InRow G p k → its_e N.order G ≤ length l → k < length l
    long p k l h r e = omega (arith, (in_heads A.rows_of p k h r).0)

-- and that pair satisfies it
pub satisfied : (N : Net) (rank : List ℕ) (G : Graph) (C : EdgeCosts) → Accepted N rank G C → Satisfies N G (customised_costs N G C)
unfolding shortcut_cost
satisfied N rank G C A =
    let R = A.rows_of in
    let joined = linked G in
    let f = shortcut_cost N G in
    let cost = held G (customised_costs N G C) in
    let is : (a b : ℕ) → T (joined a b) → cost a b ≡ f a b = λ a b j. held_list R f a b C A.up_long A.down_long j in
    record {
      equation = λ a b j.
          is a b j ∙ customised_is joined (road_between N) a b
          ∙ least_same (over joined f a b) (over joined cost a b) (road_between N a b) (min a b)
          (λ z l. over_same joined f cost a b z (λ u v. (sym (is a z (linked_turn G z a u)), sym (is z b v))));
      up_past = list_past (size N) G f Up (λ i. closed) (length C.up);
      down_past = list_past (size N) G f Down (λ i. closed) (length C.down);
    }
