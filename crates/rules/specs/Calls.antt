-- All that each of the calls leaves, reply and every lent list, as one definition of all that it gets. Assumes nothing.
use Rattle.std.specs.Prelude.{ℕ, ◌-◌, cond, List, [], ◌∷◌, ◌++◌, eqb, length, get_or, replicate}
use Rattle.rules.specs.declared.Direction.{Direction}
use Rattle.rules.specs.Words.{tabulate}
use Rattle.rules.specs.Costs.{closed, none}
use Rattle.rules.specs.Replies.{Reply, refused, edges, done, far, drive, no_walk, looked}
use Rattle.rules.specs.Net.{Net, net, with_cost, size, arcs, rank_list, road_between, arc_between}
use Rattle.rules.specs.Graph.{Graph, graph, first_list, heads_list, edge_count}
use Rattle.rules.specs.Hierarchy.{EdgeCosts, its_e, linked, held, along}
use Rattle.rules.specs.Customised.{customised, cost_list, cost_lists}
use Rattle.rules.specs.Changed.{new_cost, looked_at, changed_lists}
use Rattle.rules.specs.Distance.{distance}
use Rattle.rules.specs.Route.{Event, met, trouble, driven, route_list}
use Rattle.rules.specs.Refusals.{Verdict, passes, fails, first_failure, check1, check2, check3, check4, check5, check6, check7, check8, check9, check10, check11, check15, check16, check17, check_new_cost}

-- what is left: by the checks, refused or the rest
abbrev pub unless : {A : Type 0} (checks : Verdict) (refusal : Reply → A) (rest : A) → A
unless passes refusal rest = rest
unless (fails k p) refusal rest = refusal (refused k p)

-- ---- build

pub record BuildLeaves : Type 0 where
  pub reply : Reply
  pub rank : List ℕ
  pub rows : Graph

abbrev pub build_left : (rank : List ℕ) (G : Graph) (reply : Reply) → BuildLeaves
build_left rank G reply = record { reply = reply; rank = rank; rows = G }

-- "Build: 1, 2, 3, 4, 5, 6", of which 6 leaves other lists
unfoldable pub build_checks : (tails heads order rank first : List ℕ) → Verdict
unfolding check1 check2 check3 check4 check5
build_checks tails heads order rank first =
    first_failure
    (check1 (length order)
    ∷ check2 (length tails) (length heads ∷ [])
    ∷ check3 (length order) tails heads
    ∷ check4 order
    ∷ check5 (length order) rank first
    ∷ [])

-- "Build replies E"; "Places of heads past E become 0"; "after 6 rank, first and heads are all 0"
unfoldable pub build_leaves : (tails heads order rank : List ℕ) (G : Graph) → BuildLeaves
unfolding build_checks check6 edge_count first_list heads_list rank_list
build_leaves tails heads order rank G =
    let N = net tails heads [] order in
    let room = length G.heads in
    unless (build_checks tails heads order rank G.first) (build_left rank G)
    (unless (check6 (edge_count N) G.heads)
    (build_left (replicate (length rank) 0) (graph (replicate (length G.first) 0) (replicate room 0)))
    (build_left (rank_list order) (graph (first_list N) (heads_list N ++ replicate (room - edge_count N) 0)) (edges (edge_count N))))

-- ---- customise

pub record CustomiseLeaves : Type 0 where
  pub reply : Reply
  pub costs : EdgeCosts

abbrev pub customise_left : (C : EdgeCosts) (reply : Reply) → CustomiseLeaves
customise_left C reply = record { reply = reply; costs = C }

-- "Customise: 1, 2, 3, 4, 7, 8, 9, 10"
unfoldable pub customise_checks : (N : Net) (rank : List ℕ) (G : Graph) (C : EdgeCosts) → Verdict
unfolding check1 check2 check3 check4 check7 check8 check9 check10
customise_checks N rank G C =
    first_failure
    (check1 (size N)
    ∷ check2 (length N.tails) (length N.heads ∷ length N.costs ∷ [])
    ∷ check3 (size N) N.tails N.heads
    ∷ check4 N.order
    ∷ check7 N.order rank G
    ∷ check8 N.tails N.heads rank G
    ∷ check9 N.costs
    ∷ check10 (its_e N.order G) C
    ∷ [])

-- the customised cost from one position to another, over the lists of a hierarchy
unfoldable pub shortcut_cost : (N : Net) (G : Graph) (a b : ℕ) → ℕ
unfolding customised linked road_between
shortcut_cost N G = customised (linked G) (road_between N)

-- "Each edge (x, y), x below y, has an up cost, x to y, and a down cost, y to x, held in two lists at the edge's place"
abbrev pub customised_costs : (N : Net) (G : Graph) (room : EdgeCosts) → EdgeCosts
customised_costs N G room = cost_lists (size N) G (shortcut_cost N G) room

-- customise is refused, and leaves the lists as they were, or it is done and leaves these costs
unfoldable pub customise_leaves : (N : Net) (rank : List ℕ) (G : Graph) (C : EdgeCosts) → CustomiseLeaves
unfolding customise_checks shortcut_cost cost_list
customise_leaves N rank G C =
    unless (customise_checks N rank G C) (customise_left C) (customise_left (customised_costs N G C) done)

-- ---- change

pub record ChangeLeaves : Type 0 where
  pub reply : Reply
  pub arc_costs : List ℕ
  pub costs : EdgeCosts

abbrev pub change_left : (arc_costs : List ℕ) (C : EdgeCosts) (reply : Reply) → ChangeLeaves
change_left arc_costs C reply = record { reply = reply; arc_costs = arc_costs; costs = C }

-- "Refusals: customise's on the lists as they stand, then 17 for an unlisted arc number, then 9 for the new cost (place the arc)"
unfoldable pub change_checks : (N : Net) (rank : List ℕ) (G : Graph) (C : EdgeCosts) (arc cost : ℕ) → Verdict
unfolding customise_checks check17 check_new_cost
change_checks N rank G C arc cost =
    first_failure (customise_checks N rank G C ∷ check17 (arcs N) arc ∷ check_new_cost arc cost ∷ [])

-- the cost from one position to another after an arc got a new cost, over the lists of a hierarchy and the costs that they hold
unfoldable pub changed_cost : (N : Net) (G : Graph) (C : EdgeCosts) (arc cost a b : ℕ) → ℕ
unfolding new_cost linked held road_between
changed_cost N G C arc cost = new_cost (linked G) (road_between N) (road_between (with_cost N arc cost)) (held G C)

abbrev pub changed_costs : (N : Net) (G : Graph) (C : EdgeCosts) (arc cost : ℕ) → EdgeCosts
changed_costs N G C arc cost = changed_lists (size N) G (changed_cost N G C arc cost) C

-- "The reply tells how many lower triangles of reconsidered edges were looked at"
unfoldable pub triangles_looked_at : (N : Net) (G : Graph) (C : EdgeCosts) (arc cost : ℕ) → ℕ
unfolding looked_at linked held road_between
triangles_looked_at N G C arc cost = looked_at (linked G) (road_between N) (road_between (with_cost N arc cost)) (held G C) (size N)

-- "the cost list and shortcut costs change together or not at all"
unfoldable pub change_leaves : (N : Net) (rank : List ℕ) (G : Graph) (C : EdgeCosts) (arc cost : ℕ) → ChangeLeaves
unfolding change_checks changed_cost cost_list triangles_looked_at
change_leaves N rank G C arc cost =
    unless (change_checks N rank G C arc cost) (change_left N.costs C)
    (change_left (with_cost N arc cost).costs (changed_costs N G C arc cost) (looked (triangles_looked_at N G C arc cost)))

-- ---- distance

pub record DistanceLeaves : Type 0 where
  pub reply : Reply

abbrev pub distance_left : (reply : Reply) → DistanceLeaves
distance_left reply = record { reply = reply }

-- "Distance: 1, 4, 7, 10, 11"
unfoldable pub distance_checks : (order rank : List ℕ) (G : Graph) (C : EdgeCosts) (from to : ℕ) → Verdict
unfolding check1 check4 check7 check10 check11
distance_checks order rank G C from to =
    first_failure
    (check1 (length order)
    ∷ check4 order
    ∷ check7 order rank G
    ∷ check10 (its_e order G) C
    ∷ check11 (length order) from to
    ∷ [])

-- the distance between two positions, by the lists as they are
unfoldable pub listed_distance : (n : ℕ) (G : Graph) (C : EdgeCosts) (s t : ℕ) → ℕ
unfolding distance linked held
listed_distance n G C = distance n (linked G) (held G C)

-- "questions speak of junctions, the shortcut graph speaks of positions": the rank list tells the position
abbrev pub distance_between : (n : ℕ) (rank : List ℕ) (G : Graph) (C : EdgeCosts) (from to : ℕ) → ℕ
distance_between n rank G C from to = listed_distance n G C (get_or rank from 0) (get_or rank to 0)

unfoldable pub distance_leaves : (order rank : List ℕ) (G : Graph) (C : EdgeCosts) (from to : ℕ) → DistanceLeaves
unfolding distance_checks listed_distance
distance_leaves order rank G C from to =
    let d = distance_between (length order) rank G C from to in
    unless (distance_checks order rank G C from to) distance_left
    (distance_left (cond (eqb d none) no_walk (far d)))

-- ---- sweep

pub record SweepLeaves : Type 0 where
  pub reply : Reply
  pub distances : List ℕ

abbrev pub sweep_left : (distances : List ℕ) (reply : Reply) → SweepLeaves
sweep_left distances reply = record { reply = reply; distances = distances }

-- "Refusals: 1, 4, 7, 10, 11, then 15": distance's, where 11 asks of the one junction given, and then the list's length
unfoldable pub sweep_checks : (order rank : List ℕ) (G : Graph) (C : EdgeCosts) (j : ℕ) (distances : List ℕ) → Verdict
unfolding distance_checks check15
sweep_checks order rank G C j distances =
    first_failure (distance_checks order rank G C j j ∷ check15 (length order) distances ∷ [])

-- "CLOSED for none"
abbrev pub or_closed : (distance : ℕ) → ℕ
or_closed distance = cond (eqb distance none) closed distance

-- "The filled list of 32-bit numbers holds, for each junction, what the distance call says, CLOSED for none"; "after 16 the list is all CLOSED"
unfoldable pub swept_leaves : (n : ℕ) (distance_of : ℕ → ℕ) → SweepLeaves
unfolding check16 tabulate
swept_leaves n distance_of =
    unless (check16 n distance_of) (sweep_left (replicate n closed))
    (sweep_left (tabulate (λ j. or_closed (distance_of j)) 0 n) done)

-- "Dairy to every farm", from j to each junction; "Also the mirror sweep, all farms to the dairy", from each junction to j
unfoldable pub sweep_leaves : (order rank : List ℕ) (G : Graph) (C : EdgeCosts) (d : Direction) (j : ℕ) (distances : List ℕ) → SweepLeaves
unfolding sweep_checks listed_distance swept_leaves
sweep_leaves order rank G C d j distances =
    unless (sweep_checks order rank G C j distances) (sweep_left distances)
    (swept_leaves (length order) (along d (distance_between (length order) rank G C) j))

-- ---- route

pub record RouteLeaves : Type 0 where
  pub reply : Reply
  pub route : List ℕ

abbrev pub route_left : (route : List ℕ) (reply : Reply) → RouteLeaves
route_left route reply = record { reply = reply; route = route }

-- "Route: 1, 2, 3, 4, 7, 8, 9, 10, 11"
unfoldable pub route_checks : (N : Net) (rank : List ℕ) (G : Graph) (C : EdgeCosts) (from to : ℕ) → Verdict
unfolding customise_checks check11
route_checks N rank G C from to = first_failure (customise_checks N rank G C ∷ check11 (size N) from to ∷ [])

-- what is met from one position to another, by the lists as they are
unfoldable pub listed_way : (N : Net) (G : Graph) (C : EdgeCosts) (s t : ℕ) → List Event
unfolding met linked held road_between
listed_way N G C = met (size N) (linked G) (held G C) (road_between N) (arc_between N)

-- "then 12 and 13"; "The reply is distance and number of arcs; the route list holds arc numbers in driving order"; "after 12 or 13 every
-- route place is 4,294,967,295"
unfoldable pub driven_leaves : (way : List Event) (d room : ℕ) → RouteLeaves
unfolding trouble driven route_list
driven_leaves way d room =
    cond (eqb (trouble room way) 0)
    (route_left (route_list (driven way) room) (drive d (length (driven way))))
    (route_left (replicate room closed) (refused (trouble room way) 0))

-- "For "none": no arcs, all places filled so"
unfoldable pub route_leaves : (N : Net) (rank : List ℕ) (G : Graph) (C : EdgeCosts) (from to : ℕ) (route : List ℕ) → RouteLeaves
unfolding route_checks listed_distance listed_way driven_leaves
route_leaves N rank G C from to route =
    let d = distance_between (size N) rank G C from to in
    unless (route_checks N rank G C from to) (route_left route)
    (cond (eqb d none) (route_left (replicate (length route) closed) no_walk)
    (driven_leaves (listed_way N G C (get_or rank from 0) (get_or rank to 0)) d (length route)))
