-- "The net of the examples": what document 01 marks P, all under one statement over one list; and, as a second list, its other small examples
-- and some of our own on what its sentences and those of document 02 say. Each is asked of the calls' own definitions. Assumes nothing.
use Rattle.std.specs.Prelude.{ℕ, suc, ◌≡◌, Bool, true, false, List, [], ◌∷◌, ◌++◌, length, replicate}
use Rattle.rules.specs.declared.Direction.{Direction}
use Rattle.rules.specs.declared.Direction.TheVariants.{Up, Down}
use Rattle.rules.specs.Words.{tabulate}
use Rattle.rules.specs.Costs.{closed, sum_of, cost_of}
use Rattle.rules.specs.Replies.{refused, edges, done, far, drive, no_walk, looked}
use Rattle.rules.specs.Net.{Net, net, with_cost, rank_list}
use Rattle.rules.specs.Graph.{graph}
use Rattle.rules.specs.Hierarchy.{edge_costs, is_hierarchy, linked, held, along}
use Rattle.rules.specs.Sweep.{reach}
use Rattle.rules.specs.Calls.{BuildLeaves, CustomiseLeaves, ChangeLeaves, SweepLeaves, RouteLeaves, build_leaves, customise_leaves, change_leaves, distance_leaves, or_closed, sweep_leaves, route_leaves, build_left, customise_left, change_left, distance_left, sweep_left, route_left}

-- what stands in the rooms before a call: no call may rely on it
abbrev pub stale : ℕ → List ℕ
stale n = replicate n 77

-- build into a room of heads
unfoldable pub built_by : (N : Net) (room : ℕ) → BuildLeaves
unfolding build_leaves
built_by N room =
    build_leaves N.tails N.heads N.order (stale (length N.order))
    (graph (stale (suc (length N.order))) (stale room))

-- build, then customise
unfoldable pub customised_by : (N : Net) (room : ℕ) → CustomiseLeaves
unfolding built_by customise_leaves
customised_by N room =
    let b = built_by N room in
    customise_leaves N b.rank b.rows (edge_costs (stale room) (stale room))

-- what an example claims of a net, with rooms of so many places
pub data Claim : Type 0 where
  has_rows : (N : Net) (room e : ℕ) (first heads : List ℕ) → Claim
  has_costs : (N : Net) (room : ℕ) (up down : List ℕ) → Claim
  goes : (N : Net) (room from to d : ℕ) (arcs : List ℕ) → Claim
  nowhere : (N : Net) (room from to : ℕ) → Claim
  adds_up : (a b c : ℕ) → Claim
  tested : (order rank first heads : List ℕ) (b : Bool) → Claim
  builds : (N : Net) (rank first heads : List ℕ) (left : BuildLeaves) → Claim
  customises : (N : Net) (rank first heads up down : List ℕ) (left : CustomiseLeaves) → Claim
  drives_on : (N M : Net) (room from to places : ℕ) (left : RouteLeaves) → Claim
  lists : (N : Net) (room : ℕ) (d : Direction) (j : ℕ) (distances : List ℕ) → Claim
  changes_to : (N M : Net) (room arc cost t : ℕ) → Claim
  changes : (N : Net) (rank first heads up down : List ℕ) (arc cost : ℕ) (left : ChangeLeaves) → Claim
  sweeps : (order rank first heads up down : List ℕ) (d : Direction) (j places : ℕ) (left : SweepLeaves) → Claim

-- the claims' meaning. E, first and heads; the up and the down list; from one junction to another a distance and the arcs of the route, by
-- distance and by route, with a place more than the route needs; no walk; the sum of two costs;
-- whether an order, a rank list, first and heads are a hierarchy; what build and customise leave in any rooms; what route leaves in a room,
-- where one net was customised and another is asked; what a sweep lists, by the call and, the order being 0, 1, 2 .., by the document's
-- procedure; what a sweep leaves in a list of so many places, by any lists; that one net, customised, becomes another with its costs as customised
-- when an arc gets a new cost, and how many triangles are told; what change leaves of any lists
abbrev pub Holds : Claim → Type 0
Holds (has_rows N room e first heads) = built_by N room ≡ build_left (rank_list N.order) (graph first heads) (edges e)
Holds (has_costs N room up down) = customised_by N room ≡ customise_left (edge_costs up down) done
Holds (goes N room from to d arcs) =
    let b = built_by N room in
    let c = customised_by N room in
    (distance_leaves N.order b.rank b.rows c.costs from to ≡ distance_left (far d))
    × (route_leaves N b.rank b.rows c.costs from to (stale (suc (length arcs)))
    ≡ route_left (arcs ++ (closed ∷ [])) (drive d (length arcs)))
Holds (nowhere N room from to) =
    let b = built_by N room in
    let c = customised_by N room in
    (distance_leaves N.order b.rank b.rows c.costs from to ≡ distance_left no_walk)
    × (route_leaves N b.rank b.rows c.costs from to (stale 2)
    ≡ route_left (closed ∷ closed ∷ []) no_walk)
Holds (adds_up a b c) = sum_of (cost_of a) (cost_of b) ≡ cost_of c
Holds (tested order rank first heads b) = is_hierarchy order rank (graph first heads) ≡ b
Holds (builds N rank first heads left) = build_leaves N.tails N.heads N.order rank (graph first heads) ≡ left
Holds (customises N rank first heads up down left) =
    customise_leaves N rank (graph first heads) (edge_costs up down) ≡ left
Holds (drives_on N M room from to places left) =
    let b = built_by N room in
    let c = customised_by N room in
    route_leaves M b.rank b.rows c.costs from to (stale places) ≡ left
Holds (lists N room d j distances) =
    let b = built_by N room in
    let c = customised_by N room in
    let n = length N.order in
    (sweep_leaves N.order b.rank b.rows c.costs d j (stale n) ≡ sweep_left distances done)
    × (tabulate (λ p. or_closed (reach n (linked b.rows) (along d (held b.rows c.costs)) j p)) 0 n ≡ distances)
Holds (changes_to N M room arc cost t) =
    let b = built_by N room in
    let c = customised_by N room in
    change_leaves N b.rank b.rows c.costs arc cost ≡ change_left M.costs (customised_by M room).costs (looked t)
Holds (changes N rank first heads up down arc cost left) =
    change_leaves N rank (graph first heads) (edge_costs up down) arc cost ≡ left
Holds (sweeps order rank first heads up down d j places left) =
    sweep_leaves order rank (graph first heads) (edge_costs up down) d j (stale places) ≡ left

-- every claim of a list holds
abbrev pub AllHold : List Claim → Type 0
AllHold [] = Unit {0}
AllHold (c ∷ cs) = Holds c × AllHold cs

-- "N4: arcs 0: 1 to 0, 3; 1: 0 to 2, 4; 2: 2 to 3, 2; 3: 3 to 1, 6; 4: 1 to 3, 20. Order 0, 1, 2, 3."
abbrev pub n4 : Net
n4 = net (1 ∷ 0 ∷ 2 ∷ 3 ∷ 1 ∷ []) (0 ∷ 2 ∷ 3 ∷ 1 ∷ 3 ∷ []) (3 ∷ 4 ∷ 2 ∷ 6 ∷ 20 ∷ []) (0 ∷ 1 ∷ 2 ∷ 3 ∷ [])

-- "arc 2 CLOSED"
abbrev pub n4_shut : Net
n4_shut = net n4.tails n4.heads (3 ∷ 4 ∷ closed ∷ 6 ∷ 20 ∷ []) n4.order

-- "as P7 with a sixth arc, 1 to 3, cost 30"
abbrev pub n4_bypass : Net
n4_bypass =
    net (n4_shut.tails ++ (1 ∷ [])) (n4_shut.heads ++ (3 ∷ [])) (n4_shut.costs ++ (30 ∷ [])) n4_shut.order

-- "order 3, 2, 1, 0"
abbrev pub n4_turned : Net
n4_turned = net n4.tails n4.heads n4.costs (3 ∷ 2 ∷ 1 ∷ 0 ∷ [])

-- "star 0 to 1, 0 to 2, 0 to 3", in an order
abbrev pub star : List ℕ → Net
star order = net (0 ∷ 0 ∷ 0 ∷ []) (1 ∷ 2 ∷ 3 ∷ []) (1 ∷ 1 ∷ 1 ∷ []) order

-- N4 with another cost of arc 2
abbrev pub n4_with : ℕ → Net
n4_with cost = net n4.tails n4.heads (3 ∷ 4 ∷ cost ∷ 6 ∷ 20 ∷ []) n4.order

-- three junctions, and roads only between the first two, both ways
abbrev pub between : Net
between = net (1 ∷ 0 ∷ []) (0 ∷ 1 ∷ []) (5 ∷ 9 ∷ []) (0 ∷ 1 ∷ 2 ∷ [])

-- one arc, 0 to 1, of a cost
abbrev pub one_arc : ℕ → Net
one_arc cost = net (0 ∷ []) (1 ∷ []) (cost ∷ []) (0 ∷ 1 ∷ [])

-- P1 to P10 of document 01
unfoldable pub paper : List Claim
paper =
    -- P1
    has_rows n4 6 5 (0 ∷ 2 ∷ 4 ∷ 5 ∷ 5 ∷ []) (1 ∷ 2 ∷ 2 ∷ 3 ∷ 3 ∷ 0 ∷ [])
    -- P2
    ∷ has_costs n4 6 (closed ∷ 4 ∷ 7 ∷ 20 ∷ 2 ∷ closed ∷ []) (3 ∷ closed ∷ closed ∷ 6 ∷ 13 ∷ closed ∷ [])
    -- P3, P4, P5, P6
    ∷ goes n4 6 1 3 9 (0 ∷ 1 ∷ 2 ∷ [])
    ∷ goes n4 6 0 1 12 (1 ∷ 2 ∷ 3 ∷ [])
    ∷ goes n4 6 2 0 11 (2 ∷ 3 ∷ 0 ∷ [])
    ∷ goes n4 6 0 0 0 []
    -- P7
    ∷ nowhere n4_shut 6 0 1
    ∷ goes n4_shut 6 1 3 20 (4 ∷ [])
    -- P8
    ∷ goes n4_bypass 6 1 3 30 (5 ∷ [])
    -- P9
    ∷ has_rows n4_turned 6 5 (0 ∷ 2 ∷ 4 ∷ 5 ∷ 5 ∷ []) (1 ∷ 2 ∷ 2 ∷ 3 ∷ 3 ∷ 0 ∷ [])
    ∷ goes n4_turned 6 1 3 9 (0 ∷ 1 ∷ 2 ∷ [])
    -- P10
    ∷ has_rows (star (0 ∷ 1 ∷ 2 ∷ 3 ∷ [])) 7 6 (0 ∷ 3 ∷ 5 ∷ 6 ∷ 6 ∷ []) (1 ∷ 2 ∷ 3 ∷ 2 ∷ 3 ∷ 3 ∷ 0 ∷ [])
    ∷ has_rows (star (1 ∷ 2 ∷ 3 ∷ 0 ∷ [])) 4 3 (0 ∷ 1 ∷ 2 ∷ 3 ∷ 3 ∷ []) (3 ∷ 3 ∷ 3 ∷ 0 ∷ [])
    ∷ []

-- Our own, for the sentences that no P example tells apart, and document 01's other small examples
unfoldable pub ours : List Claim
ours =
    -- "the lowest meeting position": 0 to 1 meets at 1 and at 2, at the same cost
    goes (net (0 ∷ 0 ∷ 2 ∷ []) (1 ∷ 2 ∷ 1 ∷ []) (2 ∷ 1 ∷ 1 ∷ []) (0 ∷ 1 ∷ 2 ∷ [])) 4 0 1 2 (0 ∷ [])
    -- "the lowest q": 2 has its label from 0 and from 1, at the same cost
    ∷ goes (net (0 ∷ 1 ∷ 0 ∷ []) (1 ∷ 2 ∷ 2 ∷ []) (1 ∷ 1 ∷ 2 ∷ []) (0 ∷ 1 ∷ 2 ∷ [])) 4 0 2 2 (2 ∷ [])
    -- "the lowest z": 2 to 3 opens over 0 and over 1, at the same cost
    ∷ goes (net (2 ∷ 0 ∷ 2 ∷ 1 ∷ []) (0 ∷ 3 ∷ 1 ∷ 3 ∷ []) (1 ∷ 1 ∷ 1 ∷ 1 ∷ []) (0 ∷ 1 ∷ 2 ∷ 3 ∷ [])) 6 2 3 2 (0 ∷ 1 ∷ [])
    -- "taken as the arc in force in its direction if that arc's cost is w; otherwise": 1 to 2 is an arc and opens over 0, at the same cost
    ∷ goes (net (1 ∷ 0 ∷ 1 ∷ []) (0 ∷ 2 ∷ 2 ∷ []) (1 ∷ 1 ∷ 2 ∷ []) (0 ∷ 1 ∷ 2 ∷ [])) 4 1 2 2 (2 ∷ [])
    -- "some arc, of any cost": a closed arc makes an edge
    ∷ has_rows (net (0 ∷ []) (1 ∷ []) (closed ∷ []) (0 ∷ 1 ∷ [])) 2 1 (0 ∷ 1 ∷ 1 ∷ []) (1 ∷ 0 ∷ [])
    -- "even when the later is closed": the later listing hides the earlier
    ∷ nowhere (net (0 ∷ 0 ∷ []) (1 ∷ 1 ∷ []) (5 ∷ closed ∷ []) (0 ∷ 1 ∷ [])) 2 0 1
    -- "A sum with CLOSED is CLOSED"
    ∷ adds_up closed 3 closed
    ∷ adds_up 3 4 7
    -- "join all its higher neighbours to one another", those joined on the way too: 0 joins 1 and 2, then 1 joins 2 and 3
    ∷ has_rows (net (0 ∷ 0 ∷ 1 ∷ []) (1 ∷ 2 ∷ 3 ∷ []) (1 ∷ 1 ∷ 1 ∷ []) (0 ∷ 1 ∷ 2 ∷ 3 ∷ [])) 6 5 (0 ∷ 2 ∷ 4 ∷ 5 ∷ 5 ∷ []) (1 ∷ 2 ∷ 2 ∷ 3 ∷ 3 ∷ 0 ∷ [])
    -- "The rank list is its inverse": an order that is not its own inverse
    ∷ goes (star (1 ∷ 2 ∷ 3 ∷ 0 ∷ [])) 4 0 1 1 (0 ∷ [])
    -- "A set of lists is a hierarchy when": one that is, with a place of heads past first[n] that nobody looks at
    ∷ tested (2 ∷ 0 ∷ 1 ∷ []) (1 ∷ 2 ∷ 0 ∷ []) (0 ∷ 2 ∷ 3 ∷ 3 ∷ []) (1 ∷ 2 ∷ 2 ∷ 9 ∷ []) true
    -- "the rank list has length n and inverts the order"
    ∷ tested (2 ∷ 0 ∷ 1 ∷ []) (1 ∷ 2 ∷ 0 ∷ 0 ∷ []) (0 ∷ 2 ∷ 3 ∷ 3 ∷ []) (1 ∷ 2 ∷ 2 ∷ []) false
    ∷ tested (2 ∷ 0 ∷ 1 ∷ []) (2 ∷ 0 ∷ 1 ∷ []) (0 ∷ 2 ∷ 3 ∷ 3 ∷ []) (1 ∷ 2 ∷ 2 ∷ []) false
    -- "first has length n + 1, starts with 0 and never falls"
    ∷ tested (0 ∷ 1 ∷ 2 ∷ []) (0 ∷ 1 ∷ 2 ∷ []) (0 ∷ 2 ∷ 3 ∷ 3 ∷ 3 ∷ []) (1 ∷ 2 ∷ 2 ∷ []) false
    ∷ tested (0 ∷ 1 ∷ 2 ∷ []) (0 ∷ 1 ∷ 2 ∷ []) (1 ∷ 2 ∷ 3 ∷ 3 ∷ []) (1 ∷ 2 ∷ 2 ∷ []) false
    ∷ tested (0 ∷ 1 ∷ 2 ∷ []) (0 ∷ 1 ∷ 2 ∷ []) (0 ∷ 1 ∷ 0 ∷ 0 ∷ []) (1 ∷ []) false
    -- "first[n] is at most the length of heads"
    ∷ tested (0 ∷ 1 ∷ 2 ∷ []) (0 ∷ 1 ∷ 2 ∷ []) (0 ∷ 1 ∷ 2 ∷ 2 ∷ []) (1 ∷ []) false
    -- "each row is strictly ascending, above its position and below n"
    ∷ tested (0 ∷ 1 ∷ 2 ∷ []) (0 ∷ 1 ∷ 2 ∷ []) (0 ∷ 3 ∷ 4 ∷ 4 ∷ []) (1 ∷ 2 ∷ 2 ∷ 2 ∷ []) false
    ∷ tested (0 ∷ 1 ∷ 2 ∷ []) (0 ∷ 1 ∷ 2 ∷ []) (0 ∷ 0 ∷ 1 ∷ 1 ∷ []) (1 ∷ []) false
    ∷ tested (0 ∷ 1 ∷ 2 ∷ []) (0 ∷ 1 ∷ 2 ∷ []) (0 ∷ 1 ∷ 1 ∷ 1 ∷ []) (3 ∷ []) false
    -- "every entry of a row but its first stands in the parent's row too"
    ∷ tested (0 ∷ 1 ∷ 2 ∷ []) (0 ∷ 1 ∷ 2 ∷ []) (0 ∷ 2 ∷ 2 ∷ 2 ∷ []) (1 ∷ 2 ∷ []) false
    -- "n = 1, no arcs: first 0 0, E = 0, accepted. n = 0: 1."
    ∷ builds (net [] [] [] (0 ∷ [])) (7 ∷ []) (7 ∷ 7 ∷ []) [] (build_left (0 ∷ []) (graph (0 ∷ 0 ∷ []) []) (edges 0))
    ∷ builds (net [] [] [] []) (7 ∷ []) (7 ∷ 7 ∷ []) [] (build_left (7 ∷ []) (graph (7 ∷ 7 ∷ []) []) (refused 1 0))
    -- "Heads room 4 for N4: 6", and "after 6 rank, first and heads are all 0"
    ∷ builds n4 (stale 4) (stale 5) (stale 4)
    (build_left (0 ∷ 0 ∷ 0 ∷ 0 ∷ []) (graph (0 ∷ 0 ∷ 0 ∷ 0 ∷ 0 ∷ []) (0 ∷ 0 ∷ 0 ∷ 0 ∷ [])) (refused 6 0))
    -- "an order entry is n or more, or was seen earlier": the later position, and the lists stay unchanged
    ∷ builds (net [] [] [] (1 ∷ 0 ∷ 1 ∷ [])) (7 ∷ 7 ∷ 7 ∷ []) (7 ∷ 7 ∷ 7 ∷ 7 ∷ []) [] (build_left (7 ∷ 7 ∷ 7 ∷ []) (graph (7 ∷ 7 ∷ 7 ∷ 7 ∷ []) []) (refused 4 2))
    -- "Cost 500,000 accepted, 500,001: 9, 0: 9"; CLOSED is accepted
    ∷ customises (one_arc 500000) (0 ∷ 1 ∷ []) (0 ∷ 1 ∷ 1 ∷ []) (1 ∷ []) (7 ∷ []) (7 ∷ []) (customise_left (edge_costs (500000 ∷ []) (closed ∷ [])) done)
    ∷ customises (one_arc 500001) (0 ∷ 1 ∷ []) (0 ∷ 1 ∷ 1 ∷ []) (1 ∷ []) (7 ∷ []) (7 ∷ []) (customise_left (edge_costs (7 ∷ []) (7 ∷ [])) (refused 9 0))
    ∷ customises (one_arc 0) (0 ∷ 1 ∷ []) (0 ∷ 1 ∷ 1 ∷ []) (1 ∷ []) (7 ∷ []) (7 ∷ []) (customise_left (edge_costs (7 ∷ []) (7 ∷ [])) (refused 9 0))
    ∷ customises (one_arc closed) (0 ∷ 1 ∷ []) (0 ∷ 1 ∷ 1 ∷ []) (1 ∷ []) (7 ∷ []) (7 ∷ []) (customise_left (edge_costs (closed ∷ []) (closed ∷ [])) done)
    -- "Customise: 1, 2, 3, 4, 7, 8, 9, 10": an arc without an edge and of cost 0, in lists too short: 8
    ∷ customises (one_arc 0) (0 ∷ 1 ∷ []) (0 ∷ 0 ∷ 0 ∷ []) [] [] [] (customise_left (edge_costs [] []) (refused 8 0))
    -- "N4 customised, then arc 2's cost set to 3 with nothing redone, route 1 to 3: room 3 or 2 gives 13, room 1 gives 12"
    ∷ drives_on n4 (n4_with 3) 6 1 3 3 (route_left (closed ∷ closed ∷ closed ∷ []) (refused 13 0))
    ∷ drives_on n4 (n4_with 3) 6 1 3 2 (route_left (closed ∷ closed ∷ []) (refused 13 0))
    ∷ drives_on n4 (n4_with 3) 6 1 3 1 (route_left (closed ∷ []) (refused 12 0))
    -- an arc cheaper than the piece does not fit either
    ∷ drives_on n4 (n4_with 1) 6 1 3 3 (route_left (closed ∷ closed ∷ closed ∷ []) (refused 13 0))
    -- "N4 as customised, room 2: 12"
    ∷ drives_on n4 n4 6 1 3 2 (route_left (closed ∷ closed ∷ []) (refused 12 0))
    -- "holds, for each junction, what the distance call says": P4's 12 from 0; "the mirror sweep": P5's 11 to 0
    ∷ lists n4 6 Up 0 (0 ∷ 12 ∷ 4 ∷ 6 ∷ [])
    ∷ lists n4 6 Down 0 (0 ∷ 3 ∷ 11 ∷ 9 ∷ [])
    -- "CLOSED for none": P7's from 0
    ∷ lists n4_shut 6 Up 0 (0 ∷ closed ∷ 4 ∷ closed ∷ [])
    -- three junctions in a row, 2 first, then 0, then 1: "16 for the lowest junction whose distance isn't below CLOSED", by junction, not by
    -- position; "after 16 the list is all CLOSED"
    ∷ sweeps (2 ∷ 0 ∷ 1 ∷ []) (1 ∷ 2 ∷ 0 ∷ []) (0 ∷ 1 ∷ 2 ∷ 2 ∷ []) (1 ∷ 2 ∷ []) (4294967294 ∷ 0 ∷ []) (closed ∷ closed ∷ []) Up 2 3 (sweep_left (4294967294 ∷ 4294967294 ∷ 0 ∷ []) done)
    ∷ sweeps (2 ∷ 0 ∷ 1 ∷ []) (1 ∷ 2 ∷ 0 ∷ []) (0 ∷ 1 ∷ 2 ∷ 2 ∷ []) (1 ∷ 2 ∷ []) (4294967294 ∷ 1 ∷ []) (closed ∷ closed ∷ []) Up 2 3 (sweep_left (closed ∷ closed ∷ closed ∷ []) (refused 16 1))
    ∷ sweeps (2 ∷ 0 ∷ 1 ∷ []) (1 ∷ 2 ∷ 0 ∷ []) (0 ∷ 1 ∷ 2 ∷ 2 ∷ []) (1 ∷ 2 ∷ []) (closed ∷ closed ∷ []) (2 ∷ 4294967294 ∷ []) Down 2 3 (sweep_left (closed ∷ closed ∷ closed ∷ []) (refused 16 1))
    -- "then 15 if the distance list isn't n long", before 16, after 11
    ∷ sweeps (2 ∷ 0 ∷ 1 ∷ []) (1 ∷ 2 ∷ 0 ∷ []) (0 ∷ 1 ∷ 2 ∷ 2 ∷ []) (1 ∷ 2 ∷ []) (4294967294 ∷ 1 ∷ []) (closed ∷ closed ∷ []) Up 2 4 (sweep_left (stale 4) (refused 15 0))
    ∷ sweeps (2 ∷ 0 ∷ 1 ∷ []) (1 ∷ 2 ∷ 0 ∷ []) (0 ∷ 1 ∷ 2 ∷ 2 ∷ []) (1 ∷ 2 ∷ []) (4294967294 ∷ 1 ∷ []) (closed ∷ closed ∷ []) Up 3 2 (sweep_left (stale 2) (refused 11 0))
    -- "A driver shuts a road": arc 2 closed makes P2's costs P7's, and opened again the other way round; of the edges above it one has a triangle
    ∷ changes_to n4 n4_shut 6 2 closed 1
    ∷ changes_to n4_shut n4 6 2 2 1
    -- no cost in force changed: an arc that a later one hides, and a cost that stays
    ∷ changes_to n4_bypass (with_cost n4_bypass 4 25) 6 4 25 0
    ∷ changes_to n4 n4 6 2 2 0
    -- lists that nobody customised: both costs "by document 01's rule from those then standing, a sum of CLOSED or more being CLOSED", the costs
    -- between 0 and 2 and the places past E left alone
    ∷ changes between (0 ∷ 1 ∷ 2 ∷ []) (0 ∷ 2 ∷ 3 ∷ 3 ∷ []) (1 ∷ 2 ∷ 2 ∷ []) (6 ∷ 4294967290 ∷ 8 ∷ 77 ∷ []) (5 ∷ 1 ∷ 2 ∷ 78 ∷ []) 0 7
    (change_left (7 ∷ 9 ∷ []) (edge_costs (9 ∷ 4294967290 ∷ closed ∷ 77 ∷ []) (7 ∷ 1 ∷ 10 ∷ 78 ∷ [])) (looked 1))
    -- where both costs of the arc's edge stand so already, "an edge whose up or down cost changed" is none, and the one above it stays
    ∷ changes between (0 ∷ 1 ∷ 2 ∷ []) (0 ∷ 2 ∷ 3 ∷ 3 ∷ []) (1 ∷ 2 ∷ 2 ∷ []) (9 ∷ 4294967290 ∷ 8 ∷ []) (7 ∷ 1 ∷ 2 ∷ []) 0 7
    (change_left (7 ∷ 9 ∷ []) (edge_costs (9 ∷ 4294967290 ∷ 8 ∷ []) (7 ∷ 1 ∷ 2 ∷ [])) (looked 0))
    -- "customise's on the lists as they stand, then 17 for an unlisted arc number, then 9 for the new cost (place the arc)"
    ∷ changes (one_arc 0) (0 ∷ 1 ∷ []) (0 ∷ 1 ∷ 1 ∷ []) (1 ∷ []) (7 ∷ []) (8 ∷ []) 1 0 (change_left (0 ∷ []) (edge_costs (7 ∷ []) (8 ∷ [])) (refused 9 0))
    ∷ changes (one_arc 5) (0 ∷ 1 ∷ []) (0 ∷ 1 ∷ 1 ∷ []) (1 ∷ []) (7 ∷ []) (8 ∷ []) 1 0 (change_left (5 ∷ []) (edge_costs (7 ∷ []) (8 ∷ [])) (refused 17 0))
    ∷ changes between (0 ∷ 1 ∷ 2 ∷ []) (0 ∷ 2 ∷ 3 ∷ 3 ∷ []) (1 ∷ 2 ∷ 2 ∷ []) (stale 3) (stale 3) 1 500001
    (change_left (5 ∷ 9 ∷ []) (edge_costs (stale 3) (stale 3)) (refused 9 1))
    ∷ []
