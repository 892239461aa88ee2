-- Demand 3: "For any accepted roads, order, graph and costs as customising left them: the distance told is the least cost of any walk along
-- open roads, "none" exactly if there is none; the route is such a walk, adds up, and passes no junction twice." And so each distance that a
-- sweep lists. What holds whatever the lists hold stands at the end.
-- Everything that the statement names is defined here or in `rules`. It is proved in proofs/Demand3Holds.antt. Assumes nothing.
use Rattle.std.specs.Prelude.{ℕ, suc, ◌+◌, ◌≤◌, ◌<◌, ◌≡◌, Bool, true, not, ◌&&◌, List, [], ◌∷◌, T, eqb, ltb, length, get_or}
use Rattle.rules.specs.declared.Direction.{Direction}
use Rattle.rules.specs.Words.{has}
use Rattle.rules.specs.Costs.{closed}
use Rattle.rules.specs.Replies.{Reply, refused, edges, done, far, drive, no_walk, looked}
use Rattle.rules.specs.Net.{Net, size, arcs, tail, head, arc_cost, in_force}
use Rattle.rules.specs.Route.{route_list}
use Rattle.rules.specs.Calls.{customise_leaves, customise_left, listed_distance, distance_leaves, SweepLeaves, sweep_leaves, RouteLeaves, route_leaves}
use Rattle.rules.specs.Graph.{Graph}
use Rattle.rules.specs.Hierarchy.{EdgeCosts, linked, held, along}
use Rattle.rules.specs.Sweep.{reach}

-- ---- walks along open roads

-- the arcs are listed, in force, and lead from one junction to another, end to end
unfoldable pub is_walk : (N : Net) (from : ℕ) (way : List ℕ) (to : ℕ) → Bool
is_walk N from [] to = eqb from to
is_walk N from (i ∷ is) to = ltb i (arcs N) && in_force N i && eqb (tail N i) from && is_walk N (head N i) is to

-- what the arcs cost together
unfoldable pub walk_cost : (N : Net) (way : List ℕ) → ℕ
walk_cost N [] = 0
walk_cost N (i ∷ is) = arc_cost N i + walk_cost N is

-- the junctions that a walk passes, its ends among them
unfoldable pub passed : (N : Net) (from : ℕ) (way : List ℕ) → List ℕ
passed N from [] = from ∷ []
passed N from (i ∷ is) = from ∷ passed N (head N i) is

-- nothing stands twice in the list
unfoldable pub none_twice : List ℕ → Bool
unfolding has
none_twice [] = true
none_twice (x ∷ xs) = not (has xs x) && none_twice xs

-- d is the cost of some walk, and of no walk less
pub record LeastWalk (N : Net) (from to d : ℕ) : Type 0 where
  pub way : List ℕ
  pub walks : T (is_walk N from way to)
  pub costs : walk_cost N way ≡ d
  pub least : (other : List ℕ) → T (is_walk N from other to) → d ≤ walk_cost N other

-- there is no walk
pub record NoWalk (N : Net) (from to : ℕ) : Type 0 where
  pub none : (other : List ℕ) → T (is_walk N from other to) → ⊥

-- ---- what the two questions answer

-- the distance told is the least cost of any walk; "none" is told only if there is no walk; nothing else is told
abbrev pub TrueDistance : (N : Net) (from to : ℕ) (reply : Reply) → Type 0
TrueDistance N from to (far d) = LeastWalk N from to d
TrueDistance N from to no_walk = NoWalk N from to
TrueDistance N from to (refused number place) = ⊥
TrueDistance N from to (edges e) = ⊥
TrueDistance N from to done = ⊥
TrueDistance N from to (drive d k) = ⊥
TrueDistance N from to (looked t) = ⊥

-- the route list begins with a walk of k arcs that costs d, passes no junction twice and is the least; the other places are filled;
-- it has at most n - 1 arcs
pub record TrueRoute (N : Net) (from to d k : ℕ) (route : List ℕ) : Type 0 where
  pub way : List ℕ
  pub walks : T (is_walk N from way to)
  pub costs : walk_cost N way ≡ d
  pub least : (other : List ℕ) → T (is_walk N from other to) → d ≤ walk_cost N other
  pub once : T (none_twice (passed N from way))
  pub count : length way ≡ k
  pub listed : route ≡ route_list way (length route)
  pub short : k < size N

-- the route told is such a walk; "none" only if there is no walk; refused only by 12, with fewer than n - 1 places
abbrev pub TrueAnswer : (N : Net) (from to room : ℕ) (route : List ℕ) (reply : Reply) → Type 0
TrueAnswer N from to room route (drive d k) = TrueRoute N from to d k route
TrueAnswer N from to room route no_walk = NoWalk N from to
TrueAnswer N from to room route (refused number place) = (number ≡ 12) × (suc room < size N)
TrueAnswer N from to room route (edges e) = ⊥
TrueAnswer N from to room route done = ⊥
TrueAnswer N from to room route (far d) = ⊥
TrueAnswer N from to room route (looked t) = ⊥

-- ---- what a sweep lists

-- the entry for junction x of a list about junction j is of two junctions: from j to x, or, for the mirror, from x to j
abbrev pub start_by : (d : Direction) (j x : ℕ) → ℕ
start_by d j x = along d (λ a b. a) j x

abbrev pub target_by : (d : Direction) (j x : ℕ) → ℕ
target_by d j x = along d (λ a b. b) j x

-- an entry is the least cost of any walk, and CLOSED exactly if there is none
pub data TrueEntry (N : Net) (from to entry : ℕ) : Type 0 where
  leads : entry < closed → LeastWalk N from to entry → TrueEntry N from to entry
  shut : entry ≡ closed → NoWalk N from to → TrueEntry N from to entry

-- the list has an entry for each junction, and each is true
pub record TrueList (N : Net) (d : Direction) (j : ℕ) (distances : List ℕ) : Type 0 where
  pub long : length distances ≡ size N
  pub entry : (x : ℕ) → x < size N → TrueEntry N (start_by d j x) (target_by d j x) (get_or distances x 0)

-- ---- the statement

-- the roads, the order and the graph were accepted by customise, and up and down hold what it left
pub record AsCustomised (N : Net) (rank : List ℕ) (G : Graph) (C : EdgeCosts) : Type 0 where
  pub before : EdgeCosts
  pub leaves : customise_leaves N rank G before ≡ customise_left C done

abbrev pub DistanceRight : Type 0
DistanceRight =
    (N : Net) (rank : List ℕ) (G : Graph) (C : EdgeCosts) → AsCustomised N rank G C
    → (from to : ℕ) → from < size N → to < size N
    → TrueDistance N from to (distance_leaves N.order rank G C from to).reply

-- a list of n places is filled, for "16 .. (never with customised costs)"
abbrev pub SweepRight : Type 0
SweepRight =
    (N : Net) (rank : List ℕ) (G : Graph) (C : EdgeCosts) → AsCustomised N rank G C
    → (d : Direction) (j : ℕ) → j < size N → (lent : List ℕ) → length lent ≡ size N
    → let left : SweepLeaves = sweep_leaves N.order rank G C d j lent in
    (left.reply ≡ done) × TrueList N d j left.distances

abbrev pub RouteRight : Type 0
RouteRight =
    (N : Net) (rank : List ℕ) (G : Graph) (C : EdgeCosts) → AsCustomised N rank G C
    → (from to : ℕ) → from < size N → to < size N → (room : List ℕ)
    → let left : RouteLeaves = route_leaves N rank G C from to room in
    TrueAnswer N from to (length room) left.route left.reply

-- ---- whatever the lists hold

-- arcs that route hands back, on any lists at all, are in force, lead end to end from start to target and cost what it tells
pub record SomeWalk (N : Net) (from to d k : ℕ) (route : List ℕ) : Type 0 where
  pub way : List ℕ
  pub walks : T (is_walk N from way to)
  pub costs : walk_cost N way ≡ d
  pub count : length way ≡ k
  pub listed : route ≡ route_list way (length route)

abbrev pub RouteOnAnyLists : Type 0
RouteOnAnyLists =
    (N : Net) (rank : List ℕ) (G : Graph) (C : EdgeCosts) (from to : ℕ) (room : List ℕ) (d k : ℕ)
    → (route_leaves N rank G C from to room).reply ≡ drive d k
    → SomeWalk N from to d k (route_leaves N rank G C from to room).route

-- the document's procedure, labels upward and then each position from the highest down, finds the distance by the lists as they are
abbrev pub SweepOnAnyLists : Type 0
SweepOnAnyLists =
    (n : ℕ) (G : Graph) (C : EdgeCosts) (d : Direction) (s p : ℕ)
    → reach n (linked G) (along d (held G C)) s p ≡ along d (listed_distance n G C) s p

-- an entry says what distance replies: the distance, "CLOSED for none"
abbrev pub Says : (entry : ℕ) (reply : Reply) → Type 0
Says entry (far d) = entry ≡ d
Says entry no_walk = entry ≡ closed
Says entry (refused number place) = ⊥
Says entry (edges e) = ⊥
Says entry done = ⊥
Says entry (drive d k) = ⊥
Says entry (looked t) = ⊥

-- "The filled list .. holds, for each junction, what the distance call says": a list that a sweep filled has n entries, and each says it
abbrev pub SweepSaysDistance : Type 0
SweepSaysDistance =
    (order rank : List ℕ) (G : Graph) (C : EdgeCosts) (d : Direction) (j : ℕ) (lent : List ℕ)
    → let left : SweepLeaves = sweep_leaves order rank G C d j lent in
    left.reply ≡ done
    → (length left.distances ≡ length order)
    × ((x : ℕ) → x < length order
    → Says (get_or left.distances x 0) (distance_leaves order rank G C (start_by d j x) (target_by d j x)).reply)
