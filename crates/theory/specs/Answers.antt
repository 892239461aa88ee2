-- The calls one after the other, in words of their own answers. With lists that customise left when it answered Ok, distance, the sweeps and
-- route tell the least walk. With what build left when it answered Ok, customise answers Ok, and a question is refused only for its
-- junctions or for the length of the list that it is lent. Everything that the statements name is defined here, in Demand3 or in `rules`. They are proved in
-- proofs/AnswersHold.antt. Assumes nothing.
use Rattle.std.specs.Prelude.{ℕ, suc, ◌≤◌, ◌<◌, ◌≡◌, ◌⊎◌, ◌≢◌, false, List, length, Option, Some, None, Result, Ok, Err, ⊤}
use Rattle.rules.specs.declared.Drive.{Drive}
use Rattle.rules.specs.declared.Refusal.{Refusal}
use Rattle.rules.specs.declared.Refusal.TheVariants.{StartOrTarget, RouteRoom, DistanceRoom}
use Rattle.rules.specs.declared.Direction.{Direction}
use Rattle.rules.specs.Replies.{build_reply, fill_reply, distance_reply, route_reply}
use Rattle.rules.specs.Net.{Net, size, arcs, arc_cost}
use Rattle.rules.specs.Graph.{Graph}
use Rattle.rules.specs.Hierarchy.{EdgeCosts, its_e}
use Rattle.rules.specs.Refusals.{unlawful}
use Rattle.rules.specs.Calls.{build_left, build_leaves, customise_left, customise_leaves, distance_left, distance_leaves, sweep_left, sweep_leaves, route_left, route_leaves}
use Rattle.theory.specs.Demand3.{LeastWalk, NoWalk, TrueList, TrueRoute}

-- ---- the promises of the calls, as griezmuld's lib.rt has them

-- build, lent rank₀ and G₀, answered so and left rank and G
abbrev pub Builds : (N : Net) (rank₀ : List ℕ) (G₀ : Graph) (answer : Result ℕ Refusal) (rank : List ℕ) (G : Graph) → Type 0
Builds N rank₀ G₀ answer rank G =
    build_left rank G (build_reply answer) ≡ build_leaves N.tails N.heads N.order rank₀ G₀

-- customise, lent the cost lists C₀, answered so and left C
abbrev pub Customises : (N : Net) (rank : List ℕ) (G : Graph) (C₀ : EdgeCosts) (answer : Result ⊤ Refusal) (C : EdgeCosts) → Type 0
Customises N rank G C₀ answer C = customise_left C (fill_reply answer) ≡ customise_leaves N rank G C₀

-- distance answered so
abbrev pub TellsDistance : (N : Net) (rank : List ℕ) (G : Graph) (C : EdgeCosts) (from to : ℕ) (answer : Result (Option ℕ) Refusal) → Type 0
TellsDistance N rank G C from to answer =
    distance_left (distance_reply answer) ≡ distance_leaves N.order rank G C from to

-- sweep_from, with d Up, or sweep_to, with d Down, lent the list `lent`, answered so and left the list `left`
abbrev pub Sweeps : (N : Net) (rank : List ℕ) (G : Graph) (C : EdgeCosts) (d : Direction) (j : ℕ) (lent : List ℕ) (answer : Result ⊤ Refusal) (left : List ℕ) → Type 0
Sweeps N rank G C d j lent answer left = sweep_left left (fill_reply answer) ≡ sweep_leaves N.order rank G C d j lent

-- route, lent the list `lent`, answered so and left the list `left`
abbrev pub TellsRoute : (N : Net) (rank : List ℕ) (G : Graph) (C : EdgeCosts) (from to : ℕ) (lent : List ℕ) (answer : Result (Option Drive) Refusal) (left : List ℕ) → Type 0
TellsRoute N rank G C from to lent answer left =
    route_left left (route_reply answer) ≡ route_leaves N rank G C from to lent

-- ---- after customise

-- a distance told is the least cost of any walk along open roads, Ok None is answered exactly if there is no walk, and the question is not refused
pub record RightDistance (N : Net) (from to : ℕ) (answer : Result (Option ℕ) Refusal) : Type 0 where
  pub least : (d : ℕ) → answer ≡ Ok (Some d) → LeastWalk N from to d
  pub no_walk : answer ≡ Ok None → NoWalk N from to
  pub no_walk_told : NoWalk N from to → answer ≡ Ok None
  pub taken : (f : Refusal) → answer ≢ Err f

-- a route told is a least walk that passes no junction twice and costs what is told, Ok None is answered exactly if there is no walk, and the
-- question is refused only for a list of fewer than n - 1 places (12)
pub record RightRoute (N : Net) (from to : ℕ) (lent : List ℕ) (answer : Result (Option Drive) Refusal) (left : List ℕ) : Type 0 where
  pub least : (d k : ℕ) → answer ≡ Ok (Some (record { distance = d; arcs = k })) → TrueRoute N from to d k left
  pub no_walk : answer ≡ Ok None → NoWalk N from to
  pub no_walk_told : NoWalk N from to → answer ≡ Ok None
  pub taken : (f : Refusal) → answer ≡ Err f → (f ≡ RouteRoom) × (suc (length lent) < size N)

-- with the lists that customise left when it answered Ok, distance is right about any two junctions of the net
abbrev pub DistanceAfterCustomise : Type 0
DistanceAfterCustomise =
    (N : Net) (rank : List ℕ) (G : Graph) (C₀ C : EdgeCosts) → Customises N rank G C₀ (Ok tt) C
    → (from to : ℕ) → from < size N → to < size N
    → (answer : Result (Option ℕ) Refusal) → TellsDistance N rank G C from to answer
    → RightDistance N from to answer

-- either sweep from or to any junction of the net, lent a list of n places, answers Ok and fills it with true distances
abbrev pub SweepAfterCustomise : Type 0
SweepAfterCustomise =
    (N : Net) (rank : List ℕ) (G : Graph) (C₀ C : EdgeCosts) → Customises N rank G C₀ (Ok tt) C
    → (d : Direction) (j : ℕ) → j < size N
    → (lent : List ℕ) (answer : Result ⊤ Refusal) (left : List ℕ) → length lent ≡ size N → Sweeps N rank G C d j lent answer left
    → (answer ≡ Ok tt) × TrueList N d j left

-- and route is right about any two junctions
abbrev pub RouteAfterCustomise : Type 0
RouteAfterCustomise =
    (N : Net) (rank : List ℕ) (G : Graph) (C₀ C : EdgeCosts) → Customises N rank G C₀ (Ok tt) C
    → (from to : ℕ) → from < size N → to < size N
    → (lent : List ℕ) (answer : Result (Option Drive) Refusal) (left : List ℕ) → TellsRoute N rank G C from to lent answer left
    → RightRoute N from to lent answer left

-- ---- after build

-- there is a cost for each arc, and none that refusal 9 is given for: each is CLOSED, or from 1 to the greatest
pub record Priced (N : Net) : Type 0 where
  pub as_many : length N.costs ≡ arcs N
  pub lawful : (i : ℕ) → i < arcs N → unlawful (arc_cost N i) ≡ false

-- the start or the target is n or more
abbrev pub Outside : (N : Net) (from to : ℕ) → Type 0
Outside N from to = (size N ≤ from) ⊎ (size N ≤ to)

-- the number of edges told is the graph's E; customise answers Ok; and with the lists that it left, distance is refused only for its
-- junctions (11), a sweep only for its junction (11) or for a list that is not n long (15), route only for its junctions (11) or for a list of
-- fewer than n - 1 places (12)
pub record Taken (N : Net) (rank : List ℕ) (G : Graph) (C₀ : EdgeCosts) (e : ℕ) : Type 0 where
  pub edges : its_e N.order G ≡ e
  pub done : (answer : Result ⊤ Refusal) (C : EdgeCosts) → Customises N rank G C₀ answer C → answer ≡ Ok tt
  pub distance_taken : (C : EdgeCosts) → Customises N rank G C₀ (Ok tt) C
      → (from to : ℕ) (answer : Result (Option ℕ) Refusal) → TellsDistance N rank G C from to answer
      → (f : Refusal) → answer ≡ Err f → (f ≡ StartOrTarget) × Outside N from to
  pub sweep_taken : (C : EdgeCosts) → Customises N rank G C₀ (Ok tt) C
      → (d : Direction) (j : ℕ) (lent : List ℕ) (answer : Result ⊤ Refusal) (left : List ℕ) → Sweeps N rank G C d j lent answer left
      → (f : Refusal) → answer ≡ Err f
      → ((f ≡ StartOrTarget) × (size N ≤ j)) ⊎ ((f ≡ DistanceRoom) × (length lent ≢ size N))
  pub route_taken : (C : EdgeCosts) → Customises N rank G C₀ (Ok tt) C
      → (from to : ℕ) (lent : List ℕ) (answer : Result (Option Drive) Refusal) (left : List ℕ) → TellsRoute N rank G C from to lent answer left
      → (f : Refusal) → answer ≡ Err f
      → ((f ≡ StartOrTarget) × Outside N from to) ⊎ ((f ≡ RouteRoom) × (suc (length lent) < size N))

-- what build left when it answered Ok e is taken by the other calls, with lawful costs and with cost lists of e places or more
abbrev pub BuiltIsTaken : Type 0
BuiltIsTaken =
    (N : Net) (rank₀ rank : List ℕ) (G₀ G : Graph) (e : ℕ) → Builds N rank₀ G₀ (Ok e) rank G
    → Priced N → (C₀ : EdgeCosts) → e ≤ length C₀.up → e ≤ length C₀.down
    → Taken N rank G C₀ e
