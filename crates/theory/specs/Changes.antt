-- Request b: "If the costs were the customised ones before, they equal those worked out afresh", so that demand 3 goes on holding after any
-- number of changes; and the number told is "at most all lower triangles of the graph". It is proved in proofs/ChangesHold.antt. Assumes nothing.
use Rattle.std.specs.Prelude.{ℕ, ◌≤◌, ◌<◌, ◌≡◌, List, [], ◌∷◌, length}
use Rattle.rules.specs.declared.Direction.{Direction}
use Rattle.rules.specs.Replies.{done, looked}
use Rattle.rules.specs.Net.{Net, net, with_cost, size}
use Rattle.rules.specs.Graph.{Graph}
use Rattle.rules.specs.Hierarchy.{EdgeCosts, linked}
use Rattle.rules.specs.Changed.{all_triangles}
use Rattle.rules.specs.Refusals.{passes}
use Rattle.rules.specs.Calls.{customise_left, customise_leaves, ChangeLeaves, change_checks, change_leaves, distance_leaves, SweepLeaves, sweep_leaves, RouteLeaves, route_leaves}
use Rattle.theory.specs.Demand3.{AsCustomised, TrueDistance, TrueList, TrueAnswer}

-- "If the costs were the customised ones before, they equal those worked out afresh": customise, asked with the changed cost list, is done and
-- leaves the very lists that change left
abbrev pub ChangedIsAfresh : Type 0
ChangedIsAfresh =
    (N : Net) (rank : List ℕ) (G : Graph) (C : EdgeCosts) → AsCustomised N rank G C
    → (arc cost : ℕ) → change_checks N rank G C arc cost ≡ passes
    → customise_leaves (with_cost N arc cost) rank G C ≡ customise_left (change_leaves N rank G C arc cost).costs done

-- ---- any number of changes

-- the roads and the shortcut costs that stand in the lists
pub record Held : Type 0 where
  pub net : Net
  pub costs : EdgeCosts

abbrev pub holding : (N : Net) (C : EdgeCosts) → Held
holding N C = record { net = N; costs = C }

-- a new cost asked for one arc
pub record Change : Type 0 where
  pub arc : ℕ
  pub cost : ℕ

-- what stands after a call of change, accepted or refused
unfoldable pub changed_once : (rank : List ℕ) (G : Graph) (held : Held) (c : Change) → Held
unfolding change_leaves
changed_once rank G held c =
    let N = held.net in
    let left : ChangeLeaves = change_leaves N rank G held.costs c.arc c.cost in
    holding (net N.tails N.heads left.arc_costs N.order) left.costs

-- after any number of them
unfoldable pub changed_all : (rank : List ℕ) (G : Graph) (held : Held) (cs : List Change) → Held
unfolding changed_once
changed_all rank G held [] = held
changed_all rank G held (c ∷ cs) = changed_all rank G (changed_once rank G held c) cs

-- the shortcut costs stay those that customise leaves for the cost list as it then is
abbrev pub ChangesKeep : Type 0
ChangesKeep =
    (N : Net) (rank : List ℕ) (G : Graph) (C : EdgeCosts) → AsCustomised N rank G C → (cs : List Change)
    → let held : Held = changed_all rank G (holding N C) cs in
    AsCustomised held.net rank G held.costs

-- so demand 3 goes on holding
abbrev pub DistanceStaysRight : Type 0
DistanceStaysRight =
    (N : Net) (rank : List ℕ) (G : Graph) (C : EdgeCosts) → AsCustomised N rank G C → (cs : List Change)
    → let held : Held = changed_all rank G (holding N C) cs in
    (from to : ℕ) → from < size held.net → to < size held.net
    → TrueDistance held.net from to (distance_leaves held.net.order rank G held.costs from to).reply

abbrev pub SweepStaysRight : Type 0
SweepStaysRight =
    (N : Net) (rank : List ℕ) (G : Graph) (C : EdgeCosts) → AsCustomised N rank G C → (cs : List Change)
    → let held : Held = changed_all rank G (holding N C) cs in
    (d : Direction) (j : ℕ) → j < size held.net → (lent : List ℕ) → length lent ≡ size held.net
    → let left : SweepLeaves = sweep_leaves held.net.order rank G held.costs d j lent in
    (left.reply ≡ done) × TrueList held.net d j left.distances

abbrev pub RouteStaysRight : Type 0
RouteStaysRight =
    (N : Net) (rank : List ℕ) (G : Graph) (C : EdgeCosts) → AsCustomised N rank G C → (cs : List Change)
    → let held : Held = changed_all rank G (holding N C) cs in
    (from to : ℕ) → from < size held.net → to < size held.net → (room : List ℕ)
    → let left : RouteLeaves = route_leaves held.net rank G held.costs from to room in
    TrueAnswer held.net from to (length room) left.route left.reply

-- ---- whatever the lists hold

-- "and at most all lower triangles of the graph"
abbrev pub AtMostAllTriangles : Type 0
AtMostAllTriangles =
    (N : Net) (rank : List ℕ) (G : Graph) (C : EdgeCosts) (arc cost t : ℕ)
    → (change_leaves N rank G C arc cost).reply ≡ looked t → t ≤ all_triangles (linked G) (size N)
