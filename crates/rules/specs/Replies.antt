-- What a call replies, in the paper's numbers, for each case of each answer. The promises of the calls use these definitions.
-- Assumes nothing.
use Rattle.std.specs.Prelude.{ℕ, ⊤, Option, Some, None, Result, Ok, Err}
use Rattle.rules.specs.declared.Refusal.{Refusal}
use Rattle.rules.specs.declared.Refusal.TheVariants.{JunctionCount, ArcLists, ArcEnd, OrderEntry, RankOrFirstRoom, HeadsRoom, NotAHierarchy, ArcWithoutEdge, ArcCost, CostLists, StartOrTarget, RouteRoom, PieceFitsNothing, Text, DistanceRoom, TooFar, ArcNumber}
use Rattle.rules.specs.declared.Drive.{Drive}
use Rattle.rules.specs.Costs.{none}

-- "A refusal returns its number and place and no distance"; build replies E; customise and the sweeps are done; distance replies a distance
-- or "none"; route replies distance and number of arcs, or "none"; change tells "how many lower triangles of reconsidered edges were looked at"
pub data Reply : Type 0 where
  refused : (number place : ℕ) → Reply
  edges : ℕ → Reply
  done : Reply
  far : ℕ → Reply
  drive : (distance arcs : ℕ) → Reply
  no_walk : Reply
  looked : ℕ → Reply

-- "Numbers of refusal": the column "No."; 15 and 16 are request a's, 17 is request b's
abbrev pub refusal_number : Refusal → ℕ
refusal_number JunctionCount = 1
refusal_number ArcLists = 2
refusal_number (ArcEnd arc) = 3
refusal_number (OrderEntry position) = 4
refusal_number RankOrFirstRoom = 5
refusal_number HeadsRoom = 6
refusal_number NotAHierarchy = 7
refusal_number (ArcWithoutEdge arc) = 8
refusal_number (ArcCost arc) = 9
refusal_number CostLists = 10
refusal_number StartOrTarget = 11
refusal_number RouteRoom = 12
refusal_number PieceFitsNothing = 13
refusal_number (Text line) = 14
refusal_number DistanceRoom = 15
refusal_number (TooFar junction) = 16
refusal_number ArcNumber = 17

-- "Numbers of refusal": the column "Place"; "a new refusal's place is 0 unless another is named"
abbrev pub refusal_place : Refusal → ℕ
refusal_place JunctionCount = 0
refusal_place ArcLists = 0
refusal_place (ArcEnd arc) = arc
refusal_place (OrderEntry position) = position
refusal_place RankOrFirstRoom = 0
refusal_place HeadsRoom = 0
refusal_place NotAHierarchy = 0
refusal_place (ArcWithoutEdge arc) = arc
refusal_place (ArcCost arc) = arc
refusal_place CostLists = 0
refusal_place StartOrTarget = 0
refusal_place RouteRoom = 0
refusal_place PieceFitsNothing = 0
refusal_place (Text line) = line
refusal_place DistanceRoom = 0
refusal_place (TooFar junction) = junction
refusal_place ArcNumber = 0

-- a call refuses, or replies what it tells of lists that it accepts
abbrev pub reply_of : {X : Type 0} (told : X → Reply) → Result X Refusal → Reply
reply_of told (Ok x) = told x
reply_of told (Err r) = refused (refusal_number r) (refusal_place r)

-- "distance replies a distance or "none""
abbrev pub distance_found : Option ℕ → Reply
distance_found (Some d) = far d
distance_found None = no_walk

-- "distance and number of arcs, or "none""
abbrev pub route_found : Option Drive → Reply
route_found (Some r) = drive r.distance r.arcs
route_found None = no_walk

abbrev pub build_reply : Result ℕ Refusal → Reply
build_reply = reply_of edges

abbrev pub fill_reply : Result ⊤ Refusal → Reply
fill_reply = reply_of (λ _. done)

abbrev pub change_reply : Result ℕ Refusal → Reply
change_reply = reply_of looked

abbrev pub distance_reply : Result (Option ℕ) Refusal → Reply
distance_reply = reply_of distance_found

abbrev pub route_reply : Result (Option Drive) Refusal → Reply
route_reply = reply_of route_found

-- a reply as plain numbers: the refusal's number, 0 when accepted
abbrev pub number_told : Reply → ℕ
number_told (refused k p) = k
number_told (edges e) = 0
number_told done = 0
number_told (far d) = 0
number_told (drive d k) = 0
number_told no_walk = 0
number_told (looked t) = 0

-- the refusal's place, 0 when accepted
abbrev pub place_told : Reply → ℕ
place_told (refused k p) = p
place_told (edges e) = 0
place_told done = 0
place_told (far d) = 0
place_told (drive d k) = 0
place_told no_walk = 0
place_told (looked t) = 0

-- E, 0 where none is told
abbrev pub edges_told : Reply → ℕ
edges_told (refused k p) = 0
edges_told (edges e) = e
edges_told done = 0
edges_told (far d) = 0
edges_told (drive d k) = 0
edges_told no_walk = 0
edges_told (looked t) = 0

-- the distance, the number for none, 0 where none is told
abbrev pub distance_told : Reply → ℕ
distance_told (refused k p) = 0
distance_told (edges e) = 0
distance_told done = 0
distance_told (far d) = d
distance_told (drive d k) = d
distance_told no_walk = none
distance_told (looked t) = 0

-- the number of arcs: "For "none": no arcs"
abbrev pub arcs_told : Reply → ℕ
arcs_told (refused k p) = 0
arcs_told (edges e) = 0
arcs_told done = 0
arcs_told (far d) = 0
arcs_told (drive d k) = k
arcs_told no_walk = 0
arcs_told (looked t) = 0

-- the lower triangles that were looked at, 0 where none are told
abbrev pub triangles_told : Reply → ℕ
triangles_told (refused k p) = 0
triangles_told (edges e) = 0
triangles_told done = 0
triangles_told (far d) = 0
triangles_told (drive d k) = 0
triangles_told no_walk = 0
triangles_told (looked t) = t
