-- What the functions that open pieces ask and promise. Assumes nothing.
use Rattle.std.specs.Prelude.{ℕ, suc, ◌+◌, ◌-◌, ◌≤◌, ◌<◌, min, ◌≡◌, ◌≢◌, cond, not, ◌&&◌, List, [], ◌∷◌, T, eqb, ltb, length, get_or, set, Option, Some, None, Result, Ok, Err}
use Rattle.rules.specs.declared.Refusal.{Refusal}
use Rattle.rules.specs.declared.Refusal.TheVariants.{RouteRoom, PieceFitsNothing}
use Rattle.rules.specs.Words.{lowest}
use Rattle.rules.specs.Costs.{closed}
use Rattle.rules.specs.Net.{Net, size, road_between, arc_between}
use Rattle.rules.specs.Graph.{Graph}
use Rattle.rules.specs.Hierarchy.{EdgeCosts, linked, place, held}
use Rattle.rules.specs.Route.{Event, drives, misfits, z_fits, opened}
use Rattle.theory.specs.Rows.{InRow, count, Lists, parent_at}
use Rattle.roads.specs.declared.Roads.{Roads}
use Rattle.roads.specs.Roads.{RoadsOf}
use Rattle.rules.specs.Lent.{lent_net, lent_graph, lent_costs}
use Rattle.unpack.specs.declared.opener.Opener.{Opener}
use Rattle.unpack.specs.declared.Stuck.{Stuck}
use Rattle.unpack.specs.declared.Stuck.TheVariants.{Full, Misfit}
use Rattle.unpack.specs.declared.Parts.{Parts}
use Rattle.unpack.specs.declared.Choice.{Choice}
use Rattle.unpack.specs.declared.Choice.TheVariants.{Arc, Over}

-- ---- events written down

-- an answer, with what the route list then holds
pub record Ran : Type 0 where
  pub answer : Result ℕ Stuck
  pub route : List ℕ

abbrev pub ran : (answer : Result ℕ Stuck) (route : List ℕ) → Ran
ran answer route = record { answer = answer; route = route }

-- what is met is written from place `at` on, until an arc has no place left or a piece fits nothing
unfoldable pub put : (way : List Event) (at : ℕ) (route : List ℕ) → Ran
put [] at route = ran (Ok at) route
put (misfits ∷ es) at route = ran (Err Misfit) route
put (drives i ∷ es) at route = cond (ltb at (length route)) (put es (at + 1) (set route at i)) (ran (Err Full) route)

-- what is met from one end of an edge to the other, by the lists as they are
unfoldable pub way_along : (N : Net) (G : Graph) (C : EdgeCosts) (a b : ℕ) → List Event
unfolding opened linked held road_between
way_along N G C a b =
    opened (linked G) (held G C) (road_between N) (arc_between N) (suc (min a b)) a b

-- "12 an arc of the route has no place left", "13 a piece has neither a fitting arc nor a fitting z"
abbrev pub told_as : Stuck → Refusal
told_as Full = RouteRoom
told_as Misfit = PieceFitsNothing

-- ---- positions that lead up

-- the turn of position p: what leads up to it, or itself, also leads up to its parent
unfoldable pub low_turn : (G : Graph) (p : ℕ) (low : List ℕ) → List ℕ
low_turn G p low =
    let mine = min (get_or low p 0) p in
    let own = set low p mine in
    cond (ltb (get_or G.first p 0) (get_or G.first (p + 1) 0)) (set own (parent_at G p) (min (get_or own (parent_at G p) 0) mine)) own

-- no lower neighbour of x lies below low[x]
pub record Lows (G : Graph) (low : List ℕ) : Type 0 where
  pub long : length low ≡ 4096
  pub under : (x : ℕ) → x < count G.first → get_or low x 0 ≤ x
  pub reach : (z x : ℕ) → z < x → T (linked G z x) → get_or low x 0 ≤ z

-- ---- the arc in force

-- the arc in force between the junctions at a and b, if its cost is w
unfoldable pub arc_of : (N : Net) (a b w : ℕ) → Option ℕ
unfolding road_between
arc_of N a b w = cond (not (eqb (road_between N a b) closed) && eqb (road_between N a b) w) (Some (arc_between N a b)) None

-- ---- how a piece is opened

-- over z, with the places of the edges from z to a and to b
abbrev pub over : (G : Graph) (a b z : ℕ) → Parts
over G a b z = record { z = record { 0 = z }; down = place G z a; up = place G z b }

-- over z, if a piece from a to b goes over z
unfoldable pub over_z : (G : Graph) (C : EdgeCosts) (a b z : ℕ) → Option Parts
unfolding linked held place
over_z G C a b z = cond (z_fits (linked G) (held G C) a b z) (Some (over G a b z)) None

-- over the lowest z from `from` up to `to` over which a piece from a to b goes
unfoldable pub middle_in : (G : Graph) (C : EdgeCosts) (a b from to : ℕ) → Option Parts
unfolding lowest linked held place
middle_in G C a b from to =
    let z = lowest (z_fits (linked G) (held G C) a b) from (to - from) in
    cond (ltb z to) (Some (over G a b z)) None

-- the arc that is found, or else the two parts that are
abbrev pub arc_or : (found : Option ℕ) (other : Option Parts) → Option Choice
arc_or (Some i) other = Some (Arc i)
arc_or None (Some parts) = Some (Over parts)
arc_or None None = None

-- "A piece with cost w is taken as the arc in force in its direction if that arc's cost is w; otherwise as its two parts over the lowest z"
unfoldable pub choice : (N : Net) (G : Graph) (C : EdgeCosts) (a b : ℕ) → Option Choice
unfolding arc_of middle_in held
choice N G C a b = arc_or (arc_of N a b (held G C a b)) (middle_in G C a b 0 (min a b))

-- a piece can be opened so: its arc is one of m, its parts are edges of a position below x
abbrev pub Openable : (m : ℕ) (G : Graph) (x : ℕ) (piece : Option Choice) → Type 0
Openable m G x (Some (Arc i)) = i < m
Openable m G x (Some (Over p)) = (p.z.0 < x) × InRow G p.z.0 p.down × InRow G p.z.0 p.up
Openable m G x None = Unit {0}

-- ---- what is read

-- what the search for an arc between two positions reads
pub record Readable (N : Net) (R : Roads) (a b : ℕ) : Type 0 where
  pub roads : RoadsOf N R
  pub from_in : a < size N
  pub to_in : b < size N
  pub apart : a ≢ b

-- graph, costs and lows that opening reads; its type says that the arcs are threaded
pub record Ready (N : Net) (G : Graph) (C : EdgeCosts) (low : List ℕ) : Type 0 where
  pub lists : Lists G C
  pub size_is : size N ≡ count G.first
  pub lows : Lows G low

abbrev pub IsReady : Opener → Type 0
IsReady o = Ready (lent_net o.net) (lent_graph o.graph) (lent_costs o.costs) o.low.now
