-- What following the labels back, driving the way and the whole of route after its checks ask and promise. Assumes nothing.
use Rattle.std.specs.Prelude.{ℕ, zero, suc, ◌+◌, ◌-◌, ◌≤◌, ◌<◌, ◌≡◌, ◌≢◌, List, [], ◌∷◌, T, length, get_or, Result, Ok, Err}
use Rattle.rules.specs.Calls.{RouteLeaves, route_left}
use Rattle.rules.specs.Costs.{closed}
use Rattle.rules.specs.Graph.{Graph}
use Rattle.rules.specs.Hierarchy.{EdgeCosts, linked, held}
use Rattle.rules.specs.Net.{Net, size, arcs, tail, road_between, arc_between}
use Rattle.rules.specs.Replies.{refused, drive}
use Rattle.rules.specs.Route.{Piece, piece, Event, opened_all}
use Rattle.rules.specs.declared.Direction.TheVariants.{Up, Down}
use Rattle.rules.specs.declared.Direction.{Direction}
use Rattle.theory.specs.Orders.{Ordered}
use Rattle.theory.specs.Rows.{count, Lists}
use Rattle.lists.specs.Lent.{filled}
use Rattle.unpack.specs.declared.Stuck.{Stuck}
use Rattle.unpack.specs.declared.Stuck.TheVariants.{Full, Misfit}

-- ---- what is given

-- roads, order, graph and cost lists that driving reads
pub record Given (N : Net) (G : Graph) (C : EdgeCosts) : Type 0 where
  pub lists : Lists G C
  pub size_is : size N ≡ count G.first
  pub seats : Ordered N.order
  pub heads_long : length N.heads ≡ arcs N
  pub costs_long : length N.costs ≡ arcs N
  pub fit : arcs N ≤ 16384
  pub tails_in : (i : ℕ) → i < arcs N → tail N i < 4096

-- ---- labels followed back

-- a list that tells where each label came from leads from p down to s
pub data Leads (came : List ℕ) (s : ℕ) : ℕ → Type 0 where
  arrived : Leads came s s
  onward : {p : ℕ} → get_or came p 0 < p → Leads came s (get_or came p 0) → Leads came s p

-- the place of the i-th position back from the meeting position, which has the middle place: those toward the start stand before it, those
-- toward the target behind it
abbrev pub way_place : (d : Direction) (i : ℕ) → ℕ
way_place Up i = 4095 - i
way_place Down i = 4095 + i

-- place j lies on the other side
abbrev pub Beside : (d : Direction) (j : ℕ) → Type 0
Beside Up j = 4095 < j
Beside Down j = j < 4095

-- from the middle place to the last the way holds the positions from m back to `end`
pub record Traced (came : List ℕ) (d : Direction) (end m last : ℕ) (way : List ℕ) : Type 0 where
  pub far : ℕ
  pub room : far ≤ 4095
  pub last_is : last ≡ way_place d far
  pub starts : get_or way 4095 0 ≡ m
  pub arrives : get_or way (way_place d far) 0 ≡ end
  pub leads : (i : ℕ) → i < far
      → (get_or way (way_place d i) 0 ≢ end) × (get_or way (way_place d (suc i)) 0 ≡ get_or came (get_or way (way_place d i) 0) 0)

-- ---- the way driven

-- so many pieces, each from the position at a place of the way to the one at the next
unfoldable pub steps : (way : List ℕ) (from count : ℕ) → List Piece
steps way from zero = []
steps way from (suc k) = piece (get_or way from 0) (get_or way (suc from) 0) ∷ steps way (suc from) k

-- the positions from one place to another are joined, each to the next
pub record Walkable (G : Graph) (way : List ℕ) (from to : ℕ) : Type 0 where
  pub rise : from ≤ to
  pub room : to < 8192
  pub edge : (i : ℕ) → from ≤ i → i < to → T (linked G (get_or way i 0) (get_or way (i + 1) 0))

-- what is met on pieces one after the other, by the lists as they are
unfoldable pub way_over : (N : Net) (G : Graph) (C : EdgeCosts) (pieces : List Piece) → List Event
unfolding opened_all linked held road_between
way_over N G C = opened_all (linked G) (held G C) (road_between N) (arc_between N)

-- what route leaves by what driving the way of a distance answered: "the route list holds arc numbers in driving order, and 4,294,967,295 in
-- all other places"; "after 12 or 13 every route place is 4,294,967,295"
abbrev pub left_after : (told : Result ℕ Stuck) (d : ℕ) (route : List ℕ) → RouteLeaves
left_after (Ok k) d route = route_left (filled route k closed) (drive d k)
left_after (Err Full) d route = route_left (filled route 0 closed) (refused 12 0)
left_after (Err Misfit) d route = route_left (filled route 0 closed) (refused 13 0)
