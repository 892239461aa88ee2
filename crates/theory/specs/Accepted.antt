-- What the checks of a call establish, as one record of plain facts: the `requires` of the work behind them. Assumes nothing.
use Rattle.std.specs.Prelude.{ℕ, suc, ◌≤◌, ◌<◌, ◌≡◌, ◌⊎◌, ◌≢◌, List, T, length, get_or}
use Rattle.rules.specs.Costs.{closed, greatest}
use Rattle.rules.specs.Net.{Net, size, arcs, tail, head, arc_cost}
use Rattle.rules.specs.Graph.{Graph}
use Rattle.rules.specs.Hierarchy.{EdgeCosts, its_e, linked}
use Rattle.theory.specs.Orders.{Ordered, Inverse}
use Rattle.theory.specs.Rows.{Rows, count, Lists}

-- roads, order and rooms that build accepts, but for the room of heads
pub record Buildable (tails heads order rank first : List ℕ) : Type 0 where
  pub some : 0 < length order
  pub few : length order ≤ 4096
  pub heads_long : length heads ≡ length tails
  pub fit : length tails ≤ 16384
  pub ends_in : (i : ℕ) → i < length tails → (get_or tails i 0 < length order) × (get_or heads i 0 < length order)
  pub seats : Ordered order
  pub rank_long : length rank ≡ length order
  pub first_long : length first ≡ suc (length order)

-- an arc cost is CLOSED, or from 1 to the greatest
pub record LawfulCost (c : ℕ) : Type 0 where
  pub least_one : 1 ≤ c
  pub most : (c ≡ closed) ⊎ (c ≤ greatest)

-- roads, order, graph and cost lists that customise accepts
pub record Accepted (N : Net) (rank : List ℕ) (G : Graph) (C : EdgeCosts) : Type 0 where
  pub some : 0 < size N
  pub few : size N ≤ 4096
  pub heads_long : length N.heads ≡ arcs N
  pub costs_long : length N.costs ≡ arcs N
  pub fit : arcs N ≤ 16384
  pub ends_in : (i : ℕ) → i < arcs N → (tail N i < size N) × (head N i < size N)
  pub seats : Ordered N.order
  pub ranks : Inverse N.order rank
  pub rows_of : Rows (size N) G
  pub edges : (i : ℕ) → i < arcs N → tail N i ≢ head N i → T (linked G (get_or rank (tail N i) 0) (get_or rank (head N i) 0))
  pub lawful : (i : ℕ) → i < arcs N → LawfulCost (arc_cost N i)
  pub up_long : its_e N.order G ≤ length C.up
  pub down_long : its_e N.order G ≤ length C.down

-- an order, its rank list, a graph, its cost lists and two junctions that distance accepts
pub record Asked (order rank : List ℕ) (G : Graph) (C : EdgeCosts) (from to : ℕ) : Type 0 where
  pub size : count G.first ≡ length order
  pub lists : Lists G C
  pub ranks : Inverse order rank
  pub start : from < length order
  pub target : to < length order
