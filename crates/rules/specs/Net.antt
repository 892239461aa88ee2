-- "Words": the net, arcs in force, the order and its inverse. Assumes nothing.
use Rattle.std.specs.Prelude.{ℕ, Bool, cond, not, ◌&&◌, List, eqb, ltb, length, get_or, set}
use Rattle.rules.specs.Words.{some, lowest, tabulate}
use Rattle.rules.specs.Costs.{closed}

-- "A net has n junctions, numbered 0 to n − 1, and arcs numbered from 0 in list order, each with tail, head and cost.
-- The order list gives, for each position 0 to n − 1, the junction that stands there"
pub record Net : Type 0 where
  pub tails : List ℕ
  pub heads : List ℕ
  pub costs : List ℕ
  pub order : List ℕ

abbrev pub net : (tails heads costs order : List ℕ) → Net
net tails heads costs order = record { tails = tails; heads = heads; costs = costs; order = order }

-- "a change of one arc's cost": the net with another cost of one arc
abbrev pub with_cost : (N : Net) (arc cost : ℕ) → Net
with_cost N arc cost = net N.tails N.heads (set N.costs arc cost) N.order

-- "n is its length"
abbrev pub size : Net → ℕ
size N = length N.order

abbrev pub arcs : Net → ℕ
arcs N = length N.tails

abbrev pub tail : (N : Net) (i : ℕ) → ℕ
tail N i = get_or N.tails i 0

abbrev pub head : (N : Net) (i : ℕ) → ℕ
head N i = get_or N.heads i 0

abbrev pub arc_cost : (N : Net) (i : ℕ) → ℕ
arc_cost N i = get_or N.costs i 0

-- the junction that stands at a position
abbrev pub junction : (N : Net) (p : ℕ) → ℕ
junction N p = get_or N.order p 0

-- "The rank list is its inverse": the position at which a junction stands, for each junction
unfoldable pub rank : (order : List ℕ) (j : ℕ) → ℕ
unfolding lowest
rank order j = lowest (λ p. eqb (get_or order p 0) j) 0 (length order)

unfoldable pub rank_list : (order : List ℕ) → List ℕ
unfolding tabulate rank
rank_list order = tabulate (rank order) 0 (length order)

-- arc i runs from junction u to junction v
abbrev pub runs : (N : Net) (u v i : ℕ) → Bool
runs N u v i = eqb (tail N i) u && eqb (head N i) v

-- "no later arc in the list has the same tail and the same head": some later arc has
unfoldable pub replaced : (N : Net) (i : ℕ) → Bool
unfolding some
replaced N i = some (λ j. ltb i j && runs N (tail N i) (head N i) j) (arcs N)

-- "An arc is in force if tail and head differ, its cost isn't CLOSED, and no later arc in the list has the same tail and the same head."
-- "An open road is an arc in force."
unfoldable pub in_force : (N : Net) (i : ℕ) → Bool
unfolding replaced
in_force N i = not (eqb (tail N i) (head N i)) && not (eqb (arc_cost N i) closed) && not (replaced N i)

-- the arc in force from junction u to junction v; the number of arcs if there is none
unfoldable pub road_arc : (N : Net) (u v : ℕ) → ℕ
unfolding lowest in_force
road_arc N u v = lowest (λ i. in_force N i && runs N u v i) 0 (arcs N)

-- its cost, CLOSED if there is none
unfoldable pub road : (N : Net) (u v : ℕ) → ℕ
unfolding road_arc
road N u v = cond (ltb (road_arc N u v) (arcs N)) (arc_cost N (road_arc N u v)) closed

-- two positions of the net, and not the same one
abbrev pub two_positions : (N : Net) (a b : ℕ) → Bool
two_positions N a b = ltb a (size N) && ltb b (size N) && not (eqb a b)

-- the arc in force between the junctions at two positions, and its cost
abbrev pub arc_between : (N : Net) (a b : ℕ) → ℕ
arc_between N a b = road_arc N (junction N a) (junction N b)

unfoldable pub road_between : (N : Net) (a b : ℕ) → ℕ
unfolding road
road_between N a b = cond (two_positions N a b) (road N (junction N a) (junction N b)) closed
