-- "Customised costs", over any hierarchy: joined says which positions are joined, road what the arc in force from one to another costs.
-- Assumes nothing.
use Rattle.std.specs.Prelude.{ℕ, zero, suc, min, Bool, cond, ◌&&◌, List, ltb, length, get_or}
use Rattle.rules.specs.declared.Direction.{Direction}
use Rattle.rules.specs.declared.Direction.TheVariants.{Up, Down}
use Rattle.rules.specs.Words.{least, tabulate}
use Rattle.rules.specs.Costs.{closed, sum}
use Rattle.rules.specs.Graph.{Graph}
use Rattle.rules.specs.Hierarchy.{EdgeCosts, edge_costs, along, row_of}

-- "for each z .. joined to both, the cost of x to z plus z to y"
abbrev pub over : (joined : ℕ → ℕ → Bool) (cost : ℕ → ℕ → ℕ) (a b z : ℕ) → ℕ
over joined cost a b z = cond (joined z a && joined z b) (sum (cost a z) (cost z b)) closed

-- "Each is the least of: the cost of the arc in force in that direction, if any; and, for each z below x joined to both, the cost of x to z
-- plus z to y (for down, y to z plus z to x). If none is finite it is CLOSED": the lower end falls, and k bounds how often
unfoldable pub cost_within : (joined : ℕ → ℕ → Bool) (road : ℕ → ℕ → ℕ) (k a b : ℕ) → ℕ
unfolding least
cost_within joined road zero a b = closed
cost_within joined road (suc k) a b = least (over joined (cost_within joined road k) a b) (road a b) (min a b)

-- the customised cost from a to b
unfoldable pub customised : (joined : ℕ → ℕ → Bool) (road : ℕ → ℕ → ℕ) (a b : ℕ) → ℕ
unfolding cost_within
customised joined road a b = cost_within joined road (suc (min a b)) a b

-- "held in two lists at the edge's place": what stands at place k in the list of one direction, and past E what `past` has there
abbrev pub cost_at : (n : ℕ) (G : Graph) (cost : ℕ → ℕ → ℕ) (d : Direction) (past : ℕ → ℕ) (k : ℕ) → ℕ
cost_at n G cost d past k = cond (ltb k (get_or G.first n 0)) (along d cost (row_of n G k) (get_or G.heads k 0)) (past k)

-- that list, in a room
unfoldable pub cost_list : (n : ℕ) (G : Graph) (cost : ℕ → ℕ → ℕ) (d : Direction) (past : ℕ → ℕ) (room : ℕ) → List ℕ
unfolding tabulate row_of
cost_list n G cost d past room = tabulate (cost_at n G cost d past) 0 room

-- the lists of both directions, each in its own room: "Places past E become CLOSED"
abbrev pub cost_lists : (n : ℕ) (G : Graph) (cost : ℕ → ℕ → ℕ) (room : EdgeCosts) → EdgeCosts
cost_lists n G cost room =
    edge_costs (cost_list n G cost Up (λ k. closed) (length room.up)) (cost_list n G cost Down (λ k. closed) (length room.down))
