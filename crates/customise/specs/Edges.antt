-- Where an arc's cost is laid. Assumes nothing.
use Rattle.std.specs.Prelude.{ℕ, ◌≤◌, ◌<◌, ◌≢◌, cond, List, T, ltb, length, get_or, set}
use Rattle.rules.specs.Graph.{Graph}
use Rattle.rules.specs.Hierarchy.{EdgeCosts, edge_costs, linked, place}
use Rattle.theory.specs.Rows.{Rows, count}
use Rattle.turns.specs.Edges.{edges_of}

-- where x is below y they are joined, and a list has room for the edges
pub record Edge (G : Graph) (room x y : ℕ) : Type 0 where
  pub rows : Rows (count G.first) G
  pub fits : edges_of G ≤ room
  pub joined : x < y → T (linked G x y)

-- a list with a cost at the place of the edge (x, y), where x is below y
unfoldable pub laid_on : (G : Graph) (list : List ℕ) (x y cost : ℕ) → List ℕ
laid_on G list x y cost = cond (ltb x y) (set list (place G x y) cost) list

-- an arc's ends are junctions, and where they differ there is an edge between their positions
pub record ArcFits (rank : List ℕ) (G : Graph) (tail head : ℕ) : Type 0 where
  pub tail_in : tail < length rank
  pub head_in : head < length rank
  pub joined : tail ≢ head → T (linked G (get_or rank tail 0) (get_or rank head 0))

-- an arc's cost laid on its edge, in the list of its direction: the up list where it rises, the down list where it falls
abbrev pub laid : (rank : List ℕ) (G : Graph) (tail head cost : ℕ) (C : EdgeCosts) → EdgeCosts
laid rank G tail head cost C =
    let x = get_or rank tail 0 in
    let y = get_or rank head 0 in
    edge_costs (laid_on G C.up x y cost) (laid_on G C.down y x cost)
