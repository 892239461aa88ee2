-- Lower triangles, and the turns in which they are taken. Assumes nothing.
use Rattle.std.specs.Prelude.{ℕ, ◌≤◌, ◌<◌, min, ◌≡◌, List, length, get_or}
use Rattle.rules.specs.declared.Direction.{Direction}
use Rattle.rules.specs.Costs.{closed, sum}
use Rattle.rules.specs.Graph.{Graph}
use Rattle.rules.specs.Hierarchy.{EdgeCosts, edge_costs, along, linked}
use Rattle.rules.specs.Customised.{customised}
use Rattle.theory.specs.Rows.{InRow, Lists, count}
use Rattle.rules.specs.Lent.{chosen}
use Rattle.turns.specs.Edges.{At, Kept, at_most}

-- ---- one triangle

-- both lists have a place k
pub record Within (C : EdgeCosts) (k : ℕ) : Type 0 where
  pub up_in : k < length C.up
  pub down_in : k < length C.down

-- from the neighbour at place a of a row over the row's position to the neighbour at place b
abbrev pub across : (C : EdgeCosts) (a b : ℕ) → ℕ
across C a b = sum (get_or C.down a 0) (get_or C.up b 0)

-- the edge at place k, between the neighbours at places i and j of a row, costs no more than the way across, in both directions
abbrev pub lowered : (i j k : ℕ) (C : EdgeCosts) → EdgeCosts
lowered i j k C = edge_costs (at_most C.up k (across C i j)) (at_most C.down k (across C j i))

-- ---- the triangles of a row with one of its entries

-- place i is one of z's row, and both lists have a place for each edge
pub record Beside (G : Graph) (C : EdgeCosts) (z i : ℕ) : Type 0 where
  pub lists : Lists G C
  pub under : z < count G.first
  pub row : InRow G z i

-- the edge at place k is the one between the neighbours at places i and b of a row, i before b
pub record Third (G : Graph) (i b k : ℕ) : Type 0 where
  pub row : InRow G (get_or G.heads i 0) k
  pub other : get_or G.heads k 0 ≡ get_or G.heads b 0

-- the triangles of a row with its entry at place i and each entry behind it up to place j: the edge between the two costs no more than the way
-- across, and no other place changes
pub record Crossed (G : Graph) (i j : ℕ) (C C' : EdgeCosts) : Type 0 where
  pub up_long : length C'.up ≡ length C.up
  pub down_long : length C'.down ≡ length C.down
  pub thirds : (d : Direction) (b k : ℕ) → i < b → b < j → Third G i b k
      → get_or (chosen d C') k 0 ≡ min (get_or (chosen d C) k 0) (along d (across C) i b)
  pub others : (d : Direction) (k : ℕ) → ((b : ℕ) → i < b → b < j → Third G i b k → ⊥) → get_or (chosen d C') k 0 ≡ get_or (chosen d C) k 0

-- ---- turns

-- the row of x spread out: at each position that it holds stands the edge's place
pub record Spread (G : Graph) (x : ℕ) (places : List ℕ) : Type 0 where
  pub long : length places ≡ 4096
  pub there : (k : ℕ) → InRow G x k → get_or places (get_or G.heads k 0) 0 ≡ k

-- no road costs more than CLOSED
abbrev pub Shut : (road : ℕ → ℕ → ℕ) → Type 0
Shut road = (a b : ℕ) → road a b ≤ closed

-- before the turn of x: lower rows have their final costs, the others what the roads cost
pub record Risen (G : Graph) (road : ℕ → ℕ → ℕ) (x : ℕ) (C : EdgeCosts) : Type 0 where
  pub final : (p k : ℕ) → p < x → p < count G.first → InRow G p k → At G C (customised (linked G) road) p k
  pub roads : (p k : ℕ) → x ≤ p → p < count G.first → InRow G p k → At G C road p k

-- from before the turn of x to before the turn of x', whatever the roads cost
pub record Turned (G : Graph) (x : ℕ) (C : EdgeCosts) (x' : ℕ) (C' : EdgeCosts) : Type 0 where
  pub kept : Kept G C C'
  pub risen : (road : ℕ → ℕ → ℕ) → Shut road → Risen G road x C → Risen G road x' C'
