-- Costs at the edges' places: what stands there, and what is left alone beside them. Assumes nothing.
use Rattle.std.specs.Prelude.{ℕ, ◌≤◌, ◌<◌, min, ◌≡◌, List, length, get_or, set}
use Rattle.rules.specs.declared.Direction.{Direction}
use Rattle.rules.specs.Graph.{Graph}
use Rattle.rules.specs.Hierarchy.{EdgeCosts, along}
use Rattle.theory.specs.Rows.{count}
use Rattle.rules.specs.Lent.{chosen}

-- the number of edges
abbrev pub edges_of : (G : Graph) → ℕ
edges_of G = get_or G.first (count G.first) 0

-- the places from a up to b are listed, and hold positions, which rise, as those of one row do
pub record Stretch (heads : List ℕ) (a b : ℕ) : Type 0 where
  pub listed : b ≤ length heads
  pub seat : (k : ℕ) → a ≤ k → k < b → get_or heads k 0 < 4096
  pub climb : (k l : ℕ) → a ≤ k → k < l → l < b → get_or heads k 0 < get_or heads l 0

-- place k is one of row p: what stands there is the cost between the ends of the edge, in both directions
pub record At (G : Graph) (C : EdgeCosts) (cost : ℕ → ℕ → ℕ) (p k : ℕ) : Type 0 where
  pub stands : (d : Direction) → get_or (chosen d C) k 0 ≡ along d cost p (get_or G.heads k 0)

-- both lists are as long as before, and the same past the edges
pub record Kept (G : Graph) (C C' : EdgeCosts) : Type 0 where
  pub up_long : length C'.up ≡ length C.up
  pub down_long : length C'.down ≡ length C.down
  pub rest : (d : Direction) (k : ℕ) → edges_of G ≤ k → get_or (chosen d C') k 0 ≡ get_or (chosen d C) k 0

-- a list with v at place k, if less does not stand there
abbrev pub at_most : (list : List ℕ) (k v : ℕ) → List ℕ
at_most list k v = set list k (min (get_or list k 0) v)
