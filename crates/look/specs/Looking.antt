-- The lower triangles of the marked edges of a row: what is taken from each, and how many there are. What an edge of the row of x gets is
-- gathered at its higher end, D for both directions. Assumes nothing.
use Rattle.std.specs.Prelude.{ℕ, ◌+◌, ◌≤◌, ◌<◌, min, ◌≡◌, Bool, ◌&&◌, List, T, eqb, ltb, leb, length, get_or}
use Rattle.look.specs.declared.Row as scratch
use Rattle.rules.specs.declared.Direction.{Direction}
use Rattle.rules.specs.declared.Direction.TheVariants.{Up, Down}
use Rattle.rules.specs.Words.{some, least, total, how_many}
use Rattle.rules.specs.Costs.{closed, sum}
use Rattle.rules.specs.Graph.{Graph}
use Rattle.rules.specs.Hierarchy.{EdgeCosts, edge_costs, linked, along}
use Rattle.rules.specs.Customised.{over}
use Rattle.rules.specs.Changed.{corner}
use Rattle.theory.specs.Rows.{InRow}
use Rattle.rules.specs.Lent.{chosen}
use Rattle.turns.specs.Edges.{At, at_most}
use Rattle.reconsider.specs.Marks.{says}

-- what is gathered, in both directions
abbrev pub gathered : scratch.Row → EdgeCosts
gathered row = edge_costs row.ups row.downs

-- a place for each position, in both directions
pub record Seats (D : EdgeCosts) : Type 0 where
  pub up_long : length D.up ≡ 4096
  pub down_long : length D.down ≡ 4096

-- from an entry whose edge costs rise and fall over the row's position to the entry at place k, and back
abbrev pub way_to : (C : EdgeCosts) (rise fall : ℕ) (d : Direction) (k : ℕ) → ℕ
way_to C rise fall Up k = sum fall (get_or C.up k 0)
way_to C rise fall Down k = sum (get_or C.down k 0) rise

-- one lower triangle, over the row that has y at place j, and x where the row's edge costs rise and fall: the edge between x and y gets no
-- more than the way across
abbrev pub taken : (C : EdgeCosts) (rise fall j y : ℕ) (D : EdgeCosts) → EdgeCosts
taken C rise fall j y D =
    edge_costs (at_most D.up y (way_to C rise fall Up j)) (at_most D.down y (way_to C rise fall Down j))

-- y stands at one of the places from a up to b
unfoldable pub among : (heads : List ℕ) (a b y : ℕ) → Bool
unfolding some
among heads a b y = some (λ k. leb a k && eqb (get_or heads k 0) y) b

-- both lists of costs go up to place b
pub record Costed (C : EdgeCosts) (b : ℕ) : Type 0 where
  pub up_in : b ≤ length C.up
  pub down_in : b ≤ length C.down

-- the lower triangles over one row, to each entry from place a up to place b, from one whose edge costs rise and fall: r are counted by then,
-- where s were before
pub record Looked (heads : List ℕ) (C : EdgeCosts) (marks : List Bool) (rise fall a b : ℕ) (D D' : EdgeCosts) (s r : ℕ) : Type 0 where
  pub seats : Seats D'
  pub hit : (d : Direction) (k : ℕ) → a ≤ k → k < b → T (says marks (get_or heads k 0))
      → get_or (chosen d D') (get_or heads k 0) 0 ≡ min (get_or (chosen d D) (get_or heads k 0) 0) (way_to C rise fall d k)
  pub miss : (d : Direction) (y : ℕ) → (T (among heads a b y) → T (says marks y) → ⊥) → get_or (chosen d D') y 0 ≡ get_or (chosen d D) y 0
  pub number : r ≡ s + how_many (λ y. among heads a b y && says marks y) 4096

-- the rows below x hold these costs
pub record Below (G : Graph) (cost : ℕ → ℕ → ℕ) (x : ℕ) (C : EdgeCosts) : Type 0 where
  pub there : (p k : ℕ) → p < x → InRow G p k → At G C cost p k

-- how many lower triangles over z the marked edges of the row of x have
unfoldable pub over_corner : (joined : ℕ → ℕ → Bool) (marks : List Bool) (x z : ℕ) → ℕ
unfolding how_many
over_corner joined marks x z = how_many (λ y. corner joined x y z && (ltb x y && says marks y)) 4096

-- all lower triangles of the marked edges of the row of x: each edge has the least of what stood there and of what goes over a lower position; r
-- are counted by then, where s were before
pub record LookedRow (G : Graph) (C : EdgeCosts) (marks : List Bool) (x : ℕ) (D D' : EdgeCosts) (s r : ℕ) : Type 0 where
  pub seats : Seats D'
  pub lowest : (d : Direction) (cost : ℕ → ℕ → ℕ) → Below G cost x C → (k : ℕ) → InRow G x k → T (says marks (get_or G.heads k 0))
      → get_or (chosen d D) (get_or G.heads k 0) 0 ≤ closed
      → get_or (chosen d D') (get_or G.heads k 0) 0
      ≡ least (along d (over (linked G) cost) x (get_or G.heads k 0)) (get_or (chosen d D) (get_or G.heads k 0) 0) x
  pub number : r ≡ s + total (over_corner (linked G) marks x) x
  pub few : r ≤ s + 16777216
