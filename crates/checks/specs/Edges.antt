-- The edges of arcs: what is known of arcs and rows where it is asked which arcs lack theirs. Assumes nothing.
use Rattle.std.specs.Prelude.{ℕ, ◌<◌, ◌≡◌, List, length, get_or}
use Rattle.rules.specs.Net.{Net}
use Rattle.rules.specs.Graph.{Graph}
use Rattle.theory.specs.Rows.{Rows, count}

-- junctions stand at positions of a hierarchy's rows: what checks 4 and 7 establish
pub record Seated (rank : List ℕ) (G : Graph) : Type 0 where
  pub positions : (j : ℕ) → j < length rank → get_or rank j 0 < count G.first
  pub rows : Rows (count G.first) G

-- arcs between junctions of the net, which stand there: what checks 2, 3, 4 and 7 establish
pub record Arcs (N : Net) (rank : List ℕ) (G : Graph) : Type 0 where
  pub same : length N.heads ≡ length N.tails
  pub tails_in : (i : ℕ) → i < length N.tails → get_or N.tails i 0 < length rank
  pub heads_in : (i : ℕ) → i < length N.tails → get_or N.heads i 0 < length rank
  pub seated : Seated rank G
