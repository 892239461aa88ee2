-- How far a change at position lo can reach. Assumes nothing.
use Rattle.std.specs.Prelude.{ℕ, suc, ◌≤◌, ◌<◌, ◌≡◌, Bool, List, T, length, get_or}
use Rattle.rules.specs.Graph.{Graph}
use Rattle.theory.specs.Rows.{InRow, count}
use Rattle.reconsider.specs.Marks.{says}

-- with a position each entry of its row can be reached
pub record Upward (G : Graph) (on : List Bool) : Type 0 where
  pub long : length on ≡ 4096
  pub entries : (p k : ℕ) → p < count G.first → InRow G p k → T (says on p) → T (says on (get_or G.heads k 0))

-- and lo can be
pub record Reaches (G : Graph) (lo : ℕ) (on : List Bool) : Type 0 where
  pub upward : Upward G on
  pub start : T (says on lo)

-- place i is where the row of z begins to wait: nothing before it can be reached
pub record Begins (G : Graph) (on : List Bool) (z i : ℕ) : Type 0 where
  pub from : get_or G.first z 0 ≤ i
  pub to : i ≤ get_or G.first (suc z) 0
  pub off : (k : ℕ) → InRow G z k → k < i → T (says on (get_or G.heads k 0)) → ⊥

-- r is no less than before, and no entry of the row of x is above it if the row has a flagged edge
pub record Top (G : Graph) (dirty : List Bool) (x reach r : ℕ) : Type 0 where
  pub under : r < count G.first
  pub grows : reach ≤ r
  pub covers : T (says dirty x) → (k : ℕ) → InRow G x k → get_or G.heads k 0 ≤ r
