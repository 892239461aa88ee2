-- The rows that are met in the turn of x: those below x that have x. Assumes nothing.
use Rattle.std.specs.Prelude.{ℕ, ◌+◌, ◌≤◌, ◌<◌, ◌≡◌, ◌⊎◌, ◌≢◌, List, length, get_or}
use Rattle.rules.specs.Graph.{Graph}
use Rattle.theory.specs.Rows.{InRow}

-- the first m of two lists are rows below x, each once, and the places at which they have x
pub record Met (G : Graph) (x m : ℕ) (met at : List ℕ) : Type 0 where
  pub met_long : length met ≡ 4096
  pub at_long : length at ≡ 4096
  pub few : m ≤ x
  pub under : (t : ℕ) → t < m → get_or met t 0 < x
  pub row : (t : ℕ) → t < m → InRow G (get_or met t 0) (get_or at t 0)
  pub entry : (t : ℕ) → t < m → get_or G.heads (get_or at t 0) 0 ≡ x
  pub once : (s t : ℕ) → s < t → t < m → get_or met s 0 ≢ get_or met t 0

-- each row below x that has x and something behind it is among them
pub record AllMet (G : Graph) (x m : ℕ) (met : List ℕ) : Type 0 where
  pub all : (z a : ℕ) → z < x → InRow G z a → InRow G z (a + 1) → get_or G.heads a 0 ≡ x → (t : ℕ) × (t < m) × (get_or met t 0 ≡ z)

-- after the turn of x: a row that was not past x before is among those met, and no row has passed anything but x and its last entry
pub record Gathered (G : Graph) (x : ℕ) (places : List ℕ) (m : ℕ) (met at places' : List ℕ) : Type 0 where
  pub met_rows : Met G x m met at
  pub all : (z a : ℕ) → z < x → InRow G z a → get_or G.heads a 0 ≡ x → get_or places z 0 ≤ a → (t : ℕ) × (t < m) × (get_or met t 0 ≡ z)
  pub moved : (z i : ℕ) → z < x → InRow G z i → InRow G z (i + 1) → i < get_or places' z 0 → (i < get_or places z 0) ⊎ (get_or G.heads i 0 ≡ x)
