-- Rows by places: what lists that pass the test of a hierarchy say, in the form that contracts and laws speak of. Assumes nothing.
use Rattle.std.specs.Prelude.{ℕ, suc, ◌-◌, ◌≤◌, ◌<◌, ◌≡◌, List, length, get_or}
use Rattle.rules.specs.Graph.{Graph}
use Rattle.rules.specs.Hierarchy.{EdgeCosts}

-- place k lies in row p
pub record InRow (G : Graph) (p k : ℕ) : Type 0 where
  pub low : get_or G.first p 0 ≤ k
  pub high : k < get_or G.first (suc p) 0

-- the lists of a hierarchy: rows one after the other, each ascending and above its position, two higher neighbours of one position joined
pub record Rows (n : ℕ) (G : Graph) : Type 0 where
  pub long : length G.first ≡ suc n
  pub start : get_or G.first 0 0 ≡ 0
  pub rise : (p : ℕ) → p < n → get_or G.first p 0 ≤ get_or G.first (suc p) 0
  pub top : get_or G.first n 0 ≤ length G.heads
  pub above : (p k : ℕ) → p < n → InRow G p k → p < get_or G.heads k 0
  pub below : (p k : ℕ) → p < n → InRow G p k → get_or G.heads k 0 < n
  pub climb : (p i j : ℕ) → p < n → InRow G p i → InRow G p j → i < j → get_or G.heads i 0 < get_or G.heads j 0
  pub third : (z i j : ℕ) → z < n → InRow G z i → InRow G z j → i < j
      → (k : ℕ) × InRow G (get_or G.heads i 0) k × (get_or G.heads k 0 ≡ get_or G.heads j 0)

-- how many positions a list of row starts speaks of: it has one entry more
unfoldable pub count : (first : List ℕ) → ℕ
count first = length first - 1

-- the lists of a hierarchy of at most 4,096 positions, and a place for each edge in both cost lists, whatever stands there
pub record Lists (G : Graph) (C : EdgeCosts) : Type 0 where
  pub rows : Rows (count G.first) G
  pub few : count G.first ≤ 4096
  pub up_long : get_or G.first (count G.first) 0 ≤ length C.up
  pub down_long : get_or G.first (count G.first) 0 ≤ length C.down

-- "A position's parent is the lowest entry of its row": the first entry, where the row has one
abbrev pub parent_at : (G : Graph) (p : ℕ) → ℕ
parent_at G p = get_or G.heads (get_or G.first p 0) 0
