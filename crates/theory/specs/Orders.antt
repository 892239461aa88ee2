-- The order and its inverse, as plain facts. Assumes nothing.
use Rattle.std.specs.Prelude.{ℕ, ◌<◌, ◌≡◌, List, length, get_or}

-- each position seats a junction of the net, and no two seat the same
pub record Ordered (order : List ℕ) : Type 0 where
  pub within : (p : ℕ) → p < length order → get_or order p 0 < length order
  pub once : (p q : ℕ) → p < length order → q < length order → get_or order p 0 ≡ get_or order q 0 → p ≡ q

-- the rank list tells the position of each junction
pub record Inverse (order rank : List ℕ) : Type 0 where
  pub long : length rank ≡ length order
  pub position : (j : ℕ) → j < length order → get_or rank j 0 < length order
  pub there : (j : ℕ) → j < length order → get_or order (get_or rank j 0) 0 ≡ j
  pub back : (p : ℕ) → p < length order → get_or rank (get_or order p 0) 0 ≡ p
