-- Which edges of the row of x are reconsidered: each is marked at its higher end. Assumes nothing.
use Rattle.std.specs.Prelude.{ℕ, ◌≤◌, ◌<◌, ◌≡◌, ◌⊎◌, Bool, true, false, ◌||◌, List, T, length, get_or, set}
use Rattle.rules.specs.Graph.{Graph}
use Rattle.theory.specs.Rows.{InRow, count}
use Rattle.reconsider.specs.Flags.{flagged}

-- a list of answers says yes of a position
abbrev pub says : (l : List Bool) (p : ℕ) → Bool
says l p = get_or l p false

-- it says yes of none
pub record Clear (marks : List Bool) : Type 0 where
  pub long : length marks ≡ 4096
  pub none : (y : ℕ) → T (says marks y) → ⊥

-- a row of which some place is flagged is said to be so
pub record Dirty (G : Graph) (flags : List ℕ) (dirty : List Bool) : Type 0 where
  pub long : length dirty ≡ 4096
  pub shown : (z k : ℕ) → z < count G.first → InRow G z k → T (flagged flags k) → T (says dirty z)

-- y is marked if `yes` says so
pub data MarkedAt (y : ℕ) (yes : Bool) (marks marks' : List Bool) : Type 0 where
  set_here : T yes → marks' ≡ set marks y true → MarkedAt y yes marks marks'
  not_here : (T yes → ⊥) → marks' ≡ marks → MarkedAt y yes marks marks'

-- of the places from a up to b, what stands at those that `yes` says is marked, and nothing else is marked anew
pub record MarkedOf (heads : List ℕ) (yes : ℕ → Bool) (a b : ℕ) (marks marks' : List Bool) : Type 0 where
  pub long : length marks' ≡ length marks
  pub hit : (k : ℕ) → a ≤ k → k < b → T (yes k) → T (says marks' (get_or heads k 0))
  pub stay : (y : ℕ) → T (says marks y) → T (says marks' y)
  pub made : (y : ℕ) → T (says marks' y) → T (says marks y) ⊎ ((k : ℕ) × (a ≤ k) × (k < b) × (get_or heads k 0 ≡ y) × T (yes k))

-- why the edge between x and the higher y is reconsidered: because its road changed, or because of a lower row that has both, with a flagged
-- edge to one of them
pub data Cause (G : Graph) (flags : List ℕ) (own : ℕ → Bool) (x y : ℕ) : Type 0 where
  road_changed : T (own y) → Cause G flags own x y
  row_changed : (z a b : ℕ) → z < x → InRow G z a → InRow G z b → get_or G.heads a 0 ≡ x → get_or G.heads b 0 ≡ y → x < y
      → T (flagged flags a || flagged flags b) → Cause G flags own x y

-- exactly those are marked
pub record MarkedRow (G : Graph) (flags : List ℕ) (own : ℕ → Bool) (x : ℕ) (marks : List Bool) : Type 0 where
  pub long : length marks ≡ 4096
  pub marked : (y : ℕ) → Cause G flags own x y → T (says marks y)
  pub cause : (y : ℕ) → T (says marks y) → Cause G flags own x y
