-- Parents and chains of parents, over any joined places. Assumes nothing.
use Rattle.std.specs.Prelude.{ℕ, ◌≤◌, ◌<◌, ◌≢◌}

-- c is the lowest place above p that is joined to p
pub record Parent (joined : ℕ → ℕ → Type 0) (p c : ℕ) : Type 0 where
  pub above : p < c
  pub edge : joined p c
  pub lowest : (q : ℕ) → p < q → joined p q → c ≤ q

-- each other higher neighbour of a place is joined to its parent
abbrev pub Tree : (joined : ℕ → ℕ → Type 0) → Type 0
Tree joined = (p c q : ℕ) → Parent joined p c → p < q → q ≢ c → joined p q → joined c q

-- from z, going from parent to parent, p is reached
pub data Chain (joined : ℕ → ℕ → Type 0) (p : ℕ) : ℕ → Type 0 where
  here : Chain joined p p
  higher : {z c : ℕ} → Parent joined z c → Chain joined p c → Chain joined p z
