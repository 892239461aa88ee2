-- "labels from the start upward, then all positions from the highest down, each taking the least over its higher neighbours", over any joined
-- pairs: step a b is the cost from a to b, or, for "the mirror sweep", from b to a. Assumes nothing.
use Rattle.std.specs.Prelude.{ℕ, zero, suc, ◌-◌, Bool, cond, ltb}
use Rattle.rules.specs.Words.{least}
use Rattle.rules.specs.Costs.{none}
use Rattle.rules.specs.Distance.{hands_on, label}

-- what a higher neighbour q hands on to p, as a lower one does when p gets its label
abbrev pub hands_down : (joined : ℕ → ℕ → Bool) (step : ℕ → ℕ → ℕ) (reach : ℕ → ℕ) (p q : ℕ) → ℕ
hands_down joined step reach p q = cond (ltb p q) (hands_on joined step reach p q) none

-- "each taking the least over its higher neighbours": of its label and of what they hand on; k bounds how often p rises
unfoldable pub reach_within : (n : ℕ) (joined : ℕ → ℕ → Bool) (step : ℕ → ℕ → ℕ) (s k p : ℕ) → ℕ
unfolding least label
reach_within n joined step s zero p = none
reach_within n joined step s (suc k) p =
    least (hands_down joined step (reach_within n joined step s k) p) (label joined step s p) n

-- what the sweep from s finds for p
unfoldable pub reach : (n : ℕ) (joined : ℕ → ℕ → Bool) (step : ℕ → ℕ → ℕ) (s p : ℕ) → ℕ
unfolding reach_within
reach n joined step s p = reach_within n joined step s (n - p) p
