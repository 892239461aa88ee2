-- Numbers parted by what a function gives for them, each part threaded from its last number down. Assumes nothing.
use Rattle.std.specs.Prelude.{ℕ, zero, suc, ◌<◌, ◌≡◌, Bool, cond, List, eqb, length, get_or}

-- one more than the last number below k that passes; 0 if none does
unfoldable pub last_below : (passes : ℕ → Bool) (k : ℕ) → ℕ
last_below passes zero = 0
last_below passes (suc k) = cond (passes k) (suc k) (last_below passes k)

-- the numbers below i, parted by f, of parts numbered below `parts`: at[q] has the last number of part q, next[j] the one before j of j's part,
-- each plus 1; 0 stands for none
pub record Threaded (f : ℕ → ℕ) (parts room i : ℕ) (at next : List ℕ) : Type 0 where
  pub at_long : length at ≡ 4096
  pub next_long : length next ≡ room
  pub lasts : (q : ℕ) → q < parts → get_or at q 0 ≡ last_below (λ j. eqb (f j) q) i
  pub befores : (j : ℕ) → j < i → f j < parts → get_or next j 0 ≡ last_below (λ k. eqb (f k) (f j)) j

-- what is left of s after a step for each number below k that passes, from the last down
unfoldable pub downward : {A : Type 0} (passes : ℕ → Bool) (step : ℕ → A → A) (k : ℕ) (s : A) → A
downward passes step zero s = s
downward passes step (suc j) s = downward passes step j (cond (passes j) (step j s) s)
