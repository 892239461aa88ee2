-- Costs: "A cost brings its own constants: zero, the greatest arc cost, and CLOSED". Assumes nothing.
use Rattle.std.specs.Prelude.{ℕ, ◌+◌, min, Bool, cond, not, ◌&&◌, eqb}
use Rattle.rules.specs.declared.Cost.{Cost}
use Rattle.rules.specs.Words.{sum_to}

-- "CLOSED = 4,294,967,295"
abbrev pub closed : ℕ
closed = 4294967295

-- "Costs are in tenths of a second, 1 to 500,000"
abbrev pub greatest : ℕ
greatest = 500000

-- "Distances are 64-bit numbers": the number that stands for no label and no distance, which no sum of costs reaches
abbrev pub none : ℕ
none = 18446744073709551615

-- "A sum with CLOSED is CLOSED"
abbrev pub sum : (a b : ℕ) → ℕ
sum a b = sum_to closed a b

-- "whose costs are finite and add up to w": by a plain sum
abbrev pub add_up : (a b w : ℕ) → Bool
add_up a b w = not (eqb a closed) && not (eqb b closed) && eqb (a + b) w

-- "label(q) + up cost of (q, p)"; "A CLOSED cost gives no label"
abbrev pub label_over : (label cost : ℕ) → ℕ
label_over label cost = cond (not (eqb cost closed)) (sum_to none label cost) none

-- the cost that is a number, and the sum and the lesser of two costs
abbrev pub cost_of : ℕ → Cost
cost_of n = record { 0 = n }

abbrev pub sum_of : Cost → Cost → Cost
sum_of a b = cost_of (sum a.0 b.0)

abbrev pub least_of : Cost → Cost → Cost
least_of a b = cost_of (min a.0 b.0)
