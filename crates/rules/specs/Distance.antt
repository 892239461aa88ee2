-- "Distance", over any joined pairs and any costs: cost says what an edge costs from one position to another. Assumes nothing.
use Rattle.std.specs.Prelude.{ℕ, zero, suc, Bool, cond, not, ◌&&◌, eqb, ltb}
use Rattle.rules.specs.declared.Direction.TheVariants.{Up, Down}
use Rattle.rules.specs.Words.{least, lowest, sum_to}
use Rattle.rules.specs.Costs.{closed, none}
use Rattle.rules.specs.Hierarchy.{along}

-- "label(q) + up cost of (q, p)"; "A CLOSED cost gives no label"
abbrev pub hands_on : (joined : ℕ → ℕ → Bool) (step : ℕ → ℕ → ℕ) (label : ℕ → ℕ) (p q : ℕ) → ℕ
hands_on joined step label p q = cond (joined q p && not (eqb (step q p) closed)) (sum_to none (label q) (step q p)) none

-- "From the start s, label s with 0; any higher position p gets the least of label(q) + up cost of (q, p) over lower labelled q, or no
-- label": step q p is the up cost of (q, p), or, "From the target t likewise with down costs", its down cost; k bounds how often p falls
unfoldable pub label_within : (joined : ℕ → ℕ → Bool) (step : ℕ → ℕ → ℕ) (s k p : ℕ) → ℕ
unfolding least
label_within joined step s zero p = none
label_within joined step s (suc k) p =
    cond (eqb p s) 0 (cond (ltb s p) (least (hands_on joined step (label_within joined step s k) p) none p) none)

-- the label of p
unfoldable pub label : (joined : ℕ → ℕ → Bool) (step : ℕ → ℕ → ℕ) (s p : ℕ) → ℕ
unfolding label_within
label joined step s p = label_within joined step s (suc p) p

-- "Ties: the lowest q": where the label of p comes from
unfoldable pub label_from : (joined : ℕ → ℕ → Bool) (step : ℕ → ℕ → ℕ) (s p : ℕ) → ℕ
unfolding lowest label
label_from joined step s p =
    lowest (λ q. eqb (hands_on joined step (label joined step s) p q) (label joined step s p)) 0 p

-- "sum of both labels at one position": from the start with up costs, from the target with down costs
unfoldable pub both_labels : (joined : ℕ → ℕ → Bool) (cost : ℕ → ℕ → ℕ) (s t p : ℕ) → ℕ
unfolding label
both_labels joined cost s t p =
    sum_to none (label joined (along Up cost) s p) (label joined (along Down cost) t p)

-- "The distance is the least sum of both labels at one position, or "none""
unfoldable pub distance : (n : ℕ) (joined : ℕ → ℕ → Bool) (cost : ℕ → ℕ → ℕ) (s t : ℕ) → ℕ
unfolding least both_labels
distance n joined cost s t = least (both_labels joined cost s t) none n

-- "the lowest meeting position"
unfoldable pub meeting : (n : ℕ) (joined : ℕ → ℕ → Bool) (cost : ℕ → ℕ → ℕ) (s t : ℕ) → ℕ
unfolding lowest distance both_labels
meeting n joined cost s t =
    lowest (λ p. eqb (both_labels joined cost s t p) (distance n joined cost s t)) 0 n
