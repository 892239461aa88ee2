-- The words that the paper's sentences are built from: some, each, the lowest, the least, the total, how many, those, one by one.
-- Each computes. Assumes nothing.
use Rattle.std.specs.Prelude.{ℕ, zero, suc, ◌+◌, min, Bool, true, false, cond, ◌&&◌, ◌||◌, List, [], ◌∷◌, eqb}

-- some number below n passes
unfoldable pub some : (passes : ℕ → Bool) (n : ℕ) → Bool
some passes zero = false
some passes (suc n) = some passes n || passes n

-- each number below n passes
unfoldable pub each : (passes : ℕ → Bool) (n : ℕ) → Bool
each passes zero = true
each passes (suc n) = each passes n && passes n

-- the lowest of the k numbers from i on that passes; i + k if none does
unfoldable pub lowest : (passes : ℕ → Bool) (i k : ℕ) → ℕ
lowest passes i zero = i
lowest passes i (suc k) = cond (passes i) i (lowest passes (suc i) k)

-- the least of top and what f gives for the numbers below n
unfoldable pub least : (f : ℕ → ℕ) (top n : ℕ) → ℕ
least f top zero = top
least f top (suc n) = min (least f top n) (f n)

-- what f gives for the numbers below n, added up
unfoldable pub total : (f : ℕ → ℕ) (n : ℕ) → ℕ
total f zero = 0
total f (suc n) = total f n + f n

-- how many numbers below n pass
unfoldable pub how_many : (passes : ℕ → Bool) (n : ℕ) → ℕ
unfolding total
how_many passes n = total (λ i. cond (passes i) 1 0) n

-- those of the k numbers from i on that pass, in ascending order
unfoldable pub those : (passes : ℕ → Bool) (i k : ℕ) → List ℕ
those passes i zero = []
those passes i (suc k) = cond (passes i) (i ∷ those passes (suc i) k) (those passes (suc i) k)

-- what f gives for the k numbers from i on, one by one
unfoldable pub tabulate : (f : ℕ → ℕ) (i k : ℕ) → List ℕ
tabulate f i zero = []
tabulate f i (suc k) = f i ∷ tabulate f (suc i) k

-- y stands in the list
unfoldable pub has : List ℕ → ℕ → Bool
has [] y = false
has (x ∷ xs) y = eqb x y || has xs y

-- a + b, or the top if that is no more: the top stands for "closed" or "none", and swallows what is added to it
abbrev pub sum_to : (top a b : ℕ) → ℕ
sum_to top a b = min (a + b) top
