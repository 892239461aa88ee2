-- One row: the least of a label and of what the row's places hand down. Assumes nothing.
use Prim.Native.Nat.{ℕ, zero, suc, ◌+◌, ◌≤◌, min}
use mathlib.Core.Path.{◌≡◌, refl}
use native.Mathlib.Omega.{arith}
use lib.Dec.{eqb}
use Rattle.rules.specs.Words.{least}
use Rattle.rules.specs.Costs.{closed, label_over}
use Rattle.theory.proofs.Words.{either, split, least_start}
use Rattle.sweep.specs.Swept.{far, cap}

-- a cost added to a capped label, or to the label itself
pub cap_over : (label cost : ℕ) → cap (label_over (cap label) cost) ≡ cap (label_over label cost)
cap_over label cost = either (split (eqb cost closed)) (λ e. rw e refl) (λ e. rw e (omega arith))

-- the least of capped numbers
pub cap_least : (f : ℕ → ℕ) (top n : ℕ) → cap (least f top n) ≡ least (λ i. cap (f i)) (cap top) n
unfolding least
cap_least f top zero = refl
cap_least f top (suc n) = omega (arith, cap_least f top n)

-- no place yet
pub row_start : (f : ℕ → ℕ) (label : ℕ) → label ≡ least f label 0
unfolding least
row_start f label = refl

-- one place more
pub row_more : (f : ℕ → ℕ) (label i best more : ℕ) → best ≡ least f label i → more ≡ min best (f i) → more ≡ least f label (i + 1)
unfolding least
row_more f label i best more e g =
    let s : i + 1 ≡ suc i = omega arith in
    rw s (omega arith)

-- two places more
pub row_two : (f : ℕ → ℕ) (label i best one two : ℕ) → best ≡ least f label i → one ≡ min best (f i) → two ≡ min one (f (i + 1)) → two ≡ least f label (i + 2)
row_two f label i best one two e g h =
    let s : i + 2 ≡ i + 1 + 1 = omega arith in
    rw s (row_more f label (i + 1) one two (row_more f label i best one e g) h)

-- the best so far is never over FAR
pub row_far : (f : ℕ → ℕ) (label i : ℕ) {best : ℕ} → best ≡ least f (cap label) i → best ≤ far
row_far f label i e = omega (arith, least_start f (cap label) i)

-- every place
pub row_all : (f : ℕ → ℕ) (label i n best : ℕ) → best ≡ least f label i → i ≤ n → n ≤ i → best ≡ least f label n
row_all f label i n best e a b = let s : i ≡ n = omega arith in rw s at e
