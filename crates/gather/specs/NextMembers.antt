-- A set of positions above one position p and below n, and the array that holds it by next members. Assumes nothing.
use Rattle.std.specs.Prelude.{ℕ, suc, ◌-◌, ◌≤◌, ◌<◌, ◌≡◌, ◌⊎◌, Bool, false, ◌||◌, List, [], ◌∷◌, T, eqb, length, get_or}
use Rattle.rules.specs.Words.{those}
use Rattle.rules.specs.Hierarchy.{ascends}

-- the set without a member
abbrev pub nobody : (q : ℕ) → Bool
nobody q = false

-- the set with y put in
unfoldable pub also : (S : ℕ → Bool) (y q : ℕ) → Bool
also S y q = S q || eqb q y

-- the set with the entries of a list put in, one by one
unfoldable pub also_all : (entries : List ℕ) (S : ℕ → Bool) → ℕ → Bool
unfolding also
also_all [] S = S
also_all (y ∷ ys) S = also_all ys (also S y)

-- the members above p and below n, in ascending order
abbrev pub members : (S : ℕ → Bool) (n p : ℕ) → List ℕ
members S n p = those S (suc p) (n - suc p)

-- z is the lowest member above x, or n if there is none
pub record NextAbove (S : ℕ → Bool) (n x z : ℕ) : Type 0 where
  pub above : x < z
  pub within : z ≤ n
  pub member : z < n → T (S z)
  pub between : (q : ℕ) → x < q → q < z → T (S q) → ⊥

-- the array holds the set: its members lie above p and below n, and at p and at each member stands the next member, or n
pub record Holds (S : ℕ → Bool) (n p : ℕ) (after : List ℕ) : Type 0 where
  pub bounds : (q : ℕ) → T (S q) → (p < q) × (q < n)
  pub next : (x : ℕ) → (x ≡ p) ⊎ T (S x) → NextAbove S n x (get_or after x 0)

-- every place of the array points upward, whatever set it holds: so that every walk along it ends
pub record Rises (after : List ℕ) : Type 0 where
  pub long : length after ≡ 4096
  pub rise : (x : ℕ) → x < 4096 → x < get_or after x 0

-- y was put in, from a place that is p or a member: whatever set the array held before, it now holds that set with y
pub record PutIn (from y : ℕ) (before after : List ℕ) : Type 0 where
  pub holds : (S : ℕ → Bool) (n p : ℕ) → Holds S n p before → n ≤ 4096 → y < n → (from ≡ p) ⊎ T (S from) → Holds (also S y) n p after

-- the entries of a list were put in, from a place that is p or a member: whatever set the array held before, it now holds that set with them
pub record AllPutIn (entries : List ℕ) (n from : ℕ) (before after : List ℕ) : Type 0 where
  pub holds : (S : ℕ → Bool) (p : ℕ) → Holds S n p before → (from ≡ p) ⊎ T (S from) → Holds (also_all entries S) n p after

-- the entries ascend, above p and below n: they can be put into the set of p
pub record AscendingPart (entries : List ℕ) (n p : ℕ) : Type 0 where
  pub few : n ≤ 4096
  pub inside : p < n
  pub ascend : T (ascends (suc p) n entries)
