-- "at most all lower triangles of the graph". Assumes nothing.
use Prim.Native.Nat.{ℕ, ◌≤◌}
use mathlib.Core.Bool.{Bool, true, false, cond, ◌&&◌}
use native.Mathlib.Omega.{arith}
use lib.Dec.{T, ltb}
use Rattle.rules.specs.Changed.{triangles_of, triangles_from, triangles, all_triangles, looked_at, reconsidered, new_cost}
use Rattle.theory.proofs.Words.{and_l, and_i}
use Rattle.theory.proofs.Totals.{total_le}

-- what is taken only if a narrower test passes is no more
cond_le : (s t : Bool) (v : ℕ) → (T s → T t) → cond s v 0 ≤ cond t v 0
cond_le true true v h = omega arith
cond_le true false v h = absurd (h tt)
cond_le false t v h = omega arith

-- whichever edges pass, they have no more lower triangles than all edges
pub triangles_le : (joined passes : ℕ → ℕ → Bool) (n : ℕ) → triangles joined passes n ≤ all_triangles joined n
unfolding triangles triangles_from
triangles_le joined passes n =
    total_le (λ x. triangles_from joined (λ a b. true) n x) (triangles_from joined passes n) n
    (λ x l. total_le (λ y. cond (ltb x y && joined x y && true) (triangles_of joined x y) 0)
    (λ y. cond (ltb x y && joined x y && passes x y) (triangles_of joined x y) 0) n
    (λ y m. cond_le (ltb x y && joined x y && passes x y) (ltb x y && joined x y && true) (triangles_of joined x y)
    (λ t. and_i (ltb x y && joined x y) true (and_l (ltb x y && joined x y) (passes x y) t) tt)))

-- those looked at, too
pub looked_le : (joined : ℕ → ℕ → Bool) (before after old : ℕ → ℕ → ℕ) (n : ℕ) → looked_at joined before after old n ≤ all_triangles joined n
unfolding looked_at
looked_le joined before after old n = triangles_le joined (reconsidered joined before after old (new_cost joined before after old)) n
