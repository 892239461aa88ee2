-- What each check of the lists establishes or gives, by its number. Assumes nothing.
use Prim.Native.Nat.{ℕ, ◌≤◌, ◌<◌}
use mathlib.Core.Path.{◌≡◌, refl, ap}
use mathlib.Core.Bool.{not, ◌||◌}
use mathlib.Core.List.{List, [], ◌∷◌}
use native.Mathlib.Omega.{arith}
use lib.Dec.{T, eqb, leb}
use Rattle.std.specs.List.{list_any}
use lib.ListN.{get_or}
use Rattle.rules.specs.Refusals.{differ, end_fault}
use Rattle.theory.proofs.Words.{either, or_l, or_r, or_e, leb_i, leb_e}

-- 2, of lists of which some may be of another length
pub differ_any : (m : ℕ) (ks : List ℕ) → list_any (λ k. not (eqb k m)) ks ≡ differ m ks
unfolding differ
differ_any m [] = refl
differ_any m (k ∷ ks) = ap (λ b. not (eqb k m) || b) (differ_any m ks)

-- ---- 3: ends of arcs

pub tail_fault : (n : ℕ) (tails heads : List ℕ) (i : ℕ) → n ≤ get_or tails i 0 → T (end_fault n tails heads i)
tail_fault n tails heads i h = or_l (leb n (get_or tails i 0)) (leb n (get_or heads i 0)) (leb_i n (get_or tails i 0) h)

pub head_fault : (n : ℕ) (tails heads : List ℕ) (i : ℕ) → n ≤ get_or heads i 0 → T (end_fault n tails heads i)
head_fault n tails heads i h = or_r (leb n (get_or tails i 0)) (leb n (get_or heads i 0)) (leb_i n (get_or heads i 0) h)

pub ends_good : (n : ℕ) (tails heads : List ℕ) (i : ℕ) → get_or tails i 0 < n → get_or heads i 0 < n → T (end_fault n tails heads i) → ⊥
ends_good n tails heads i g h t =
    either (or_e (leb n (get_or tails i 0)) (leb n (get_or heads i 0)) t)
    (λ u. omega (arith, leb_e n (get_or tails i 0) u))
    (λ u. omega (arith, leb_e n (get_or heads i 0) u))
