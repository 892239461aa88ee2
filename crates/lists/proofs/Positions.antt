-- The lower and the higher of two positions, and which of two is lower, in numbers. Assumes nothing.
use Prim.Native.Nat.{ℕ, ◌≤◌, ◌<◌, min, max}
use mathlib.Core.Path.{◌≡◌, refl, sym, ap, ◌∙◌}
use mathlib.Core.Bool.{true, false}
use native.Mathlib.Omega.{arith}
use lib.Dec.{eqb, ltb}
use borrow.Author.Tests.{ltb-true, ltb-false, eqb-true, eqb-false}
use Rattle.std.specs.Ordering.{nat_cmp, is_lt, ord_min, ord_max}
use Rattle.std.specs.Cmp.{nat_cmp_is}
use Rattle.std.proofs.Common.{Equal, Greater}
use Rattle.std.proofs.lemmas.Map.Keys.{ge_from_not_lt}
use Rattle.rules.specs.declared.Position.{Position}
use Rattle.theory.proofs.Words.{either, split, true_false}

-- a position that the comparison tells lower is lower
pub lower_e : (a b : ℕ) → true ≡ is_lt (nat_cmp a b) → a < b
lower_e a b e =
    either (split (ltb a b))
    (λ t. ltb-true a b t)
    (λ f.
    either (split (eqb a b))
    (λ t. true_false (e ∙ ap is_lt (sym (nat_cmp_is a b Equal (eqb-true a b t)))))
    (λ n. true_false (e ∙ ap is_lt (sym (nat_cmp_is a b Greater (omega (arith, ltb-false a b f, eqb-false a b n)))))))

-- one that it does not tell lower is not
pub not_lower_e : (a b : ℕ) → false ≡ is_lt (nat_cmp a b) → b ≤ a
not_lower_e a b e = ge_from_not_lt a b (sym e)

pub min_is : (a b : Position) {p : Position} → p ≡ ord_min (λ (x : Position) (y : Position). nat_cmp x.0 y.0) a b → p.0 ≡ min a.0 b.0
min_is a b {p} e =
    either (split (is_lt (nat_cmp b.0 a.0)))
    (λ t. let f : p ≡ b = e ∙ rw t refl in ap (λ (x : Position). x.0) f ∙ omega (arith, lower_e b.0 a.0 (sym t)))
    (λ t. let f : p ≡ a = e ∙ rw t refl in ap (λ (x : Position). x.0) f ∙ omega (arith, ge_from_not_lt b.0 a.0 t))

pub max_is : (a b : Position) {p : Position} → p ≡ ord_max (λ (x : Position) (y : Position). nat_cmp x.0 y.0) a b → p.0 ≡ max a.0 b.0
max_is a b {p} e =
    either (split (is_lt (nat_cmp b.0 a.0)))
    (λ t. let f : p ≡ a = e ∙ rw t refl in ap (λ (x : Position). x.0) f ∙ omega (arith, lower_e b.0 a.0 (sym t)))
    (λ t. let f : p ≡ b = e ∙ rw t refl in ap (λ (x : Position). x.0) f ∙ omega (arith, ge_from_not_lt b.0 a.0 t))
