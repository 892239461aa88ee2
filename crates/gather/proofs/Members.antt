-- Who is a member once something has been put in, and the members in ascending order. Assumes nothing.
use Prim.Native.Nat.{ℕ, suc, ◌+◌, ◌-◌}
use mathlib.Core.Path.{◌≡◌, refl, sym, ap, ◌∙◌}
use mathlib.Core.Logic.{◌⊎◌, inl, inr}
use mathlib.Core.Bool.{Bool}
use mathlib.Core.List.{List, [], ◌∷◌}
use native.Mathlib.Omega.{arith}
use lib.Dec.{T, eqb, ltb}
use lib.ListN.{get_or}
use borrow.Author.Tests.{ltb-true, ltb-false}
use Rattle.rules.specs.Words.{those, has}
use Rattle.theory.proofs.Words.{either, split, or_l, or_r, or_e, eqb_e, eqb_i, has_nil, has_cons, has_here, has_there}
use Rattle.theory.proofs.Those.{those_here, those_skip}
use Rattle.gather.specs.NextMembers.{also, also_all, NextAbove, members}

-- ---- members of a set with more put in

-- a member of the set with y is a member of the set, or y
pub also_e : (S : ℕ → Bool) (y q : ℕ) → T (also S y q) → T (S q) ⊎ (q ≡ y)
unfolding also
also_e S y q t = either (or_e (S q) (eqb q y) t) (λ s. inl s) (λ s. inr (eqb_e q y s))

-- a member stays a member
pub also_l : (S : ℕ → Bool) (y q : ℕ) → T (S q) → T (also S y q)
unfolding also
also_l S y q t = or_l (S q) (eqb q y) t

-- and y is one
pub also_r : (S : ℕ → Bool) (y q : ℕ) → q ≡ y → T (also S y q)
unfolding also
also_r S y q e = or_r (S q) (eqb q y) (eqb_i q y e)

-- a member of the set with a list is a member of the set, or an entry of the list
pub all_e : (ys : List ℕ) (q : ℕ) (S : ℕ → Bool) → T (also_all ys S q) → T (S q) ⊎ T (has ys q)
unfolding also_all
all_e [] q S t = inl t
all_e (y ∷ ys) q S t =
    either (all_e ys q (also S y) t)
    (λ s. either (also_e S y q s) (λ r. inl r) (λ e. inr (has_here y q ys (sym e))))
    (λ h. inr (has_there y q ys h))

-- a member stays a member
pub all_l : (ys : List ℕ) (q : ℕ) (S : ℕ → Bool) → T (S q) → T (also_all ys S q)
unfolding also_all
all_l [] q S t = t
all_l (y ∷ ys) q S t = all_l ys q (also S y) (also_l S y q t)

-- and every entry is one
pub all_r : (ys : List ℕ) (q : ℕ) (S : ℕ → Bool) → T (has ys q) → T (also_all ys S q)
unfolding also_all
all_r [] q S t = absurd (has_nil q t)
all_r (y ∷ ys) q S t =
    either (has_cons y q ys t)
    (λ e. all_l ys q (also S y) (also_r S y q (sym e)))
    (λ h. all_r ys q (also S y) h)

-- one entry more
pub all_more : (y : ℕ) (ys : List ℕ) (S : ℕ → Bool) → also_all (y ∷ ys) S ≡ also_all ys (also S y)
unfolding also_all
all_more y ys S = refl

-- no entry more
pub all_none : (S : ℕ → Bool) → also_all [] S ≡ S
unfolding also_all
all_none S = refl

-- ---- members in ascending order

-- the members above x are those from the next member on
pub those_next : (S : ℕ → Bool) (n x z : ℕ) → NextAbove S n x z → members S n x ≡ those S z (n - z)
those_next S n x z a =
    let e : n - suc x ≡ (z - suc x) + (n - z) = omega (arith, a.above, a.within) in
    let f : suc x + (z - suc x) ≡ z = omega (arith, a.above) in
    rw e (those_skip S (suc x) (z - suc x) (n - z) (λ q l m. a.between q (omega arith) (omega (arith, a.above))) ∙ ap (λ i. those S i (n - z)) f)

-- the first member is the next above p; n if there is none
pub first_member : (S : ℕ → Bool) (n p z : ℕ) → NextAbove S n p z → get_or (members S n p) 0 n ≡ z
unfolding those
first_member S n p z a =
    ap (λ l. get_or l 0 n) (those_next S n p z a)
    ∙ either (split (ltb z n))
    (λ e.
    let l = ltb-true z n e in
    let k : n - z ≡ suc (n - suc z) = omega arith in
    ap (λ m. get_or (those S z m) 0 n) k ∙ ap (λ l. get_or l 0 n) (those_here S z (n - suc z) (a.member l)))
    (λ e.
    let l = ltb-false z n e in
    let k : n - z ≡ 0 = omega arith in
    let m : n ≡ z = omega (arith, a.within) in
    ap (λ m. get_or (those S z m) 0 n) k ∙ m)
