-- The order and its inverse: an order that passes refusal 4 seats each junction once, and the rank list tells where. Assumes nothing.
use Prim.Native.Nat.{ℕ, zero, suc, ◌+◌, ◌-◌, ◌<◌, min}
use mathlib.Core.Path.{◌≡◌, refl, sym, ap, ◌∙◌}
use mathlib.Core.Logic.{◌≢◌}
use mathlib.Core.Bool.{Bool}
use mathlib.Core.List.{List}
use native.Mathlib.Omega.{arith}
use lib.Dec.{T, eqb, leb}
use lib.ListN.{length, get_or}
use lib.Seq.{ext_get_or}
use borrow.Author.Tests.{leb-false}
use Rattle.rules.specs.Words.{some}
use Rattle.rules.specs.Net.{rank_list, rank as seat}
use Rattle.rules.specs.Hierarchy.{inverts}
use Rattle.rules.specs.Refusals.{passes, check4, order_fault}
use Rattle.theory.proofs.Verdicts.{fails_at_e, fails_at_i}
use Rattle.theory.proofs.Words.{neither_below, holds_true, true_holds, true_false, split, either, and_l, and_r, and_i, or_l, or_r, or_e, eqb_e, eqb_i, leb_e, some_i, some_e, each_i, each_e, lowest_is, length_tabulate, tabulate_at}
use Rattle.theory.specs.Orders.{Ordered, Inverse}

-- ---- the order

-- an order that passes check 4 is such
pub ordered : (order : List ℕ) → check4 order ≡ passes → Ordered order
unfolding check4
ordered order h =
    record {
      within = λ p l. either (split (leb (length order) (get_or order p 0)))
          (λ e. absurd (sound p l (search (or_l, true_holds))))
          (λ e. leb-false (length order) (get_or order p 0) e);
      once = λ p q k l e. neither_below p q (λ b. repeated p q b l e) (λ b. repeated q p b k (sym e));
    }
  where
    sound : (p : ℕ) → p < length order → T (order_fault order p) → ⊥
    sound = λ p. fails_at_e 4 (order_fault order) (length order) p h

    repeated : (p q : ℕ) → p < q → q < length order → get_or order p 0 ≡ get_or order q 0 → ⊥
    repeated p q b l e = sound q l (search (or_r, some_i, eqb_i))

-- and such an order passes it
pub ordered_passes : {order : List ℕ} → Ordered order → check4 order ≡ passes
unfolding check4
ordered_passes {order} o =
    fails_at_i 4 (order_fault order) (length order)
    (λ p l t. either (or_e (leb (length order) (get_or order p 0)) (some (λ q. eqb (get_or order q 0) (get_or order p 0)) p) t)
    (λ s. omega (arith, leb_e, o.within p l))
    (λ s.
    let (q, b, u) = some_e (λ q. eqb (get_or order q 0) (get_or order p 0)) p s in
    omega (arith, o.once q p (omega arith) l (eqb_e (get_or order q 0) (get_or order p 0) u))))

-- ---- each junction is seated

-- the numbers but v, closed up, stay different
abbrev without : (v a : ℕ) → ℕ
without v a = min a v + (a - suc v)

without_apart : (v a b : ℕ) → a ≢ v → b ≢ v → without v a ≡ without v b → a ≡ b
without_apart v a b h k e = omega arith

-- different numbers below n that leave one out are fewer than n
left_out : (n m : ℕ) (f : ℕ → ℕ) (v : ℕ) → v < n → ((i : ℕ) → i < m → f i < n)
    → ((i k : ℕ) → i < k → k < m → f i ≢ f k) → ((i : ℕ) → i < m → f i ≢ v) → m < n
left_out zero m f v h below apart out = absurd (omega arith)
left_out (suc n) zero f v h below apart out = omega arith
left_out (suc n) (suc m) f v h below apart out =
    omega (
      arith,
      left_out n m (λ i. without v (f i)) (without v (f m)) (lands m (omega arith)) (λ i l. lands i (omega arith))
          (λ i k l b. parts i k l (omega arith)) (λ i l. parts i m l (omega arith)),
    )
  where
    lands : (i : ℕ) → i < suc m → without v (f i) < n
    lands i l = omega (arith, below i l, out i l)

    parts : (i k : ℕ) → i < k → k < suc m → without v (f i) ≢ without v (f k)
    parts i k l b e = apart i k l b (without_apart v (f i) (f k) (out i (omega arith)) (out k b) e)

-- every junction has a position
pub seated : {order : List ℕ} → Ordered order → (j : ℕ) → j < length order
    → (p : ℕ) × (p < length order) × (get_or order p 0 ≡ j)
seated {order} o j h =
    let n = length order in
    let at : ℕ → Bool = λ p. eqb (get_or order p 0) j in
    either (split (some at n))
    (λ e. let (p, l, t) = some_e at n (true_holds (some at n) e) in (p, l, eqb_e (get_or order p 0) j t))
    (λ e. absurd (omega (
      arith,
      left_out n n (λ p. get_or order p 0) j h o.within
          (λ i k l b d. omega (arith, o.once i k (omega arith) b d))
          (λ i l d. true_false (sym (holds_true (some at n) (some_i at n i l (eqb_i (get_or order i 0) j d))) ∙ e)),
    )))

-- ---- its inverse

-- a rank list that passes the test is the inverse, from both sides
pub inverse : {order : List ℕ} (rank : List ℕ) → Ordered order → T (inverts order rank) → Inverse order rank
unfolding inverts
inverse {order} rank o t =
    record {
      long = search (eqb_e, and_l);
      position = λ j h. let (p, l, e) = seated o j h in omega (arith, at_seat j p l e);
      there = λ j h. let (p, l, e) = seated o j h in ap (λ q. get_or order q 0) (at_seat j p l e) ∙ e;
      back = behind;
    }
  where
    behind : (p : ℕ) → p < length order → get_or rank (get_or order p 0) 0 ≡ p
    behind p h =
        eqb_e (get_or rank (get_or order p 0) 0) p
        (each_e (λ q. eqb (get_or rank (get_or order q 0) 0) q) (length order) p (search and_r) h)

    at_seat : (j p : ℕ) → p < length order → get_or order p 0 ≡ j → get_or rank j 0 ≡ p
    at_seat j p l e = ap (λ i. get_or rank i 0) (sym e) ∙ behind p l

-- the rank list of the definition passes the test
pub inverts_list : {order : List ℕ} → Ordered order → T (inverts order (rank_list order))
unfolding inverts rank_list
inverts_list {order} o = search (and_i, eqb_i, each_i, length_tabulate, back)
  where
    back : (p : ℕ) → p < length order → get_or (rank_list order) (get_or order p 0) 0 ≡ p
    back p h =
        tabulate_at (seat order) (length order) (get_or order p 0) 0 (o.within p h)
        ∙ lowest_is (λ q. eqb (get_or order q 0) (get_or order p 0)) 0 (length order) p (omega arith) (omega arith)
        (eqb_i (get_or order p 0) (get_or order p 0) refl)
        (λ q a b t. omega (arith, o.once q p (omega arith) h (eqb_e (get_or order q 0) (get_or order p 0) t)))

-- it is the inverse of the order
pub inverse_list : {order : List ℕ} → Ordered order → Inverse order (rank_list order)
inverse_list {order} o = inverse (rank_list order) o (inverts_list o)

-- and the only one
pub inverse_is : {order rank : List ℕ} → Ordered order → Inverse order rank → rank ≡ rank_list order
inverse_is {order} {rank} o v =
    let w = inverse_list o in
    ext_get_or 0 rank (rank_list order) (v.long ∙ sym w.long)
    (λ j h.
    let l : j < length order = omega (arith, v.long) in
    o.once (get_or rank j 0) (get_or (rank_list order) j 0) (v.position j l) (w.position j l) (v.there j l ∙ sym (w.there j l)))
