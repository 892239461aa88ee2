-- The order looked at once through a list of what was seen, and its inverse written down. Assumes nothing.
use Prim.Native.Nat.{ℕ, ◌+◌, ◌≤◌, ◌<◌}
use mathlib.Core.Path.{◌≡◌, refl, sym, ap, ◌∙◌}
use mathlib.Core.Logic.{◌≢◌}
use mathlib.Core.Bool.{Bool, true, false}
use mathlib.Core.List.{List}
use native.Mathlib.Omega.{arith}
use lib.Dec.{T, eqb, leb}
use lib.ListN.{length, get_or, set, replicate, length-set, get_or-replicate}
use lib.Seq.{get_or-set_same, get_or-set_other}
use borrow.Author.Tests.{eqb-true, eqb-false}
use Rattle.rules.specs.Words.{some, each}
use Rattle.rules.specs.Net.{rank_list}
use Rattle.rules.specs.Hierarchy.{inverts}
use Rattle.rules.specs.Refusals.{order_fault}
use Rattle.theory.proofs.Words.{either, split, true_false, or_l, or_r, or_e, and_i, eqb_i, eqb_e, leb_i, leb_e, some_i, some_e, each_i}
use Rattle.theory.specs.Orders.{Ordered}
use Rattle.theory.proofs.Orders.{inverse, inverse_is}

-- ---- 4: the order

-- what `seen` holds once the positions below p have been looked at: true exactly for the junctions that stand there
pub record Seen (order : List ℕ) (p : ℕ) (seen : List Bool) : Type 0 where
  pub long : length seen ≡ 4096
  pub met : (j : ℕ) → j < 4096 → get_or seen j false ≡ true → (q : ℕ) × (q < p) × (get_or order q 0 ≡ j)
  pub unmet : (j q : ℕ) → j < 4096 → get_or seen j false ≡ false → q < p → get_or order q 0 ≢ j

pub seen_none : (order : List ℕ) → Seen order 0 (replicate 4096 false)
seen_none order =
    record {
      long = refl;
      met = λ j l e. true_false (sym e ∙ get_or-replicate {A = Bool} 4096 j false false l);
      unmet = λ j q l e h. absurd (omega arith);
    }

pub seen_more : {order : List ℕ} {p : ℕ} {seen : List Bool} (j : ℕ) → Seen order p seen → j ≡ get_or order p 0 → j < 4096 → Seen order (p + 1) (set seen j true)
seen_more {order} {p} {seen} j s e l =
    let wide : j < length seen = omega (arith, s.long) in
    record {
      long = length-set seen j true ∙ s.long;
      met = λ i h t.
          either (split (eqb i j))
          (λ d. (p, omega arith, sym e ∙ sym (eqb-true i j d)))
          (λ d.
          let (q, m, f) = s.met i h (sym (get_or-set_other seen j i true false (eqb-false i j d)) ∙ t) in
          (q, omega arith, f));
      unmet = λ i q h t m f.
          either (split (eqb i j))
          (λ d. true_false (sym (ap (λ x. get_or (set seen j true) x false) (eqb-true i j d) ∙ get_or-set_same seen j true false wide) ∙ t))
          (λ d.
          either (split (eqb q p))
          (λ g. eqb-false i j d (sym f ∙ ap (λ x. get_or order x 0) (eqb-true q p g) ∙ sym e))
          (λ g. s.unmet i q h (sym (get_or-set_other seen j i true false (eqb-false i j d)) ∙ t) (omega (arith, eqb-false q p g)) f));
    }

pub large_fault : (order : List ℕ) (p j : ℕ) → j ≡ get_or order p 0 → length order ≤ j → T (order_fault order p)
large_fault order p j e h =
    or_l (leb (length order) (get_or order p 0)) (some (λ q. eqb (get_or order q 0) (get_or order p 0)) p) (leb_i (length order) (get_or order p 0) (omega arith))

pub twice_fault : {order : List ℕ} {p : ℕ} {seen : List Bool} (j : ℕ) → Seen order p seen → j ≡ get_or order p 0 → j < 4096 → get_or seen j false ≡ true → T (order_fault order p)
twice_fault {order} {p} j s e l t =
    let (q, h, f) = s.met j l t in
    or_r (leb (length order) (get_or order p 0)) (some (λ q. eqb (get_or order q 0) (get_or order p 0)) p)
    (some_i (λ q. eqb (get_or order q 0) (get_or order p 0)) p q h (eqb_i (get_or order q 0) (get_or order p 0) (f ∙ e)))

pub entry_good : {order : List ℕ} {p : ℕ} {seen : List Bool} (j : ℕ) → Seen order p seen → j ≡ get_or order p 0 → j < length order → j < 4096 → get_or seen j false ≡ false
    → T (order_fault order p) → ⊥
entry_good {order} {p} j s e h l f t =
    either (or_e (leb (length order) (get_or order p 0)) (some (λ q. eqb (get_or order q 0) (get_or order p 0)) p) t)
    (λ u. omega (arith, leb_e (length order) (get_or order p 0) u))
    (λ u.
    let (q, m, d) = some_e (λ q. eqb (get_or order q 0) (get_or order p 0)) p u in
    s.unmet j q l f m (eqb_e (get_or order q 0) (get_or order p 0) d ∙ sym e))

-- ---- the rank list

-- the positions below p are written down at their junctions
pub record Ranking (order : List ℕ) (p : ℕ) (rank : List ℕ) : Type 0 where
  pub within : p ≤ length order
  pub long : length rank ≡ length order
  pub there : (q : ℕ) → q < p → get_or rank (get_or order q 0) 0 ≡ q

pub ranking_more : {order : List ℕ} {p : ℕ} {rank : List ℕ} (j : ℕ) → Ordered order → Ranking order p rank → p < length order → j ≡ get_or order p 0
    → Ranking order (p + 1) (set rank j p)
ranking_more {order} {p} {rank} j o r h e =
    let wide : j < length rank = omega (arith, r.long, o.within p h) in
    record {
      within = omega arith;
      long = length-set rank j p ∙ r.long;
      there = λ q l.
          either (split (eqb q p))
          (λ d.
          let x : get_or order q 0 ≡ j = ap (λ k. get_or order k 0) (eqb-true q p d) ∙ sym e in
          ap (λ k. get_or (set rank j p) k 0) x ∙ get_or-set_same rank j p 0 wide ∙ sym (eqb-true q p d))
          (λ d.
          let m : q < p = omega (arith, eqb-false q p d) in
          let n : get_or order q 0 ≢ j = λ f. eqb-false q p d (o.once q p (omega arith) h (f ∙ e)) in
          get_or-set_other rank j (get_or order q 0) p 0 n ∙ r.there q m);
    }

pub ranking_all : {order : List ℕ} {p : ℕ} {rank : List ℕ} → Ordered order → Ranking order p rank → length order ≤ p → rank ≡ rank_list order
unfolding inverts
ranking_all {order} {p} {rank} o r h = inverse_is o (inverse rank o inverted)
  where
    inverted : T (inverts order rank)
    inverted =
        and_i (eqb (length rank) (length order)) (each (λ q. eqb (get_or rank (get_or order q 0) 0) q) (length order))
        (eqb_i (length rank) (length order) r.long)
        (each_i (λ q. eqb (get_or rank (get_or order q 0) 0) q) (length order)
        (λ q l. eqb_i (get_or rank (get_or order q 0) 0) q (r.there q (omega arith))))
