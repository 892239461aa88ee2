-- What the checks establish: one record of plain facts for roads, order, graph and costs that customise accepts. Assumes nothing.
use Prim.Native.Nat.{ℕ, suc, ◌≤◌, ◌<◌}
use mathlib.Core.Path.{◌≡◌, refl, sym, ◌∙◌, subst}
use mathlib.Core.Logic.{◌⊎◌, inl, inr, ◌≢◌}
use mathlib.Core.Bool.{Bool, false, not, ◌&&◌, ◌||◌}
use mathlib.Core.List.{List, [], ◌∷◌}
use native.Mathlib.Omega.{arith}
use lib.Dec.{T, eqb, ltb, leb}
use lib.ListN.{length, get_or, set, length-set}
use lib.Seq.{get_or-set_same, get_or-set_other}
use borrow.Author.Tests.{ltb-false, le-ltb, leb-false, lt-leb, eqb-false, eq-eqb, ne_eqb}
use Rattle.rules.specs.Costs.{closed, greatest, none}
use Rattle.rules.specs.Net.{Net, size, arcs}
use Rattle.rules.specs.Hierarchy.{EdgeCosts, is_hierarchy, its_e, linked}
use Rattle.rules.specs.Refusals.{passes, fails, first_failure, differ, unlawful, too_far, check1, check2, check3, check4, check5, check7, check8, check9, check10, check11, check15, check16, check17, check_new_cost}
use Rattle.rules.specs.Calls.{customise_checks, change_checks, distance_checks}
use Rattle.theory.proofs.Orders.{ordered, inverse}
use Rattle.theory.proofs.Rows.{rows, ranked, count_is, lists_of}
use Rattle.theory.proofs.Verdicts.{passes_fails, first_passes, fails_if_e, fails_at_e, fails_at_i}
use Rattle.theory.proofs.CheckGroups.{distance_last}
use Rattle.theory.proofs.Words.{either, split, same_or_not, true_holds, holds_true, true_false, or_l, or_r, and_i, and_l, and_r, neb_i, neb_e, eqb_e, leb_i, leb_e}
use Rattle.rules.specs.Graph.{Graph}
use Rattle.theory.specs.Accepted.{LawfulCost, Accepted, Asked}

-- ---- what each check establishes

not_or_l : (a b : Bool) → (T (a || b) → ⊥) → T a → ⊥
not_or_l a b n t = n (or_l a b t)

not_or_r : (a b : Bool) → (T (a || b) → ⊥) → T b → ⊥
not_or_r a b n t = n (or_r a b t)

-- a test that does not hold, as the fact about the numbers
not_ltb : (a b : ℕ) → (T (ltb a b) → ⊥) → b ≤ a
not_ltb a b n = either (split (ltb a b)) (λ e. absurd (n (true_holds (ltb a b) e))) (λ e. ltb-false a b e)

not_leb : (a b : ℕ) → (T (leb a b) → ⊥) → b < a
not_leb a b n = either (split (leb a b)) (λ e. absurd (n (true_holds (leb a b) e))) (λ e. leb-false a b e)

not_neb : (a b : ℕ) → (T (not (eqb a b)) → ⊥) → a ≡ b
not_neb a b n =
    either (split (eqb a b)) (λ e. eqb_e a b (true_holds (eqb a b) e)) (λ e. absurd (n (neb_i (eqb-false a b e))))

pub passes1 : (n : ℕ) → check1 n ≡ passes → (0 < n) × (n ≤ 4096)
unfolding check1
passes1 n e =
    let f = fails_if_e 1 (eqb n 0 || ltb 4096 n) e in (
      either (split (eqb n 0)) (λ d. absurd (not_or_l (eqb n 0) (ltb 4096 n) f (true_holds (eqb n 0) d)))
          (λ d. let x = eqb-false n 0 d in omega arith),
      not_ltb 4096 n (not_or_r (eqb n 0) (ltb 4096 n) f),
    )

-- one list as long as another
differ_no : (m k : ℕ) (ks : List ℕ) → (T (differ m (k ∷ ks)) → ⊥) → (k ≡ m) × (T (differ m ks) → ⊥)
unfolding differ
differ_no m k ks n =
    (not_neb k m (not_or_l (not (eqb k m)) (differ m ks) n), not_or_r (not (eqb k m)) (differ m ks) n)

pub passes2 : (m k : ℕ) (ks : List ℕ) → check2 m (k ∷ ks) ≡ passes → (k ≡ m) × (m ≤ 16384) × (T (differ m ks) → ⊥)
unfolding check2
passes2 m k ks e =
    let f = fails_if_e 2 (differ m (k ∷ ks) || ltb 16384 m) e in
    let d = differ_no m k ks (not_or_l (differ m (k ∷ ks)) (ltb 16384 m) f) in
    (d.0, not_ltb 16384 m (not_or_r (differ m (k ∷ ks)) (ltb 16384 m) f), d.1)

-- lists that build found as long as each other, and as many costs
pub lengths_pass : (m k l : ℕ) → check2 m (k ∷ []) ≡ passes → l ≡ m → check2 m (k ∷ l ∷ []) ≡ passes
unfolding check2 differ
lengths_pass m k l e h =
    let f = passes2 m k [] e in
    rw (eq-eqb k m f.0, eq-eqb l m h, le-ltb 16384 m f.1) refl

pub passes3 : (n : ℕ) (tails heads : List ℕ) → check3 n tails heads ≡ passes → (i : ℕ) → i < length tails → (get_or tails i 0 < n) × (get_or heads i 0 < n)
unfolding check3
passes3 n tails heads e i h =
    let f = fails_at_e 3 (λ i. leb n (get_or tails i 0) || leb n (get_or heads i 0)) (length tails) i e h in (
      not_leb n (get_or tails i 0) (not_or_l (leb n (get_or tails i 0)) (leb n (get_or heads i 0)) f),
      not_leb n (get_or heads i 0) (not_or_r (leb n (get_or tails i 0)) (leb n (get_or heads i 0)) f),
    )

pub passes5 : (n : ℕ) (rank first : List ℕ) → check5 n rank first ≡ passes → (length rank ≡ n) × (length first ≡ suc n)
unfolding check5
passes5 n rank first e =
    let f = fails_if_e 5 (not (eqb (length rank) n) || not (eqb (length first) (suc n))) e in (
      not_neb (length rank) n (not_or_l (not (eqb (length rank) n)) (not (eqb (length first) (suc n))) f),
      not_neb (length first) (suc n) (not_or_r (not (eqb (length rank) n)) (not (eqb (length first) (suc n))) f),
    )

pub passes7 : (order rank : List ℕ) (G : Graph) → check7 order rank G ≡ passes → T (is_hierarchy order rank G)
unfolding check7
passes7 order rank G e =
    let b = is_hierarchy order rank G in
    let f = fails_if_e 7 (not b) e in
    either (split b) (λ d. true_holds b d) (λ d. absurd (f (subst (λ x. T (not x)) (sym d) tt)))

pub hierarchy_passes : (order rank : List ℕ) (G : Graph) → T (is_hierarchy order rank G) → check7 order rank G ≡ passes
unfolding check7
hierarchy_passes order rank G t = rw (holds_true (is_hierarchy order rank G) t) refl

pub passes8 : (tails heads rank : List ℕ) (G : Graph) → check8 tails heads rank G ≡ passes → (i : ℕ) → i < length tails
    → get_or tails i 0 ≢ get_or heads i 0 → T (linked G (get_or rank (get_or tails i 0) 0) (get_or rank (get_or heads i 0) 0))
unfolding check8
passes8 tails heads rank G e i h n =
    let apart : ℕ → Bool = λ i. not (eqb (get_or tails i 0) (get_or heads i 0)) in
    let joined : ℕ → Bool = λ i. linked G (get_or rank (get_or tails i 0) 0) (get_or rank (get_or heads i 0) 0) in
    let f = fails_at_e 8 (λ i. apart i && not (joined i)) (length tails) i e h in
    either (split (joined i)) (λ d. true_holds (joined i) d)
    (λ d.
    absurd (f (and_i (apart i) (not (joined i)) (neb_i n)
    (subst (λ x. T (not x)) (sym d) tt))))

-- a cost that is not unlawful
lawful_cost : (c : ℕ) → (T (unlawful c) → ⊥) → LawfulCost c
lawful_cost c f =
    let dear = ltb greatest c && not (eqb c closed) in
    record {
      least_one =
          either (split (eqb c 0)) (λ d. absurd (not_or_l (eqb c 0) dear f (true_holds (eqb c 0) d)))
          (λ d. let x = eqb-false c 0 d in omega arith);
      most =
          either (split (eqb c closed)) (λ d. inl (eqb_e c closed (true_holds (eqb c closed) d)))
          (λ d.
          inr (not_ltb greatest c
          (λ g. not_or_r (eqb c 0) dear f (and_i (ltb greatest c) (not (eqb c closed)) g (neb_i (eqb-false c closed d))))));
    }

pub passes9 : (costs : List ℕ) → check9 costs ≡ passes → (i : ℕ) → i < length costs → LawfulCost (get_or costs i 0)
unfolding check9
passes9 costs e i h =
    lawful_cost (get_or costs i 0) (fails_at_e 9 (λ i. unlawful (get_or costs i 0)) (length costs) i e h)

pub lawful_passes : (costs : List ℕ) → ((i : ℕ) → i < length costs → unlawful (get_or costs i 0) ≡ false) → check9 costs ≡ passes
unfolding check9
lawful_passes costs h =
    fails_at_i 9 (λ i. unlawful (get_or costs i 0)) (length costs) (λ i l t. true_false (sym (holds_true (unlawful (get_or costs i 0)) t) ∙ h i l))

pub passes10 : (e : ℕ) (C : EdgeCosts) → check10 e C ≡ passes → (e ≤ length C.up) × (e ≤ length C.down)
unfolding check10
passes10 e C p =
    let f = fails_if_e 10 (ltb (length C.up) e || ltb (length C.down) e) p in (
      not_ltb (length C.up) e (not_or_l (ltb (length C.up) e) (ltb (length C.down) e) f),
      not_ltb (length C.down) e (not_or_r (ltb (length C.up) e) (ltb (length C.down) e) f),
    )

pub rooms_pass : (e : ℕ) (C : EdgeCosts) → e ≤ length C.up → e ≤ length C.down → check10 e C ≡ passes
unfolding check10
rooms_pass e C u d = rw (le-ltb (length C.up) e u, le-ltb (length C.down) e d) refl

pub passes11 : (n from to : ℕ) → check11 n from to ≡ passes → (from < n) × (to < n)
unfolding check11
passes11 n from to e =
    let f = fails_if_e 11 (leb n from || leb n to) e in
    (not_leb n from (not_or_l (leb n from) (leb n to) f), not_leb n to (not_or_r (leb n from) (leb n to) f))

pub in_range_passes : (n from to : ℕ) → from < n → to < n → check11 n from to ≡ passes
unfolding check11
in_range_passes n from to h g = rw (lt-leb n from h, lt-leb n to g) refl

pub outside_fails : (n from to : ℕ) → (n ≤ from) ⊎ (n ≤ to) → check11 n from to ≡ fails 11 0
unfolding check11
outside_fails n from to o =
    let t = either o (λ h. or_l (leb n from) (leb n to) (leb_i n from h)) (λ h. or_r (leb n from) (leb n to) (leb_i n to h)) in
    rw (holds_true (leb n from || leb n to) t) refl

pub passes15 : (n : ℕ) (distances : List ℕ) → check15 n distances ≡ passes → length distances ≡ n
unfolding check15
passes15 n distances e = not_neb (length distances) n (fails_if_e 15 (not (eqb (length distances) n)) e)

-- a list of n places passes
pub length_is_passes : (n : ℕ) (distances : List ℕ) → length distances ≡ n → check15 n distances ≡ passes
unfolding check15
length_is_passes n distances h = rw (eq-eqb (length distances) n h) refl

-- a list of any other length is refused
pub length_differs_fails : (n : ℕ) (distances : List ℕ) → length distances ≢ n → check15 n distances ≡ fails 15 0
unfolding check15
length_differs_fails n distances h = rw (ne_eqb (length distances) n h) refl

-- distances pass if each is the number for none or below CLOSED
pub near_passes : (n : ℕ) (f : ℕ → ℕ) → ((j : ℕ) → j < n → (f j ≡ none) ⊎ (f j < closed)) → check16 n f ≡ passes
unfolding check16
near_passes n f h =
    fails_at_i 16 (λ j. too_far (f j)) n
    (λ j l t.
    either (h j l)
    (λ e. neb_e (and_r (leb closed (f j)) (not (eqb (f j) none)) t) e)
    (λ b. omega (arith, leb_e closed (f j) (and_l (leb closed (f j)) (not (eqb (f j) none)) t))))

pub passes17 : (m arc : ℕ) → check17 m arc ≡ passes → arc < m
unfolding check17
passes17 m arc e = not_leb m arc (fails_if_e 17 (leb m arc) e)

-- a new cost that passes is lawful
pub passes_new : (arc cost : ℕ) → check_new_cost arc cost ≡ passes → unlawful cost ≡ false
unfolding check_new_cost
passes_new arc cost e =
    either (split (unlawful cost))
    (λ t. let x : fails 9 arc ≡ passes = rw t at e in passes_fails (sym x))
    (λ t. t)

-- and a list in which it stands at one place, and which passed before, passes
pub new_cost_passes : (costs : List ℕ) (arc cost : ℕ) → check9 costs ≡ passes → unlawful cost ≡ false → check9 (set costs arc cost) ≡ passes
unfolding check9
new_cost_passes costs arc cost e d =
    fails_at_i 9 (λ i. unlawful (get_or (set costs arc cost) i 0)) (length (set costs arc cost))
    (λ i l t.
    let h : i < length costs = omega (arith, length-set costs arc cost) in
    either (same_or_not i arc)
    (λ s. true_false (sym (holds_true (unlawful cost) (rw (s, get_or-set_same costs arc cost 0 (omega arith)) at t)) ∙ d))
    (λ s. fails_at_e 9 (λ i. unlawful (get_or costs i 0)) (length costs) i e h (rw (get_or-set_other costs arc i cost 0 s) at t)))

-- ---- together

-- each of customise's checks passes
pub record Passed (N : Net) (rank : List ℕ) (G : Graph) (C : EdgeCosts) : Type 0 where
  pub c1 : check1 (size N) ≡ passes
  pub c2 : check2 (arcs N) (length N.heads ∷ length N.costs ∷ []) ≡ passes
  pub c3 : check3 (size N) N.tails N.heads ≡ passes
  pub c4 : check4 N.order ≡ passes
  pub c7 : check7 N.order rank G ≡ passes
  pub c8 : check8 N.tails N.heads rank G ≡ passes
  pub c9 : check9 N.costs ≡ passes
  pub c10 : check10 (its_e N.order G) C ≡ passes

pub passed_all : (N : Net) (rank : List ℕ) (G : Graph) (C : EdgeCosts) → customise_checks N rank G C ≡ passes
    → Passed N rank G C
unfolding customise_checks
passed_all N rank G C e =
    let v10 = check10 (its_e N.order G) C ∷ [] in
    let v9 = check9 N.costs ∷ v10 in
    let v8 = check8 N.tails N.heads rank G ∷ v9 in
    let v7 = check7 N.order rank G ∷ v8 in
    let v4 = check4 N.order ∷ v7 in
    let v3 = check3 (size N) N.tails N.heads ∷ v4 in
    let lengths = length N.heads ∷ length N.costs ∷ [] in
    let p1 = first_passes (check1 (size N)) (check2 (arcs N) lengths ∷ v3) e in
    let p2 = first_passes (check2 (arcs N) lengths) v3 p1.1 in
    let p3 = first_passes (check3 (size N) N.tails N.heads) v4 p2.1 in
    let p4 = first_passes (check4 N.order) v7 p3.1 in
    let p7 = first_passes (check7 N.order rank G) v8 p4.1 in
    let p8 = first_passes (check8 N.tails N.heads rank G) v9 p7.1 in
    let p9 = first_passes (check9 N.costs) v10 p8.1 in
    let p10 = first_passes (check10 (its_e N.order G) C) [] p9.1 in
    record { c1 = p1.0; c2 = p2.0; c3 = p3.0; c4 = p4.0; c7 = p7.0; c8 = p8.0; c9 = p9.0; c10 = p10.0 }

pub accepted : (N : Net) (rank : List ℕ) (G : Graph) (C : EdgeCosts) → customise_checks N rank G C ≡ passes
    → Accepted N rank G C
accepted N rank G C e =
    let P = passed_all N rank G C e in
    let f1 = passes1 (size N) P.c1 in
    let f2 = passes2 (arcs N) (length N.heads) (length N.costs ∷ []) P.c2 in
    let costs : length N.costs ≡ arcs N = (differ_no (arcs N) (length N.costs) [] f2.2).0 in
    let f10 = passes10 (its_e N.order G) C P.c10 in
    let h = passes7 N.order rank G P.c7 in
    record {
      some = f1.0;
      few = f1.1;
      heads_long = f2.0;
      costs_long = costs;
      fit = f2.1;
      ends_in = passes3 (size N) N.tails N.heads P.c3;
      seats = ordered N.order P.c4;
      ranks = inverse rank (ordered N.order P.c4) (ranked N.order rank G h);
      rows_of = rows N.order rank G h;
      edges = passes8 N.tails N.heads rank G P.c8;
      lawful = λ i l. passes9 N.costs P.c9 i (omega arith);
      up_long = f10.0;
      down_long = f10.1;
    }

pub asked : (order rank : List ℕ) (G : Graph) (C : EdgeCosts) (from to : ℕ) → distance_checks order rank G C from to ≡ passes
    → Asked order rank G C from to
unfolding distance_checks
asked order rank G C from to e =
    let n = length order in
    let v11 = check11 n from to ∷ [] in
    let v10 = check10 (its_e order G) C ∷ v11 in
    let v7 = check7 order rank G ∷ v10 in
    let p1 = first_passes (check1 n) (check4 order ∷ v7) e in
    let p4 = first_passes (check4 order) v7 p1.1 in
    let p7 = first_passes (check7 order rank G) v10 p4.1 in
    let p10 = first_passes (check10 (its_e order G) C) v11 p7.1 in
    let p11 = first_passes (check11 n from to) [] p10.1 in
    let h = passes7 order rank G p7.0 in
    let R = rows order rank G h in
    let (u, d) = passes10 (its_e order G) C p10.0 in
    let (s, t) = passes11 n from to p11.0 in
    record {
      size = count_is R;
      lists = lists_of R C (passes1 n p1.0).1 u d;
      ranks = inverse rank (ordered order p4.0) (ranked order rank G h);
      start = s;
      target = t;
    }

-- what distance asks of two junctions is only that they are in the net: checks that pass for two pass for any two
pub others_pass : (order rank : List ℕ) (G : Graph) (C : EdgeCosts) (a b from to : ℕ) → distance_checks order rank G C a b ≡ passes
    → from < length order → to < length order → distance_checks order rank G C from to ≡ passes
others_pass order rank G C a b from to e h g =
    let n = length order in
    let before = first_failure (check1 n ∷ check4 order ∷ check7 order rank G ∷ check10 (its_e order G) C ∷ []) in
    let p = first_passes before (check11 n a b ∷ []) (sym (distance_last order rank G C a b) ∙ e) in
    distance_last order rank G C from to ∙ rw (p.0, in_range_passes n from to h g) refl

-- all that change's checks establish: customise's, that the arc is listed, and that its new cost is lawful
pub change_passed : (N : Net) (rank : List ℕ) (G : Graph) (C : EdgeCosts) (arc cost : ℕ) → change_checks N rank G C arc cost ≡ passes
    → (customise_checks N rank G C ≡ passes) × (arc < arcs N) × (unlawful cost ≡ false)
unfolding change_checks
change_passed N rank G C arc cost e =
    let (a, more) = first_passes (customise_checks N rank G C) (check17 (arcs N) arc ∷ check_new_cost arc cost ∷ []) e in
    let (b, last) = first_passes (check17 (arcs N) arc) (check_new_cost arc cost ∷ []) more in
    (a, passes17 (arcs N) arc b, passes_new arc cost (first_passes (check_new_cost arc cost) [] last).0)

-- as the `requires` of the work behind them
pub change_accepted : (N : Net) (rank : List ℕ) (G : Graph) (C : EdgeCosts) (arc cost : ℕ) → change_checks N rank G C arc cost ≡ passes
    → Accepted N rank G C × (arc < arcs N) × LawfulCost cost
change_accepted N rank G C arc cost e =
    let (a, b, c) = change_passed N rank G C arc cost e in
    (accepted N rank G C a, b, lawful_cost cost (λ t. true_false (sym (holds_true (unlawful cost) t) ∙ c)))
