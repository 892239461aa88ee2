-- The labels while the chain of parents is walked, over any joined pairs and any costs. Assumes nothing.
use Prim.Native.Nat.{ℕ, zero, suc, ◌≤◌, ◌<◌, min}
use mathlib.Core.Path.{◌≡◌, refl, sym, ap, ◌∙◌, subst}
use mathlib.Core.Bool.{Bool, not, ◌&&◌}
use mathlib.Core.List.{List}
use native.Mathlib.Omega.{arith}
use lib.Dec.{T, eqb, ltb}
use lib.ListN.{length, get_or}
use borrow.Author.Tests.{ltb-true, ltb-false}
use Rattle.rules.specs.Costs.{closed, none, label_over}
use Rattle.rules.specs.Distance.{hands_on, label, label_from}
use Rattle.rules.specs.Words.{least, sum_to}
use Rattle.theory.specs.Parents.{Chain}
use Rattle.theory.proofs.Best.{Best, best_top, best_on, best_lowest}
use Rattle.theory.proofs.Distance.{label_start, label_higher, label_lower}
use Rattle.theory.proofs.Words.{either, split, holds_true, cond_false, and_l}
use Rattle.distance.specs.Labelled.{Climbed, Offered}
use Rattle.distance.proofs.Offered.{best_offer}

-- the labels from s once each position below k has handed its label on
pub record Stage (n : ℕ) (joined : ℕ → ℕ → Bool) (step : ℕ → ℕ → ℕ) (s k : ℕ) (labels came : List ℕ) : Type 0 where
  pub long : length labels ≡ 4096
  pub came_long : length came ≡ 4096
  pub start : get_or labels s 0 ≡ 0
  pub low : (p : ℕ) → p < s → get_or labels p 0 ≡ none
  pub high : (p : ℕ) → s < p → p < n
      → Best (hands_on joined step (label joined step s) p) none (min k p) (get_or labels p 0) (get_or came p 0)

module _ (joined : ℕ → ℕ → Bool) (step : ℕ → ℕ → ℕ) where
  -- who has no label hands none on
  pub hands_none : (f : ℕ → ℕ) (p q : ℕ) → f q ≡ none → hands_on joined step f p q ≡ none
  hands_none f p q e =
      either (split (joined q p && not (eqb (step q p) closed))) (λ t. rw t (omega arith)) (λ t. rw t refl)

  -- nor does one to a position that is not joined
  pub hands_apart : (f : ℕ → ℕ) (p q : ℕ) → (T (joined q p) → ⊥) → hands_on joined step f p q ≡ none
  hands_apart f p q d =
      cond_false (joined q p && not (eqb (step q p) closed)) (sum_to none (f q) (step q p)) none
      (λ t. d (and_l (joined q p) (not (eqb (step q p) closed)) t))

  -- along an edge it is the label with the edge's cost added
  pub hands_edge : (f : ℕ → ℕ) (p q : ℕ) → T (joined q p) → hands_on joined step f p q ≡ label_over (f q) (step q p)
  hands_edge f p q j = rw (holds_true (joined q p) j) refl

module _ {n : ℕ} {joined : ℕ → ℕ → Bool} {step : ℕ → ℕ → ℕ} {s k : ℕ} {labels came : List ℕ}
    (S : Stage n joined step s k labels came) where
  -- no position up to k changes any more
  pub stage_label : (p : ℕ) → p < n → p ≤ k → get_or labels p 0 ≡ label joined step s p
  stage_label p l h =
      either (split (ltb p s))
      (λ e. S.low p (ltb-true p s e) ∙ sym (label_lower joined step s p (ltb-true p s e)))
      (λ e. either (split (ltb s p))
      (λ d.
      let m : min k p ≡ p = omega arith in
      let g = ltb-true s p d in
      (S.high p g l).is ∙ ap (least (hands_on joined step (label joined step s) p) none) m ∙ sym (label_higher joined step s p g))
      (λ d.
      let x : p ≡ s = omega (arith, ltb-false p s e, ltb-false s p d) in
      rw x (S.start ∙ sym (label_start joined step s))))

  -- no number is over the one for none
  pub stage_top : (p : ℕ) → p < n → get_or labels p 0 ≤ none
  stage_top p l =
      either (split (ltb p s))
      (λ e. omega (arith, S.low p (ltb-true p s e)))
      (λ e. either (split (ltb s p))
      (λ d. best_top (S.high p (ltb-true s p d) l))
      (λ d.
      let x : p ≡ s = omega (arith, ltb-false p s e, ltb-false s p d) in
      rw x (omega (arith, S.start))))

  -- positions from k on that have no label yet get none from one another
  quiet : (c : ℕ) → s < k → ((j : ℕ) → k ≤ j → j < c → j < n → get_or labels j 0 ≡ none)
      → (d j : ℕ) → j < d → k ≤ j → j < c → j < n → label joined step s j ≡ none
  quiet c b idle zero j h a l m = absurd (omega arith)
  quiet c b idle (suc d) j h a l m =
      let f = label joined step s in
      let e : min k j ≡ k = omega arith in
      let B : Best (hands_on joined step f j) none k (get_or labels j 0) (get_or came j 0) =
      subst (λ i. Best (hands_on joined step f j) none i (get_or labels j 0) (get_or came j 0)) e (S.high j (omega arith) m) in
      label_higher joined step s j (omega arith)
      ∙ sym (best_on B j a (λ i x y. hands_none joined step f j i (quiet c b idle d i (omega arith) x (omega arith) (omega arith)))).is
      ∙ idle j a l m

  -- so their turns change nothing
  pub stage_skip : (c : ℕ) → s < k → k ≤ c → ((j : ℕ) → k ≤ j → j < c → j < n → get_or labels j 0 ≡ none) → Stage n joined step s c labels came
  stage_skip c b a idle =
      record {
        long = S.long;
        came_long = S.came_long;
        start = S.start;
        low = S.low;
        high = λ p h l. best_on (S.high p h l) (min c p) (omega arith) (λ j x y.
            hands_none joined step (label joined step s) p j (quiet c b idle (suc j) j (omega arith) (omega arith) (omega arith) (omega arith)));
      }

  -- the turn of k: each higher position is offered what k hands on, and no other changes
  pub stage_turn : (labels' came' : List ℕ) → length labels' ≡ length labels → length came' ≡ length came → s ≤ k
      → ((p : ℕ) → p ≤ k → (get_or labels' p 0 ≡ get_or labels p 0) × (get_or came' p 0 ≡ get_or came p 0))
      → ((p : ℕ) → k < p → p < n → Offered k (hands_on joined step (label joined step s) p k)
      (get_or labels p 0) (get_or came p 0) (get_or labels' p 0) (get_or came' p 0))
      → Stage n joined step s (suc k) labels' came'
  stage_turn labels' came' e g b same given =
      record {
        long = e ∙ S.long;
        came_long = g ∙ S.came_long;
        start = (same s b).0 ∙ S.start;
        low = λ p h. (same p (omega arith)).0 ∙ S.low p h;
        high = high;
      }
    where
      f : ℕ → ℕ
      f = label joined step s

      high : (p : ℕ) → s < p → p < n → Best (hands_on joined step f p) none (min (suc k) p) (get_or labels' p 0) (get_or came' p 0)
      high p h l =
          either (split (ltb k p))
          (λ t.
          let a : min (suc k) p ≡ suc k = omega (arith, ltb-true k p t) in
          let m : min k p ≡ k = omega (arith, ltb-true k p t) in
          rw a (best_offer (rw m at (S.high p h l)) (given p (ltb-true k p t) l)))
          (λ t.
          let a : min (suc k) p ≡ min k p = omega (arith, ltb-false k p t) in
          let (x, y) = same p (ltb-false k p t) in
          rw (a, x, y) (S.high p h l))

-- once every position has had its turn, these are the labels, and each came from the lowest position that gives it
pub stage_all : {n : ℕ} {joined : ℕ → ℕ → Bool} {step : ℕ → ℕ → ℕ} {s : ℕ} {labels came : List ℕ}
    → Stage n joined step s n labels came → ((p : ℕ) → label joined step s p < none → Chain (λ a b. T (joined a b)) p s)
    → ((a b : ℕ) → step a b ≤ closed)
    → Climbed n joined step s labels came
unfolding label_from
stage_all {n} {joined} {step} {s} {labels} {came} S chain small =
    record {
      long = S.long;
      came_long = S.came_long;
      labelled = λ p l. stage_label S p l (omega arith);
      source = λ p h l g.
          let m : min n p ≡ p = omega arith in
          sym (best_lowest (rw (m, stage_label S p l (omega arith)) at (S.high p h l)) g);
      on_chain = chain;
      small = small;
    }
