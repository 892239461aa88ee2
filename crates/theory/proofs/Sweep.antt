-- The sweep, over any joined pairs and any costs: what it finds for a position is the distance, from the start or, for the mirror, to it.
-- Assumes nothing.
use Prim.Native.Nat.{ℕ, zero, suc, ◌+◌, ◌*◌, ◌-◌, ◌≤◌, ◌<◌}
use mathlib.Core.Path.{◌≡◌, refl, sym, ap, ◌∙◌}
use mathlib.Core.Logic.{◌⊎◌, inl, inr, ◌≢◌}
use mathlib.Core.Bool.{Bool}
use native.Mathlib.Omega.{arith}
use lib.Dec.{T, eqb, ltb}
use borrow.Author.Tests.{eqb-true, eqb-false, ltb-true, ltb-false, lt-ltb}
use Rattle.rules.specs.Words.{least}
use Rattle.rules.specs.Costs.{closed, none}
use Rattle.rules.specs.declared.Direction.{Direction}
use Rattle.rules.specs.declared.Direction.TheVariants.{Up, Down}
use Rattle.rules.specs.Hierarchy.{along}
use Rattle.rules.specs.Distance.{hands_on, label, distance}
use Rattle.rules.specs.Sweep.{hands_down, reach_within, reach}
use Rattle.theory.proofs.Words.{least_start, least_le, least_made, least_same, cond_made, ltb_e, either, split}
use Rattle.theory.proofs.Distance.{Step, hands_le, hands_made, label_start, label_higher, label_lower, label_step, label_made, distance_le, distance_made, distance_top, distance_small}

-- ---- labels by their first step

module _ (joined : ℕ → ℕ → Bool) (step : ℕ → ℕ → ℕ) where
  -- a label is the number for none, or below it
  pub label_top : (s p : ℕ) → label joined step s p ≤ none
  label_top s p =
      either (split (ltb s p))
      (λ e. omega (arith, label_higher joined step s p (ltb-true s p e), least_start (hands_on joined step (label joined step s) p) none p))
      (λ e. either (split (ltb p s))
      (λ d. omega (arith, label_lower joined step s p (ltb-true p s d)))
      (λ d. let x : p ≡ s = omega (arith, ltb-false s p e, ltb-false p s d) in
      omega (arith, ap (label joined step s) x, label_start joined step s)))

  -- a label is no more than what any first step gives
  label_first : (p q : ℕ) → Step joined step p q → (m : ℕ) → label joined step p m ≤ step p q + label joined step q m
  label_first p q k m = below (suc m) m (omega arith)
    where
      below : (i m : ℕ) → m < i → label joined step p m ≤ step p q + label joined step q m
      below zero m l = absurd (omega arith)
      below (suc i) m l =
          either (split (ltb (label joined step q m) none))
          (λ e.
          either (label_made joined step q m (ltb-true (label joined step q m) none e))
          (λ w. omega (arith, ap (label joined step p) w.0, w.1, label_step joined step p p q k, label_start joined step p))
          (λ w.
          let r = w.1.0 in
          let s : Step joined step r m = w.1.1 in
          let h = s.rises in
          omega (arith, w.1.2, below i r (omega arith), label_step joined step p r m s)))
          (λ e. omega (arith, ltb-false (label joined step q m) none e, label_top p m))

  -- and comes by some first step
  record First (p m : ℕ) : Type 0 where
    via : ℕ
    steps : Step joined step p via
    within : via ≤ m
    sum : label joined step p m ≡ step p via + label joined step via m

  by_first : (p m : ℕ) → p ≢ m → label joined step p m < none → First p m
  by_first p m ne h = below (suc m) m (omega arith) ne h
    where
      below : (i m : ℕ) → m < i → p ≢ m → label joined step p m < none → First p m
      below zero m l ne h = absurd (omega arith)
      below (suc i) m l ne h =
          either (label_made joined step p m h)
          (λ w. absurd (ne (sym w.0)))
          (λ w.
          let r = w.1.0 in
          let k : Step joined step r m = w.1.1 in
          let u = k.rises in
          let e : label joined step p m ≡ label joined step p r + step r m = w.1.2 in
          either (split (eqb p r))
          (λ d.
          let x : p ≡ r = eqb-true p r d in
          record {
            via = m;
            steps = rw x k;
            within = omega arith;
            sum = omega (arith, label_start joined step m, label_start joined step p, ap (label joined step p) x, ap (λ y. step y m) x);
          })
          (λ d.
          let f = below i r (omega arith) (eqb-false p r d) (omega arith) in
          record {
            via = f.via;
            steps = f.steps;
            within = omega (arith, f.within);
            sum = omega (arith, f.sum, label_step joined step f.via r m k, label_first p f.via f.steps m);
          }))

-- ---- what the sweep finds

-- far is the least sum, at one of n positions, of the label from s and of the label from p by the steps turned round, or none
record Least (n : ℕ) (joined : ℕ → ℕ → Bool) (step : ℕ → ℕ → ℕ) (s p far : ℕ) : Type 0 where
  least : (m : ℕ) → m < n → far ≤ label joined step s m + label joined (λ a b. step b a) p m
  made : far < none → (m : ℕ) × (m < n) × (far ≡ label joined step s m + label joined (λ a b. step b a) p m)
  top : far ≤ none

module _ (n : ℕ) (joined : ℕ → ℕ → Bool) (turn : (a b : ℕ) → T (joined a b) → T (joined b a)) (step : ℕ → ℕ → ℕ) (s : ℕ) where
  abbrev back : ℕ → ℕ → ℕ
  back a b = step b a

  abbrev lab : ℕ → ℕ
  lab = label joined step s

  -- what a higher neighbour hands on along an edge that is not CLOSED
  down_le : (f : ℕ → ℕ) (p q : ℕ) → Step joined back p q → hands_down joined step f p q ≤ f q + step q p
  down_le f p q k =
      rw (lt-ltb p q k.rises) (hands_le joined step f p q (turn p q k.edge) k.open_road)

  -- what is handed on at all came along such an edge
  down_made : (f : ℕ → ℕ) (p q : ℕ) → hands_down joined step f p q < none → Step joined back p q × (hands_down joined step f p q ≡ f q + step q p)
  down_made f p q h =
      let (t, e) = cond_made (ltb p q) (hands_on joined step f p q) none h in
      let (j, o, g) = hands_made joined step f p q (omega arith) in
      ((record { rises = ltb_e p q t; edge = turn q p j; open_road = o }), e ∙ g)

  -- only what is known of higher positions matters
  down_same : (f g : ℕ → ℕ) (p q : ℕ) → (p < q → f q ≡ g q) → hands_down joined step f p q ≡ hands_down joined step g p q
  down_same f g p q h = either (split (ltb p q)) (λ e. rw (h (ltb-true p q e)) refl) (λ e. rw e refl)

  -- the distances are handed down as the sweep does it
  module _ (far : ℕ → ℕ) (F : (p : ℕ) → Least n joined step s p (far p)) where
    far_label : (p : ℕ) → p < n → far p ≤ lab p
    far_label p l = omega (arith, (F p).least p l, label_start joined back p)

    far_step : (p q : ℕ) → Step joined back p q → far p ≤ far q + step q p
    far_step p q k =
        either (split (ltb (far q) none))
        (λ e.
        let (m, l, w) = (F q).made (ltb-true (far q) none e) in
        omega (arith, (F p).least m l, label_first joined back p q k m))
        (λ e. omega (arith, ltb-false (far q) none e, (F p).top))

    far_made : (p : ℕ) → far p < none → (far p ≡ lab p) ⊎ ((q : ℕ) × (q < n) × Step joined back p q × (far q + step q p ≤ far p))
    far_made p h =
        let (m, l, e) = (F p).made h in
        either (split (eqb p m))
        (λ x. let y : p ≡ m = eqb-true p m x in inl (omega (arith, ap lab y, ap (label joined back p) y, label_start joined back p)))
        (λ x.
        let f = by_first joined back p m (eqb-false p m x) (omega arith) in
        inr (f.via, omega (arith, f.within), f.steps, omega (arith, (F f.via).least m l, f.sum)))

    -- the counter does not matter as long as it is enough to rise from p to the top
    reach_settles : (k p : ℕ) → p < n → n ≤ p + k → reach_within n joined step s k p ≡ far p
    unfolding reach_within
    reach_settles zero p l h = absurd (omega arith)
    reach_settles (suc k) p l h =
        let f = reach_within n joined step s k in
        let g = hands_down joined step f p in
        let low : least g (lab p) n ≤ far p =
        either (split (ltb (far p) none))
        (λ e.
        either (far_made p (ltb-true (far p) none e))
        (λ w. omega (arith, least_start g (lab p) n))
        (λ (q, b, k', w).
        let i : f q ≡ far q = reach_settles k q b (omega (arith, k'.rises)) in
        omega (arith, least_le g (lab p) n q b, down_le f p q k')))
        (λ e. omega (arith, ltb-false (far p) none e, least_start g (lab p) n, label_top joined step s p)) in
        let high : far p ≤ least g (lab p) n =
        either (least_made g (lab p) n)
        (λ w. omega (arith, far_label p l))
        (λ (q, b, w).
        either (split (ltb (least g (lab p) n) none))
        (λ o.
        let (k', e) = down_made f p q (omega (arith, ltb-true (least g (lab p) n) none o)) in
        let i : f q ≡ far q = reach_settles k q b (omega (arith, k'.rises)) in
        omega (arith, far_step p q k'))
        (λ o. omega (arith, ltb-false (least g (lab p) n) none o, (F p).top))) in
        omega arith

    -- where no position is there is no distance
    far_outside : (p : ℕ) → n ≤ p → far p ≡ none
    far_outside p h =
        either (split (ltb (far p) none))
        (λ e.
        let (m, l, w) = (F p).made (ltb-true (far p) none e) in
        absurd (omega (arith, w, ltb-true (far p) none e, label_lower joined back p m (omega arith))))
        (λ e. omega (arith, ltb-false (far p) none e, (F p).top))

    reach_far : (p : ℕ) → reach n joined step s p ≡ far p
    unfolding reach reach_within
    reach_far p =
        either (split (ltb p n))
        (λ e. reach_settles (n - p) p (ltb-true p n e) (omega arith))
        (λ e.
        let l = ltb-false p n e in
        let z : n - p ≡ 0 = omega arith in
        ap (λ k. reach_within n joined step s k p) z ∙ sym (far_outside p l))

    far_higher : (p : ℕ) → p < n → reach n joined step s p ≡ least (hands_down joined step (reach n joined step s) p) (lab p) n
    unfolding reach reach_within
    far_higher p l =
        let k = n - suc p in
        let z : n - p ≡ suc k = omega arith in
        ap (λ i. reach_within n joined step s i p) z
        ∙ least_same (hands_down joined step (reach_within n joined step s k) p) (hands_down joined step (reach n joined step s) p) (lab p) n
        (λ q h. down_same (reach_within n joined step s k) (reach n joined step s) p q
        (λ r. reach_settles k q h (omega arith) ∙ sym (reach_far q)))

-- the distance from s, and the distance to s, are such least sums
least_sums : (n : ℕ) (joined : ℕ → ℕ → Bool) (cost : ℕ → ℕ → ℕ) (d : Direction) (s p : ℕ)
    → Least n joined (along d cost) s p (along d (distance n joined cost) s p)
least_sums n joined cost Up s p =
    record { least = distance_le n joined cost s p; made = distance_made n joined cost s p; top = distance_top n joined cost s p }
least_sums n joined cost Down s p =
    record {
      least = λ m l. omega (arith, distance_le n joined cost p s m l);
      made = λ h. let (m, l, e) = distance_made n joined cost p s h in (m, l, omega arith);
      top = distance_top n joined cost p s;
    }

module _ (n : ℕ) (joined : ℕ → ℕ → Bool) (turn : (a b : ℕ) → T (joined a b) → T (joined b a)) (cost : ℕ → ℕ → ℕ) (d : Direction) (s p : ℕ) where
  -- what the sweep from s finds for p is the distance from s to p; what the mirror finds is the distance from p to s
  pub reach_is : reach n joined (along d cost) s p ≡ along d (distance n joined cost) s p
  reach_is = reach_far n joined turn (along d cost) s (along d (distance n joined cost) s) (least_sums n joined cost d s) p

  -- "each taking the least over its higher neighbours"
  pub reach_higher : p < n
      → reach n joined (along d cost) s p
      ≡ least (hands_down joined (along d cost) (reach n joined (along d cost) s) p) (label joined (along d cost) s p) n
  reach_higher = far_higher n joined turn (along d cost) s (along d (distance n joined cost) s) (least_sums n joined cost d s) p

  -- it is the number for none, or below it
  pub reach_top : reach n joined (along d cost) s p ≤ none
  reach_top = omega (arith, reach_is, (least_sums n joined cost d s p).top)

  -- what it finds is a sum of few costs, or none
  pub reach_small : ((a b : ℕ) → cost a b ≤ closed) → reach n joined (along d cost) s p < none → reach n joined (along d cost) s p ≤ n * closed + n * closed
  reach_small small h = omega (arith, reach_is, by d (omega (arith, reach_is)))
    where
      by : (d : Direction) → along d (distance n joined cost) s p < none → along d (distance n joined cost) s p ≤ n * closed + n * closed
      by Up h = distance_small n joined cost s p small h
      by Down h = distance_small n joined cost p s small h
