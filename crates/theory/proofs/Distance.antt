-- Labels, the distance and the meeting position, over any joined pairs and any costs: the paper's equations, and what they give.
-- Assumes nothing.
use Prim.Native.Nat.{ℕ, zero, suc, ◌+◌, ◌*◌, ◌≤◌, ◌<◌}
use mathlib.Core.Path.{◌≡◌, refl, sym, ap, ◌∙◌}
use mathlib.Core.Logic.{◌⊎◌, inl, inr, ◌≢◌}
use mathlib.Core.Bool.{Bool, cond, not, ◌&&◌}
use native.Mathlib.Omega.{arith}
use native.Mathlib.Nat.{mul-le-mul_right}
use lib.Dec.{T, eqb, ltb}
use borrow.Author.Tests.{eq-eqb, ne_eqb, lt-ltb, le-ltb, ltb-true, ltb-false}
use Rattle.rules.specs.Words.{least, lowest, sum_to}
use Rattle.rules.specs.Costs.{closed, none}
use Rattle.rules.specs.declared.Direction.TheVariants.{Up, Down}
use Rattle.rules.specs.Hierarchy.{along}
use Rattle.rules.specs.Distance.{hands_on, label_within, label, label_from, both_labels, distance, meeting}
use Rattle.theory.proofs.Words.{least_start, least_le, least_made, least_same, lowest_passes, lowest_le, cond_true, cond_made, and_i, and_l, and_r, neb_e, neb_i, eqb_e, eqb_i, either, split, true_holds}

-- a step that can hand a label on, and what it then gives
pub record Step (joined : ℕ → ℕ → Bool) (step : ℕ → ℕ → ℕ) (from to : ℕ) : Type 0 where
  pub rises : from < to
  pub edge : T (joined from to)
  pub open_road : step from to ≢ closed

module _ (joined : ℕ → ℕ → Bool) (step : ℕ → ℕ → ℕ) where
  hands_same : (f g : ℕ → ℕ) (p q : ℕ) → f q ≡ g q → hands_on joined step f p q ≡ hands_on joined step g p q
  hands_same f g p q e = rw e refl

  -- what is handed on along an edge that is not CLOSED
  pub hands_le : (f : ℕ → ℕ) (p q : ℕ) → T (joined q p) → step q p ≢ closed → hands_on joined step f p q ≤ f q + step q p
  hands_le f p q j o =
      let t = joined q p && not (eqb (step q p) closed) in
      let e : hands_on joined step f p q ≡ sum_to none (f q) (step q p) =
      cond_true t (sum_to none (f q) (step q p)) none (and_i (joined q p) (not (eqb (step q p) closed)) j (neb_i o)) in
      omega arith

  -- what is handed on at all came along such an edge
  pub hands_made : (f : ℕ → ℕ) (p q : ℕ) → hands_on joined step f p q < none
      → T (joined q p) × (step q p ≢ closed) × (hands_on joined step f p q ≡ f q + step q p)
  hands_made f p q h =
      let t = joined q p && not (eqb (step q p) closed) in
      let m : T t × (hands_on joined step f p q ≡ sum_to none (f q) (step q p)) = cond_made t (sum_to none (f q) (step q p)) none h in (
        and_l (joined q p) (not (eqb (step q p) closed)) m.0,
        neb_e (and_r (joined q p) (not (eqb (step q p) closed)) m.0),
        omega arith,
      )

  module _ (s : ℕ) where
    -- the counter does not matter as long as it is above the position
    label_settles : (k l p : ℕ) → p < k → p < l → label_within joined step s k p ≡ label_within joined step s l p
    unfolding label_within
    label_settles zero l p h g = absurd (omega arith)
    label_settles (suc k) zero p h g = absurd (omega arith)
    label_settles (suc k) (suc l) p h g =
        ap (λ m. cond (eqb p s) 0 (cond (ltb s p) m none))
        (least_same (hands_on joined step (label_within joined step s k) p) (hands_on joined step (label_within joined step s l) p) none p
        (λ q i. hands_same (label_within joined step s k) (label_within joined step s l) p q (label_settles k l q (omega arith) (omega arith))))

    -- "label s with 0; any higher position p gets the least of label(q) + up cost of (q, p) over lower labelled q, or no label"
    label_is : (p : ℕ) → label joined step s p ≡ cond (eqb p s) 0 (cond (ltb s p) (least (hands_on joined step (label joined step s) p) none p) none)
    unfolding label label_within
    label_is p =
        ap (λ m. cond (eqb p s) 0 (cond (ltb s p) m none))
        (least_same (hands_on joined step (label_within joined step s p) p) (hands_on joined step (label joined step s) p) none p
        (λ q i. hands_same (label_within joined step s p) (label joined step s) p q (label_settles p (suc q) q (omega arith) (omega arith))))

    pub label_start : label joined step s s ≡ 0
    label_start = label_is s ∙ rw (eq-eqb s s refl) refl

    pub label_higher : (p : ℕ) → s < p → label joined step s p ≡ least (hands_on joined step (label joined step s) p) none p
    label_higher p h = label_is p ∙ rw (ne_eqb p s (λ e. omega arith), lt-ltb s p h) refl

    pub label_lower : (p : ℕ) → p < s → label joined step s p ≡ none
    label_lower p h = label_is p ∙ rw (ne_eqb p s (λ e. omega arith), le-ltb s p (omega arith)) refl

    -- a label is no more than any lower label with the edge's cost added
    pub label_step : (q p : ℕ) → Step joined step q p → label joined step s p ≤ label joined step s q + step q p
    label_step q p k =
        either (split (ltb s p))
        (λ e.
        let f = label joined step s in
        let u : least (hands_on joined step f p) none p ≤ hands_on joined step f p q = least_le (hands_on joined step f p) none p q k.rises in
        omega (arith, label_higher p (ltb-true s p e), hands_le f p q k.edge k.open_road))
        (λ e.
        let g : p ≤ s = ltb-false s p e in
        let l : label joined step s q ≡ none = label_lower q (let r = k.rises in omega arith) in
        either (split (ltb p s))
        (λ d. omega (arith, label_lower p (ltb-true p s d)))
        (λ d. let x : p ≡ s = omega (arith, ltb-false p s d) in
        omega (arith, ap (label joined step s) x, label_start)))

    -- a position with a label is the start, or has it from a lower one with a label, along an edge that is not CLOSED
    pub label_made : (p : ℕ) → label joined step s p < none
        → ((p ≡ s) × (label joined step s p ≡ 0))
        ⊎ ((s < p) × ((q : ℕ) × Step joined step q p × (label joined step s p ≡ label joined step s q + step q p)))
    label_made p h =
        either (split (eqb p s))
        (λ e. let x : p ≡ s = eqb_e p s (true_holds (eqb p s) e) in inl (x, ap (label joined step s) x ∙ label_start))
        (λ e.
        either (split (ltb s p))
        (λ d.
        let f = label joined step s in
        let g : s < p = ltb-true s p d in
        let u : f p ≡ least (hands_on joined step f p) none p = label_higher p g in
        either (least_made (hands_on joined step f p) none p)
        (λ w. absurd (omega arith))
        (λ w.
        let m = hands_made f p w.0 (let x = w.2 in omega arith) in
        inr (g, (w.0, (record { rises = w.1; edge = m.0; open_road = m.1 }), u ∙ w.2 ∙ m.2))))
        (λ d.
        let n : label joined step s p ≡ none = label_is p ∙ rw (e, d) refl in
        absurd (omega arith)))

    -- no label is lost to the top: each is below p times CLOSED
    pub label_small : ((a b : ℕ) → step a b ≤ closed) → (p : ℕ) → label joined step s p < none → label joined step s p ≤ p * closed
    label_small small p h = below (suc p) p (omega arith) h
      where
        below : (k p : ℕ) → p < k → label joined step s p < none → label joined step s p ≤ p * closed
        below zero p l h = absurd (omega arith)
        below (suc k) p l h =
            either (label_made p h)
            (λ w. let x = w.1 in omega arith)
            (λ w.
            let q = w.1.0 in
            let r : q < p = w.1.1.rises in
            let e : label joined step s p ≡ label joined step s q + step q p = w.1.2 in
            let i : label joined step s q ≤ q * closed = below k q (omega arith) (omega arith) in
            omega (arith, small q p, mul-le-mul_right closed r))

    -- where a label comes from: the lowest such position
    pub label_from_lem : (p : ℕ) → s < p → label joined step s p < none
        → Step joined step (label_from joined step s p) p
        × (label joined step s p ≡ label joined step s (label_from joined step s p) + step (label_from joined step s p) p)
    unfolding label_from
    label_from_lem p g h =
        let f = label joined step s in
        let same : ℕ → Bool = λ q. eqb (hands_on joined step f p q) (f p) in
        let q = lowest same 0 p in
        let u : f p ≡ least (hands_on joined step f p) none p = label_higher p g in
        either (least_made (hands_on joined step f p) none p)
        (λ w. absurd (omega arith))
        (λ w.
        let t : T (same w.0) = eqb_i (hands_on joined step f p w.0) (f p) (sym (u ∙ w.2)) in
        let l : q ≤ w.0 = lowest_le same 0 p w.0 (omega arith) t in
        let r : q < p = let x = w.1 in omega arith in
        let e : hands_on joined step f p q ≡ f p = eqb_e (hands_on joined step f p q) (f p) (lowest_passes same 0 p (omega arith)) in
        let m = hands_made f p q (omega arith) in
        ((record { rises = r; edge = m.0; open_road = m.1 }), sym e ∙ m.2))

-- ---- the distance and the meeting position

module _ (n : ℕ) (joined : ℕ → ℕ → Bool) (cost : ℕ → ℕ → ℕ) (s t : ℕ) where
  -- the labels from the start and from the target
  abbrev pub from_start : ℕ → ℕ
  from_start = label joined (along Up cost) s

  abbrev pub from_target : ℕ → ℕ
  from_target = label joined (along Down cost) t

  pub distance_le : (p : ℕ) → p < n → distance n joined cost s t ≤ from_start p + from_target p
  unfolding distance both_labels
  distance_le p h = omega (arith, least_le (both_labels joined cost s t) none n p h)

  pub distance_made : distance n joined cost s t < none → (p : ℕ) × (p < n) × (distance n joined cost s t ≡ from_start p + from_target p)
  unfolding distance both_labels
  distance_made h =
      either (least_made (both_labels joined cost s t) none n)
      (λ e. absurd (omega arith))
      (λ w. (w.0, w.1, let x = w.2 in omega arith))

  -- the distance is the number for none, or below it
  pub distance_top : distance n joined cost s t ≤ none
  unfolding distance
  distance_top = least_start (both_labels joined cost s t) none n

  -- no distance is lost to the top either: it is the sum of two labels
  pub distance_small : ((a b : ℕ) → cost a b ≤ closed) → distance n joined cost s t < none → distance n joined cost s t ≤ n * closed + n * closed
  distance_small small h =
      let (p, l, e) = distance_made h in
      omega (
        arith,
        label_small joined (along Up cost) s small p (omega arith),
        label_small joined (along Down cost) t (λ a b. small b a) p (omega arith),
        mul-le-mul_right closed l,
      )

  -- where there is a distance both ends' labels meet there, at the distance, and at no lower position
  pub meeting_made : distance n joined cost s t < none
      → (meeting n joined cost s t < n)
      × (distance n joined cost s t ≡ from_start (meeting n joined cost s t) + from_target (meeting n joined cost s t))
  unfolding meeting distance both_labels
  meeting_made h =
      let b = both_labels joined cost s t in
      let d = distance n joined cost s t in
      let same : ℕ → Bool = λ p. eqb (b p) d in
      either (least_made b none n)
      (λ e. absurd (omega arith))
      (λ w.
      let l : lowest same 0 n ≤ w.0 = lowest_le same 0 n w.0 (omega arith) (eqb_i (b w.0) d (sym w.2)) in
      let r : lowest same 0 n < n = let x = w.1 in omega arith in
      let e : b (lowest same 0 n) ≡ d = eqb_e (b (lowest same 0 n)) d (lowest_passes same 0 n (omega arith)) in
      (r, omega arith))
