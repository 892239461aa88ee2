-- From the highest position down: each row read once makes a label what the sweep finds. Assumes nothing.
use Prim.Native.Nat.{ℕ, suc, ◌+◌, ◌-◌, ◌≤◌, ◌<◌}
use mathlib.Core.Path.{◌≡◌, refl, sym, ap, ◌∙◌, subst}
use mathlib.Core.List.{List}
use native.Mathlib.Omega.{arith}
use lib.Dec.{T, eqb, ltb}
use lib.ListN.{length, get_or, set, length-set}
use lib.Seq.{get_or-set_same, get_or-set_other}
use borrow.Author.Tests.{eqb-true, eqb-false, ltb-true, ltb-false, lt-ltb}
use Rattle.rules.specs.Words.{least}
use Rattle.rules.specs.Costs.{none}
use Rattle.rules.specs.Distance.{label}
use Rattle.rules.specs.Graph.{Graph}
use Rattle.rules.specs.Hierarchy.{EdgeCosts, linked, held, along, opposite}
use Rattle.rules.specs.Sweep.{hands_down, reach}
use Rattle.rules.specs.declared.Direction.TheVariants.{Up, Down}
use Rattle.rules.specs.declared.Direction.{Direction}
use Rattle.theory.specs.Rows.{count, Lists}
use Rattle.theory.proofs.Rows.{linked_turn, linked_i}
use Rattle.theory.proofs.Sweep.{reach_higher}
use Rattle.theory.proofs.Words.{either, split, true_holds, true_false, holds_true, least_start, least_le, least_above}
use Rattle.rules.specs.Lent.{chosen}
use Rattle.lists.specs.Lent.{part}
use Rattle.distance.specs.Labelled.{Climbed}
use Rattle.distance.proofs.Parent.{RowEnds}
use Rattle.distance.proofs.RowPart.{row_at_lem, row_within, row_entry, costs_long, cost_at}
use Rattle.distance.proofs.Stage.{hands_apart, hands_edge}
use Rattle.sweep.specs.Swept.{cap, place_gives, RowDown, Reached, Labelled, SweptDown}
use Rattle.sweep.proofs.Row.{cap_over, cap_least}

-- an edge's cost the other way is the cost with its ends exchanged
along_turn : (d : Direction) (cost : ℕ → ℕ → ℕ) (a b : ℕ) → along (opposite d) cost a b ≡ along d cost b a
along_turn Up cost a b = refl
along_turn Down cost a b = refl

-- after the climb all are labels
pub reached_start : {G : Graph} {C : EdgeCosts} {d : Direction} {s : ℕ} {known came : List ℕ}
    → Climbed (count G.first) (linked G) (along d (held G C)) s known came → Reached G C d s (count G.first) known
reached_start K = record { long = K.long; labels = K.labelled; reaches = λ p a b. absurd (omega arith) }

module _ {G : Graph} {C : EdgeCosts} (L : Lists G C) {d : Direction} {s p from to : ℕ} {known : List ℕ}
    (K : Reached G C d s (suc p) known) (E : RowEnds G p from to) where
  abbrev step : ℕ → ℕ → ℕ
  step = along d (held G C)

  abbrev found : ℕ → ℕ
  found = reach (count G.first) (linked G) step s

  abbrev row : List ℕ
  row = part from to G.heads

  abbrev costs : List ℕ
  costs = part from to (chosen (opposite d) C)

  -- a place of the row is above p
  row_above : (i : ℕ) → i < length row → p < get_or row i 0
  row_above i h = let (r, e) = row_at_lem L E i h in omega (arith, L.rows.above p (from + i) E.below r)

  -- what the array knows of it is what the sweep finds
  row_known : (i : ℕ) → i < length row → get_or known (get_or row i 0) 0 ≡ cap (found (get_or row i 0))
  row_known i h = K.reaches (get_or row i 0) (row_above i h) (row_within L E i h)

  -- so a place gives what its position hands down
  place_hands : (i : ℕ) → i < length row → place_gives row costs known i ≡ cap (hands_down (linked G) step found p (get_or row i 0))
  place_hands i h =
      let q = get_or row i 0 in
      let (r, e) = row_at_lem L E i h in
      let j : T (linked G q p) = linked_turn G p q (linked_i L.rows p (from + i) q E.below r (sym e)) in
      rw (row_known i h, cost_at L E (opposite d) i h ∙ along_turn d (held G C) p q, lt-ltb p q (row_above i h), hands_edge (linked G) step found p q j)
      (cap_over (found q) (step q p))

  -- and what is no place of the row gives nothing
  others_none : (q : ℕ) → (T (linked G p q) → p < q → ⊥) → hands_down (linked G) step found p q ≡ none
  others_none q n =
      either (split (ltb p q))
      (λ e. rw e (hands_apart (linked G) step found p q (λ t. n (linked_turn G q p t) (ltb-true p q e))))
      (λ e. rw e refl)

  -- "each taking the least over its higher neighbours": these are the places of its row
  row_least : least (place_gives row costs known) (cap (label (linked G) step s p)) (length row) ≡ cap (found p)
  row_least =
      let n = count G.first in
      let own = label (linked G) step s p in
      let f : ℕ → ℕ = λ q. cap (hands_down (linked G) step found p q) in
      let g = place_gives row costs known in
      let low : least f (cap own) n ≤ least g (cap own) (length row) =
      least_above g (cap own) (length row) (least f (cap own) n) (least_start f (cap own) n)
      (λ i h. omega (arith, place_hands i h, least_le f (cap own) n (get_or row i 0) (row_within L E i h))) in
      let high : least g (cap own) (length row) ≤ least f (cap own) n =
      least_above f (cap own) n (least g (cap own) (length row)) (least_start g (cap own) (length row))
      (λ q h.
      either (split (linked G p q))
      (λ t.
      either (split (ltb p q))
      (λ u.
      let (j, z, e) = row_entry L E q (ltb-true p q u) (true_holds (linked G p q) t) in
      omega (arith, least_le g (cap own) (length row) j z, place_hands j z, ap f e))
      (λ u. omega (arith, others_none q (λ a b. omega (arith, ltb-false p q u)), least_start g (cap own) (length row))))
      (λ t. omega (arith, others_none q (λ a b. true_false (sym (holds_true (linked G p q) a) ∙ t)), least_start g (cap own) (length row)))) in
      let e : least g (cap own) (length row) ≡ least f (cap own) n = omega arith in
      e ∙ sym (cap_least (hands_down (linked G) step found p) own n)
      ∙ ap cap (sym (reach_higher n (linked G) (linked_turn G) (held G C) d s p E.below))

  -- what `least_over` asks
  row_down : RowDown row costs known
  row_down =
      record {
        same = costs_long L E (opposite d);
        within = λ i h. omega (arith, row_within L E i h, L.few);
        small = λ i h. omega (arith, row_known i h);
      }

  -- p has had its turn
  reached_more : (v : ℕ) → v ≡ least (place_gives row costs known) (cap (get_or known p 0)) (length row) → Reached G C d s p (set known p v)
  reached_more v e =
      record {
        long = length-set known p v ∙ K.long;
        labels = λ q h. get_or-set_other known p q v 0 (λ x. omega arith) ∙ K.labels q (omega arith);
        reaches = λ q a b.
            either (split (eqb q p))
            (λ x.
            let y : q ≡ p = eqb-true q p x in
            rw y
            (get_or-set_same known p v 0 (omega (arith, K.long, E.below, L.few))
            ∙ e ∙ ap (λ own. least (place_gives row costs known) (cap own) (length row)) (K.labels p (omega arith)) ∙ row_least))
            (λ x.
            let y = eqb-false q p x in
            get_or-set_other known p q v 0 y ∙ K.reaches q (omega arith) b);
      }

-- ---- the loop

module _ {G : Graph} {C : EdgeCosts} (L : Lists G C) {d : Direction} {p from to : ℕ} {labels known : List ℕ} (K : SweptDown G C d p labels known)
    (h : 0 < p) (E : RowEnds G (p - 1) from to) where
  above : (s : ℕ) → Reached G C d s (count G.first) labels → Reached G C d s (suc (p - 1)) known
  above s R = let e : p ≡ suc (p - 1) = omega arith in subst (λ k. Reached G C d s k known) e (K s R)

  -- what `least_over` asks
  pub swept_row : Labelled G C d labels → RowDown (part from to G.heads) (part from to (chosen (opposite d) C)) known
  swept_row (s, R) = row_down L (above s R) E

  -- one position more
  pub swept_more : (v : ℕ)
      → v ≡ least (place_gives (part from to G.heads) (part from to (chosen (opposite d) C)) known) (cap (get_or known (p - 1) 0)) (length (part from to G.heads))
      → SweptDown G C d (p - 1) labels (set known (p - 1) v)
  swept_more v e s R = reached_more L (above s R) E v e
