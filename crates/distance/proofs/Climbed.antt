-- From a position to its parent: the labels over the rows of a hierarchy, whatever the cost lists hold. Assumes nothing.
use Prim.Native.Nat.{ℕ, suc, ◌+◌, ◌≤◌, ◌<◌, min}
use mathlib.Core.Path.{◌≡◌, refl, sym, ap, ◌∙◌}
use mathlib.Core.Logic.{◌≢◌}
use mathlib.Core.Bool.{Bool}
use mathlib.Core.List.{List}
use native.Mathlib.Omega.{arith}
use lib.Dec.{T, ltb}
use lib.ListN.{length, get_or, set, replicate, length-set, length-replicate, get_or-replicate}
use lib.Seq.{get_or-set_same, get_or-set_other}
use borrow.Author.Tests.{ltb-true, ltb-false}
use Rattle.rules.specs.Costs.{closed, none, label_over}
use Rattle.rules.specs.Distance.{hands_on, label}
use Rattle.rules.specs.Graph.{Graph}
use Rattle.rules.specs.Hierarchy.{EdgeCosts, linked, held, along}
use Rattle.rules.specs.declared.Direction.{Direction}
use Rattle.theory.specs.Parents.{Parent}
use Rattle.theory.specs.Rows.{InRow, count, Lists}
use Rattle.theory.proofs.Best.{best_start, best_on}
use Rattle.theory.proofs.Distance.{label_lower, label_small}
use Rattle.theory.proofs.Parents.{chain_only}
use Rattle.theory.proofs.Rows.{linked_i, linked_third}
use Rattle.theory.proofs.Words.{either, split, true_holds, true_false, holds_true}
use Rattle.rules.specs.Lent.{chosen}
use Rattle.lists.specs.Lent.{part}
use Rattle.distance.specs.Labelled.{Climbed, Offered, kept, RowOf, HandedOn}
use Rattle.distance.proofs.Parent.{RowEnds, lone, parent, parent_below}
use Rattle.distance.proofs.RowPart.{row_at_lem, row_within, row_entry, costs_long, cost_at}
use Rattle.distance.proofs.Stage.{Stage, hands_none, hands_apart, hands_edge, stage_label, stage_top, stage_skip, stage_turn, stage_all}

-- ---- one turn for each position on the chain

-- q's turn has come, and what has a label above q stands in q's row
pub record Rung (G : Graph) (C : EdgeCosts) (d : Direction) (s q : ℕ) (labels came : List ℕ) : Type 0 where
  pub state : Stage (count G.first) (linked G) (along d (held G C)) s q labels came
  pub below : q < count G.first
  pub above : s ≤ q
  pub near : (p : ℕ) → q < p → p < count G.first → get_or labels p 0 < none → T (linked G q p)

-- the walk begins at s
pub rung_start : {G : Graph} {C : EdgeCosts} → Lists G C → (d : Direction) (s : ℕ) (labels came : List ℕ)
    → s < count G.first → labels ≡ replicate 4096 none → length came ≡ 4096 → Rung G C d s s (set labels s 0) came
rung_start {G} {C} L d s labels came l b g =
    record {
      state = record {
        long = length-set labels s 0 ∙ long;
        came_long = g;
        start = get_or-set_same labels s 0 0 (omega (arith, few, long));
        low = λ p h. blank p (omega (arith, few)) (λ e. omega arith);
        high = λ p h m.
            let e : min s p ≡ s = omega arith in
            rw (e, blank p (omega (arith, few)) (λ x. omega arith))
            (best_on (best_start (hands_on joined step (label joined step s) p) none (get_or came p 0)) s (omega arith)
            (λ j x y. hands_none joined step (label joined step s) p j (label_lower joined step s j y)));
      };
      below = l;
      above = omega arith;
      near = λ p h m c. absurd (omega (arith, blank p (omega (arith, few)) (λ x. omega arith)));
    }
  where
    joined : ℕ → ℕ → Bool
    joined = linked G

    step : ℕ → ℕ → ℕ
    step = along d (held G C)

    few : count G.first ≤ 4096
    few = L.few

    long : length labels ≡ 4096
    long = ap length b ∙ length-replicate {A = ℕ} 4096 none

    blank : (p : ℕ) → p < 4096 → p ≢ s → get_or (set labels s 0) p 0 ≡ none
    blank p h n = get_or-set_other labels s p 0 0 n ∙ ap (λ l. get_or l p 0) b ∙ get_or-replicate 4096 p none 0 h

module _ {G : Graph} {C : EdgeCosts} (L : Lists G C) {d : Direction} {s q from to : ℕ} {labels came : List ℕ}
    (K : Rung G C d s q labels came) (E : RowEnds G q from to) where
  abbrev step : ℕ → ℕ → ℕ
  step = along d (held G C)

  -- what is no neighbour of q has no label yet
  unlabelled : (j : ℕ) → q < j → j < count G.first → (T (linked G q j) → ⊥) → get_or labels j 0 ≡ none
  unlabelled j a b n =
      either (split (ltb (get_or labels j 0) none))
      (λ e. absurd (n (K.near j a b (ltb-true (get_or labels j 0) none e))))
      (λ e. omega (arith, ltb-false (get_or labels j 0) none e, stage_top K.state j b))

  module _ (small : (a b : ℕ) → step a b ≤ closed) where
    -- what `hand_on` asks
    pub rung_row : RowOf q (part from to G.heads) (part from to (chosen d C)) labels
    rung_row =
        record {
          same = costs_long L E d;
          own = omega (arith, K.below, L.few);
          within = λ i l. omega (arith, row_within L E i l, L.few);
          climbs = λ i j x l.
              let (r, e) = row_at_lem L E i (omega arith) in
              let (r', e') = row_at_lem L E j l in
              omega (arith, L.rows.climb q (from + i) (from + j) K.below r r' (omega arith));
          small = λ n.
              omega (
                arith,
                stage_label K.state q K.below (omega arith),
                stage_top K.state q K.below,
                label_small (linked G) step s small q (omega (arith, stage_label K.state q K.below (omega arith), stage_top K.state q K.below)),
                K.below,
                L.few,
              );
        }

    -- at an empty row the walk ends: nothing above q has a label
    pub rung_end : to ≤ from → Climbed (count G.first) (linked G) (along d (held G C)) s labels came
    rung_end b =
        stage_all
        (stage_skip turned (count G.first) (omega (arith, K.above)) K.below (λ j x y z. unlabelled j x z (lone L.rows E b j x)))
        (chain_only L.rows step small s)
        small
      where
        turned : Stage (count G.first) (linked G) step s (suc q) labels came
        turned =
            stage_turn K.state labels came refl refl K.above (λ p h. (refl, refl))
            (λ p h l. kept (omega (arith, hands_apart (linked G) step (label (linked G) step s) p q (lone L.rows E b p h))) refl refl)

  module _ {labels' came' : List ℕ} (b : from < to)
      (H : HandedOn q (get_or labels q 0) (part from to G.heads) (part from to (chosen d C)) (length (part from to G.heads)) labels came labels' came') where
    -- what does not stand in the row has not changed
    unchanged : (p : ℕ) → ((k : ℕ) → InRow G q k → get_or G.heads k 0 ≢ p)
        → (get_or labels' p 0 ≡ get_or labels p 0) × (get_or came' p 0 ≡ get_or came p 0)
    unchanged p n =
        let absent : (j : ℕ) → j < length (part from to G.heads) → get_or (part from to G.heads) j 0 ≢ p =
        λ j h e. n (from + j) (row_at_lem L E j h).0 (sym (row_at_lem L E j h).1 ∙ e) in
        (H.labels_kept p absent, H.came_kept p absent)

    -- so what is not joined to q
    apart : (p : ℕ) → (T (linked G q p) → ⊥) → (get_or labels' p 0 ≡ get_or labels p 0) × (get_or came' p 0 ≡ get_or came p 0)
    apart p n = unchanged p (λ k r e. n (linked_i L.rows q k p K.below r e))

    -- along each edge of the row what q hands on has been offered, and to no other position
    offered : (p : ℕ) → q < p → p < count G.first
        → Offered q (hands_on (linked G) step (label (linked G) step s) p q) (get_or labels p 0) (get_or came p 0) (get_or labels' p 0) (get_or came' p 0)
    offered p h l =
        either (split (linked G q p))
        (λ t.
        let u : T (linked G q p) = true_holds (linked G q p) t in
        let (j, z, e) = row_entry L E p h u in
        let es : get_or (part from to (chosen d C)) j 0 ≡ step q p = cost_at L E d j z ∙ ap (step q) e in
        let g : label_over (get_or labels q 0) (get_or (part from to (chosen d C)) j 0) ≡ hands_on (linked G) step (label (linked G) step s) p q =
        rw (es, stage_label K.state q K.below (omega arith)) (sym (hands_edge (linked G) step (label (linked G) step s) p q u)) in
        rw (g, e) at (H.here j z))
        (λ t.
        let n : T (linked G q p) → ⊥ = λ u. true_false (sym (holds_true (linked G q p) u) ∙ t) in
        kept (omega (arith, hands_apart (linked G) step (label (linked G) step s) p q n)) (apart p n).0 (apart p n).1)

    -- q has had its turn
    turned : Stage (count G.first) (linked G) step s (suc q) labels' came'
    turned =
        stage_turn K.state labels' came' H.long H.came_long K.above
        (λ p h. unchanged p (λ k r e. omega (arith, L.rows.above q k K.below r)))
        offered

    -- and the walk goes on at the parent, the lowest entry of the row
    pub rung_next : Rung G C d s (get_or G.heads from 0) labels' came'
    rung_next =
        record {
          state = stage_skip turned (get_or G.heads from 0) (omega (arith, K.above)) P.above
              (λ j x y z. (apart j (between j x y)).0 ∙ unlabelled j x z (between j x y));
          below = parent_below L.rows E b;
          above = omega (arith, K.above, P.above);
          near = near;
        }
      where
        P : Parent (λ x y. T (linked G x y)) q (get_or G.heads from 0)
        P = parent L.rows E b

        -- nothing between q and its parent is joined to q
        between : (j : ℕ) → q < j → j < get_or G.heads from 0 → T (linked G q j) → ⊥
        between j x y t = omega (arith, P.lowest j x t)

        near : (p : ℕ) → get_or G.heads from 0 < p → p < count G.first → get_or labels' p 0 < none → T (linked G (get_or G.heads from 0) p)
        near p h l g =
            let u : T (linked G q p) =
            either (split (linked G q p))
            (λ t. true_holds (linked G q p) t)
            (λ t.
            let n : T (linked G q p) → ⊥ = λ v. true_false (sym (holds_true (linked G q p) v) ∙ t) in
            K.near p (omega (arith, P.above)) l (omega (arith, (apart p n).0))) in
            linked_third L.rows q (get_or G.heads from 0) p P.above (omega (arith, P.above)) (omega arith) P.edge u
