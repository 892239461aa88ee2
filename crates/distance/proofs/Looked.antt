-- Where two lists of labels meet: looking at the chain of parents of the target is enough. Assumes nothing.
use Prim.Native.Nat.{ℕ, ◌≤◌, ◌<◌}
use mathlib.Core.Path.{◌≡◌, refl, sym, ◌∙◌, subst}
use mathlib.Core.Bool.{Bool}
use mathlib.Core.List.{List}
use native.Mathlib.Omega.{arith}
use lib.Dec.{T, eqb, ltb}
use lib.ListN.{get_or}
use borrow.Author.Tests.{ltb-true, ltb-false}
use Rattle.rules.specs.Calls.{listed_distance}
use Rattle.rules.specs.Costs.{none}
use Rattle.rules.specs.Distance.{both_labels, distance, meeting}
use Rattle.rules.specs.Graph.{Graph}
use Rattle.rules.specs.Hierarchy.{EdgeCosts, linked, along, held}
use Rattle.rules.specs.declared.Direction.TheVariants.{Up, Down}
use Rattle.theory.specs.Parents.{Parent, Chain, here, higher}
use Rattle.theory.specs.Rows.{count, Rows}
use Rattle.theory.proofs.Best.{Best, best_start, best_on, best_lowest}
use Rattle.theory.proofs.Words.{either, split, least_same, lowest_same}
use Rattle.distance.specs.Labelled.{Climbed, Offered, sums_at, Chained, Met, MetBetween}
use Rattle.distance.proofs.Offered.{best_offer}
use Rattle.distance.proofs.Parent.{RowEnds, lone, parent, parent_below}

-- ---- chains

-- a chain goes up
chain_up : {joined : ℕ → ℕ → Type 0} {p z : ℕ} → Chain joined p z → z ≤ p
chain_up here = omega arith
chain_up (higher P c) = omega (arith, P.above, chain_up c)

-- what is on the chain above z is on its parent's chain
chain_next : {joined : ℕ → ℕ → Type 0} {p z : ℕ} → Chain joined p z → z < p → (c : ℕ) × Parent joined z c × Chain joined p c
chain_next here h = absurd (omega arith)
chain_next (higher {c = c} P k) h = (c, P, k)

-- ---- the walk

-- before q, on the chain of parents of the labels b, is looked at: the best so far, and what is to come
pub record Looked (G : Graph) (a b : List ℕ) (q sum at : ℕ) : Type 0 where
  pub below : q < count G.first
  pub best : Best (sums_at a b) none q sum at
  pub ahead : (p : ℕ) → q ≤ p → p < count G.first → get_or b p 0 < none → Chain (λ x y. T (linked G x y)) p q

-- where b has no label there is no sum
no_sum : (a b : List ℕ) (p : ℕ) → (get_or b p 0 < none → ⊥) → sums_at a b p ≡ none
no_sum a b p n =
    either (split (ltb (get_or b p 0) none))
    (λ e. absurd (n (ltb-true (get_or b p 0) none e)))
    (λ e. omega (arith, ltb-false (get_or b p 0) none e))

-- the walk begins at t, below which no label stands
pub looked_start : {G : Graph} {t : ℕ} {a b : List ℕ} → Chained G t b → (x : ℕ) → Looked G a b t none x
looked_start {G} {t} {a} {b} H x =
    record {
      below = H.start;
      best = best_on (best_start (sums_at a b) none x) t (omega arith)
          (λ j u v. no_sum a b j (λ g. omega (arith, chain_up (H.on_chain j (omega (arith, H.start)) g))));
      ahead = λ p h l g. H.on_chain p l g;
    }

module _ {G : Graph} (R : Rows (count G.first) G) {a b : List ℕ} {q from to sum at sum' at' : ℕ} (K : Looked G a b q sum at)
    (O : Offered q (sums_at a b q) sum at sum' at') (E : RowEnds G q from to) where
  -- it goes on at the parent, and no label stands between
  pub looked_next : from < to → Looked G a b (get_or G.heads from 0) sum' at'
  looked_next h =
      record {
        below = parent_below R E h;
        best = best_on (best_offer K.best O) c P.above
            (λ j u v. no_sum a b j (λ g. omega (arith, chain_up (onward j u (omega (arith, parent_below R E h)) g))));
        ahead = λ p u l g. onward p (omega (arith, P.above)) l g;
      }
    where
      c : ℕ
      c = get_or G.heads from 0

      P : Parent (λ x y. T (linked G x y)) q c
      P = parent R E h

      onward : (p : ℕ) → q < p → p < count G.first → get_or b p 0 < none → Chain (λ x y. T (linked G x y)) p c
      onward p u l g =
          let (e, Q, k) = chain_next (K.ahead p (omega arith) l g) u in
          let same : e ≡ c = omega (arith, Q.lowest c P.above P.edge, P.lowest e Q.above Q.edge) in
          subst (λ z. Chain (λ x y. T (linked G x y)) p z) same k

  -- it ends at an empty row, above which no label stands
  pub looked_end : to ≤ from → Met (count G.first) a b sum' at'
  looked_end h =
      let B = best_on (best_offer K.best O) (count G.first) K.below (λ j u v. no_sum a b j (λ g.
      let (e, P, k) = chain_next (K.ahead j (omega arith) v g) u in lone R E h e P.above P.edge)) in
      record { is_least = B.is; is_lowest = λ g. sym (best_lowest B g) }

-- ---- what the climbs and the meeting give

module _ {n : ℕ} {joined : ℕ → ℕ → Bool} {cost : ℕ → ℕ → ℕ} {s t : ℕ} {a b wa wb : List ℕ} {sum at : ℕ}
    (A : Climbed n joined (along Up cost) s a wa) (B : Climbed n joined (along Down cost) t b wb) (M : Met n a b sum at) where
  -- the sums of both lists are the paper's
  sums_are : (p : ℕ) → p < n → sums_at a b p ≡ both_labels joined cost s t p
  unfolding both_labels
  sums_are p h = rw (A.labelled p h, B.labelled p h) refl

  -- the least sum is the distance
  met_distance : sum ≡ distance n joined cost s t
  unfolding distance
  met_distance = M.is_least ∙ least_same (sums_at a b) (both_labels joined cost s t) none n sums_are

  -- and the lowest position that has it is the meeting position
  met_meeting : distance n joined cost s t < none → at ≡ meeting n joined cost s t
  unfolding meeting
  met_meeting g =
      M.is_lowest (omega (arith, met_distance))
      ∙ lowest_same (λ p. eqb (sums_at a b p) sum) (λ p. eqb (both_labels joined cost s t p) (distance n joined cost s t)) 0 n
      (λ q x y. rw (sums_are q (omega arith), met_distance) refl)

-- so by the lists as they are
pub met_between : (G : Graph) (C : EdgeCosts) {s t : ℕ} {a b came_up came_down : List ℕ} {sum at : ℕ}
    → Climbed (count G.first) (linked G) (along Up (held G C)) s a came_up
    → Climbed (count G.first) (linked G) (along Down (held G C)) t b came_down
    → Met (count G.first) a b sum at → MetBetween G C s t sum at came_up came_down
unfolding listed_distance
met_between G C A B M =
    record {
      is_distance = met_distance A B M;
      is_meeting = λ g. met_meeting A B M (omega (arith, met_distance A B M));
      up_sources = record { source = A.source };
      down_sources = record { source = B.source };
    }
