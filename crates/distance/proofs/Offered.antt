-- One offer, and the offers along a row. Assumes nothing.
use Prim.Native.Nat.{ℕ, suc, ◌+◌, ◌<◌}
use mathlib.Core.Path.{sym, ◌∙◌}
use mathlib.Core.Logic.{◌≢◌}
use mathlib.Core.List.{List}
use native.Mathlib.Omega.{arith}
use lib.Dec.{eqb}
use lib.ListN.{length, get_or}
use borrow.Author.Tests.{eqb-true, eqb-false}
use Rattle.rules.specs.Costs.{none, label_over}
use Rattle.theory.proofs.Best.{Best, best_take, best_keep, best_top}
use Rattle.theory.proofs.Words.{either, split}
use Rattle.distance.specs.Labelled.{Offered, taken, kept, OfferedTo, HandedOn}

-- an offer of the next number keeps what is best
pub best_offer : {f : ℕ → ℕ} {i b a b' a' : ℕ} → Best f none i b a → Offered i (f i) b a b' a' → Best f none (suc i) b' a'
best_offer B (taken h e g) = rw (e, g) (best_take B h)
best_offer B (kept h e g) = rw (e, g) (best_keep B (omega (arith, best_top B)))

module _ (q mine : ℕ) (row costs labels came : List ℕ) where
  -- one edge more: its head is none of those before it
  pub handed_more : {i : ℕ} {l w l' w' : List ℕ}
      → ((j k : ℕ) → j < k → k < length row → get_or row j 0 < get_or row k 0)
      → HandedOn q mine row costs i labels came l w → i < length row
      → OfferedTo (get_or row i 0) q (label_over mine (get_or costs i 0)) l w l' w'
      → HandedOn q mine row costs (i + 1) labels came l' w'
  handed_more {i} {l} {w} {l'} {w'} climbs H b O =
      record {
        within = omega arith;
        long = O.long ∙ H.long;
        came_long = O.came_long ∙ H.came_long;
        here = here;
        labels_kept = λ p d. O.labels_kept p (λ e. d i (omega arith) (sym e)) ∙ H.labels_kept p (λ j h. d j (omega arith));
        came_kept = λ p d. O.came_kept p (λ e. d i (omega arith) (sym e)) ∙ H.came_kept p (λ j h. d j (omega arith));
      }
    where
      fresh : (j : ℕ) → j < i → get_or row j 0 ≢ get_or row i 0
      fresh j h e = omega (arith, climbs j i h b)

      here : (j : ℕ) → j < i + 1
          → Offered q (label_over mine (get_or costs j 0)) (get_or labels (get_or row j 0) 0) (get_or came (get_or row j 0) 0)
          (get_or l' (get_or row j 0) 0) (get_or w' (get_or row j 0) 0)
      here j h =
          either (split (eqb j i))
          (λ e. rw (eqb-true j i e, ← H.labels_kept (get_or row i 0) fresh, ← H.came_kept (get_or row i 0) fresh) O.there)
          (λ e.
          let g : j < i = omega (arith, eqb-false j i e) in
          rw (O.labels_kept (get_or row j 0) (fresh j g), O.came_kept (get_or row j 0) (fresh j g)) (H.here j g))
