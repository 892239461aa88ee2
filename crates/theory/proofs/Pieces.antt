-- The pieces of a route, taken from the meeting position: each edge is the one along which the label came. Code that follows the labels back
-- cites these. Assumes nothing.
use Prim.Native.Nat.{ℕ, ◌+◌, ◌<◌}
use mathlib.Core.Path.{◌≡◌}
use mathlib.Core.Logic.{◌≢◌}
use mathlib.Core.Bool.{Bool}
use native.Mathlib.Omega.{arith}
use lib.Dec.{T, ltb}
use borrow.Author.Tests.{ltb-true, ltb-false}
use Rattle.rules.specs.Costs.{none}
use Rattle.rules.specs.Distance.{label, label_from}
use Rattle.theory.proofs.Words.{either, split}
use Rattle.theory.proofs.Distance.{label_lower, label_from_lem}

module _ (joined : ℕ → ℕ → Bool) (step : ℕ → ℕ → ℕ) (s : ℕ) where
  -- a position with a label is the start or above it
  pub labelled_above : (p : ℕ) → label joined step s p < none → p ≢ s → s < p
  labelled_above p h n =
      either (split (ltb s p)) (λ e. ltb-true s p e)
      (λ e. either (split (ltb p s))
      (λ d. absurd (omega (arith, label_lower joined step s p (ltb-true p s d))))
      (λ d. absurd (n (omega (arith, ltb-false s p e, ltb-false p s d)))))

  -- where the label of a higher position came from: a lower one with a label, along an edge
  pub record CameFrom (p q : ℕ) : Type 0 where
    pub lower : q < p
    pub edge : T (joined q p)
    pub labelled : label joined step s q < none

  pub came_from : (p : ℕ) → s < p → label joined step s p < none → CameFrom p (label_from joined step s p)
  came_from p g h =
      let m = label_from_lem joined step s p g h in
      let e : label joined step s p ≡ label joined step s (label_from joined step s p) + step (label_from joined step s p) p = m.1 in
      record { lower = m.0.rises; edge = m.0.edge; labelled = omega arith }
