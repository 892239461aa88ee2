-- The row of a position between the ends that a walk reads, and its first entry: the parent. Assumes nothing.
use Prim.Native.Nat.{ℕ, suc, ◌+◌, ◌≤◌, ◌<◌}
use mathlib.Core.Path.{◌≡◌, refl, ap}
use native.Mathlib.Omega.{arith}
use lib.Dec.{T}
use lib.ListN.{length, get_or}
use Rattle.rules.specs.Graph.{Graph}
use Rattle.rules.specs.Hierarchy.{linked}
use Rattle.theory.specs.Parents.{Parent}
use Rattle.theory.specs.Rows.{InRow, Rows, count}
use Rattle.theory.proofs.Rows.{rises, row_ends, next_row, in_row_i, linked_e, linked_i}
use Rattle.theory.proofs.Words.{either, same_or_not}

-- the ends of row q
pub record RowEnds (G : Graph) (q from to : ℕ) : Type 0 where
  pub below : q < count G.first
  pub from_is : from ≡ get_or G.first q 0
  pub to_is : to ≡ get_or G.first (q + 1) 0

module _ {G : Graph} (R : Rows (count G.first) G) {q from to : ℕ} (E : RowEnds G q from to) where
  -- the row is a part of the heads, before the end of all rows
  pub in_lists : (from ≤ to) × (to ≤ length G.heads) × (to ≤ get_or G.first (count G.first) 0)
  in_lists =
      let (rise, high) = row_ends R q E.below in (
        omega (arith, E.from_is, E.to_is),
        omega (arith, E.to_is),
        omega (arith, E.to_is, next_row G q, rises R (suc q) (count G.first) E.below (omega arith)),
      )

  -- a place between the ends is a place of the row
  pub in_part : (k : ℕ) → from ≤ k → k < to → InRow G q k
  in_part k a b = in_row_i G q k (omega (arith, E.from_is)) (omega (arith, E.to_is))

  -- each place of the row lies between them
  pub between_ends : (k : ℕ) → InRow G q k → (from ≤ k) × (k < to)
  between_ends k r = (omega (arith, E.from_is, r.low), omega (arith, E.to_is, next_row G q, r.high))

  -- at an empty row nothing higher is joined
  pub lone : to ≤ from → (p : ℕ) → q < p → T (linked G q p) → ⊥
  lone b p h t = let (k, r, e) = linked_e R q p t h in let (x, y) = between_ends k r in omega arith

  module _ (b : from < to) where
    -- "A position's parent is the lowest entry of its row"
    pub parent : Parent (λ x y. T (linked G x y)) q (get_or G.heads from 0)
    parent =
        let first = in_part from (omega arith) b in
        record {
          above = R.above q from E.below first;
          edge = linked_i R q from (get_or G.heads from 0) E.below first refl;
          lowest = λ j x t.
              let (k, r, e) = linked_e R q j t x in
              let (lo, hi) = between_ends k r in
              either (same_or_not from k)
              (λ i. omega (arith, ap (λ m. get_or G.heads m 0) i))
              (λ i. omega (arith, R.climb q from k E.below first r (omega arith)));
        }

    -- a position of the net
    pub parent_below : get_or G.heads from 0 < count G.first
    parent_below = R.below q from E.below (in_part from (omega arith) b)
