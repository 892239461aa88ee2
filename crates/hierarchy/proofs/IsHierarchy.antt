-- 4 and 7 together: what decides them. Assumes nothing.
use Prim.Native.Nat.{ℕ, ◌<◌}
use mathlib.Core.Path.{◌≡◌, refl, sym, ◌∙◌}
use mathlib.Core.Bool.{true, false, ◌&&◌, and_assoc}
use mathlib.Core.List.{List, [], ◌∷◌}
use native.Mathlib.Omega.{arith}
use lib.Dec.{T}
use lib.ListN.{length}
use Rattle.rules.specs.Graph.{Graph}
use Rattle.rules.specs.Hierarchy.{inverts, is_hierarchy}
use Rattle.rules.specs.Refusals.{passes, fails, first_failure, check4, check7}
use Rattle.theory.proofs.Words.{either, split, holds_true, true_holds, true_false}
use Rattle.theory.specs.Orders.{Ordered, Inverse}
use Rattle.theory.proofs.Orders.{ordered, ordered_passes, inverse}
use Rattle.theory.specs.Rows.{Rows}
use Rattle.theory.proofs.Rows.{rows, ranked}
use Rattle.theory.proofs.Verdicts.{first_passes}
use Rattle.theory.proofs.Accepted.{passes7, hierarchy_passes}
use Rattle.hierarchy.specs.Tests.{seats_agree, rows_hold}
use Rattle.hierarchy.proofs.SeatsAgree.{seats_right, right_seats}

-- the definition of a hierarchy is the rank list's test and the rows' test
hierarchy_parts : (order rank : List ℕ) (G : Graph) → is_hierarchy order rank G ≡ (inverts order rank && rows_hold (length order) G)
unfolding is_hierarchy rows_hold
hierarchy_parts order rank G = simp and_assoc

module _ (order rank : List ℕ) (G : Graph) where
  -- lists that are no hierarchy fail by 7
  fails7 : is_hierarchy order rank G ≡ false → check7 order rank G ≡ fails 7 0
  unfolding check7
  fails7 e = rw e refl

  -- an order that the rank list does not give back
  pub unranked7 : seats_agree order rank ≡ false → check4 order ≡ passes → check7 order rank G ≡ fails 7 0
  unranked7 e d =
      let no : inverts order rank ≡ false =
      either (split (inverts order rank))
      (λ t. true_false (sym (holds_true (seats_agree order rank) (right_seats rank (ordered order d) (true_holds (inverts order rank) t))) ∙ e))
      (λ t. t) in
      fails7 (hierarchy_parts order rank G ∙ rw no refl)

  module _ (seats : seats_agree order rank ≡ true) where
    -- then the order and the rank list are right
    seats_hold : Ordered order × T (inverts order rank)
    seats_hold = seats_right order rank (true_holds (seats_agree order rank) seats)

    -- where the rank list gives back every position, the rows decide
    rows_decide : is_hierarchy order rank G ≡ rows_hold (length order) G
    rows_decide = hierarchy_parts order rank G ∙ rw (holds_true (inverts order rank) seats_hold.1) refl

    -- 4 passes
    pub ranked4 : check4 order ≡ passes
    ranked4 = ordered_passes seats_hold.0

    -- the rows do not hold
    pub rowless7 : rows_hold (length order) G ≡ false → check7 order rank G ≡ fails 7 0
    rowless7 e = fails7 (rows_decide ∙ e)

    -- all holds
    pub rows7 : rows_hold (length order) G ≡ true → check7 order rank G ≡ passes
    rows7 e = hierarchy_passes order rank G (true_holds (is_hierarchy order rank G) (rows_decide ∙ e))

-- what decides 4 and 7
pub ruleset decided = (unranked7, ranked4, rowless7, rows7)

-- ---- what is known once both pass

module _ (order rank : List ℕ) (G : Graph) (h : first_failure (check4 order ∷ check7 order rank G ∷ []) ≡ passes) where
  -- the rank list is the inverse of the order, and the lists are rows
  pub graph_known : Inverse order rank × Rows (length order) G
  graph_known =
      let (f, g) = first_passes (check4 order) (check7 order rank G ∷ []) h in
      let (t, e) = first_passes (check7 order rank G) [] g in
      let u = passes7 order rank G t in
      (inverse rank (ordered order f) (ranked order rank G u), rows order rank G u)

  -- so E can be read
  pub graph_long : length order < length G.first
  graph_long = omega (arith, graph_known.1.long)
