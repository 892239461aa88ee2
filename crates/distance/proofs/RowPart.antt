-- The row of a position between the ends that a walk reads, as a part of the heads, and its costs in one direction, as a part of the cost list.
-- Assumes nothing.
use Prim.Native.Nat.{ℕ, suc, ◌+◌, ◌-◌, ◌≤◌, ◌<◌}
use mathlib.Core.Path.{◌≡◌, sym, ap, ◌∙◌}
use mathlib.Core.List.{List}
use native.Mathlib.Omega.{arith}
use lib.Dec.{T, ltb}
use borrow.Author.Tests.{ltb-true, ltb-false}
use Rattle.std.proofs.Common.{Some, None, slice_get, add-zero}
use Rattle.std.proofs.lemmas.Option.{get_or_from_slice_get, slice_get-get_or, slice_get_past}
use lib.ListN.{length, get_or, drop, length-take, length-drop}
use lib.Seq.{get_or-take, get_or-drop}
use Rattle.rules.specs.Graph.{Graph}
use Rattle.rules.specs.Hierarchy.{EdgeCosts, linked, held, along}
use Rattle.rules.specs.declared.Direction.TheVariants.{Up, Down}
use Rattle.rules.specs.declared.Direction.{Direction}
use Rattle.theory.specs.Rows.{InRow, count, Lists}
use Rattle.theory.proofs.Held.{held_up, held_down}
use Rattle.theory.proofs.Rows.{in_heads, linked_e}
use Rattle.theory.proofs.Words.{either, split}
use Rattle.rules.specs.Lent.{chosen}
use Rattle.lists.specs.Lent.{part}
use Rattle.distance.proofs.Parent.{RowEnds, in_lists, in_part, between_ends}

-- a part has as many as asked for
length_part : (f t : ℕ) (l : List ℕ) → t ≤ length l → length (part f t l) ≡ t - f
length_part f t l h = length-take (t - f) (drop f l) ∙ omega (arith, length-drop f l)

-- and each is the whole list's
part_at : (f t : ℕ) (l : List ℕ) (i : ℕ) → i < t - f → get_or (part f t l) i 0 ≡ get_or l (f + i) 0
part_at f t l i h = get_or-take (t - f) (drop f l) i 0 h ∙ get_or-drop f l i 0

-- the first of a part, where it has one: the list's at the part's start
pub first_of : (f t : ℕ) (l : List ℕ) → t ≤ length l → (v : ℕ) → Some v ≡ slice_get (part f t l) 0 → (f < t) × (v ≡ get_or l f 0)
first_of f t l h v e =
    either (split (ltb f t))
    (λ u.
    let b = ltb-true f t u in
    (b, sym (get_or_from_slice_get (part f t l) 0 v 0 (sym e)) ∙ part_at f t l 0 (omega arith) ∙ ap (λ k. get_or l k 0) (add-zero f)))
    (λ u.
    let past : slice_get (part f t l) 0 ≡ None = slice_get_past (part f t l) 0 (omega (arith, length_part f t l h, ltb-false f t u)) in
    let apart : None ≡ Some v = sym (e ∙ past) in cc)

-- and a part with no first is empty
pub first_none : (f t : ℕ) (l : List ℕ) → t ≤ length l → None ≡ slice_get (part f t l) 0 → t ≤ f
first_none f t l h e =
    either (split (ltb f t))
    (λ u.
    let there = slice_get-get_or (part f t l) 0 0 (omega (arith, length_part f t l h, ltb-true f t u)) in
    let apart : None ≡ Some (get_or (part f t l) 0 0) = e ∙ there in cc)
    (λ u. ltb-false f t u)

module _ {G : Graph} {C : EdgeCosts} (L : Lists G C) where
  -- both lists reach as far as the rows
  pub chosen_long : (d : Direction) (e : ℕ) → e ≤ get_or G.first (count G.first) 0 → e ≤ length (chosen d C)
  chosen_long Up e h = omega (arith, L.up_long)
  chosen_long Down e h = omega (arith, L.down_long)

  -- the chosen list holds at an edge's place what the definition says
  served : (d : Direction) (q k : ℕ) → q < count G.first → InRow G q k → k < length (chosen d C)
      → get_or (chosen d C) k 0 ≡ along d (held G C) q (get_or G.heads k 0)
  served Up q k l r h = held_up L.rows C q k l r h
  served Down q k l r h = held_down L.rows C q k l r h

  module _ {q from to : ℕ} (E : RowEnds G q from to) where
    -- the part of the heads is the row, entry by entry
    row_long : length (part from to G.heads) ≡ to - from
    row_long = length_part from to G.heads (in_lists L.rows E).1

    pub row_at_lem : (i : ℕ) → i < length (part from to G.heads)
        → InRow G q (from + i) × (get_or (part from to G.heads) i 0 ≡ get_or G.heads (from + i) 0)
    row_at_lem i h =
        (in_part L.rows E (from + i) (omega arith) (omega (arith, row_long)), part_at from to G.heads i (omega (arith, row_long)))

    -- its entries are positions of the net
    pub row_within : (i : ℕ) → i < length (part from to G.heads) → get_or (part from to G.heads) i 0 < count G.first
    row_within i h = let (r, e) = row_at_lem i h in omega (arith, L.rows.below q (from + i) E.below r)

    -- each higher neighbour stands in it
    pub row_entry : (p : ℕ) → q < p → T (linked G q p)
        → (j : ℕ) × (j < length (part from to G.heads)) × (get_or (part from to G.heads) j 0 ≡ p)
    row_entry p h t =
        let (k, r, e) = linked_e L.rows q p t h in
        let (lo, hi) = between_ends L.rows E k r in
        let i : from + (k - from) ≡ k = omega arith in
        let z : k - from < length (part from to G.heads) = omega (arith, row_long) in
        (k - from, z, (row_at_lem (k - from) z).1 ∙ ap (λ m. get_or G.heads m 0) i ∙ e)

    module _ (d : Direction) where
      -- the costs are as many
      pub costs_long : length (part from to G.heads) ≡ length (part from to (chosen d C))
      costs_long = row_long ∙ sym (length_part from to (chosen d C) (chosen_long d to (in_lists L.rows E).2))

      -- and each is the edge's
      pub cost_at : (i : ℕ) → i < length (part from to G.heads)
          → get_or (part from to (chosen d C)) i 0 ≡ along d (held G C) q (get_or (part from to G.heads) i 0)
      cost_at i h =
          let (r, e) = row_at_lem i h in
          part_at from to (chosen d C) i (omega (arith, row_long))
          ∙ served d q (from + i) E.below r (chosen_long d (suc (from + i)) (in_heads L.rows q (from + i) E.below r).0)
          ∙ ap (along d (held G C) q) (sym e)
