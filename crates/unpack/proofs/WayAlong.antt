-- What is met along a piece, by how it is opened: the upward and the downward unpacker cite the same laws, with the ends exchanged.
-- Assumes nothing.
use Prim.Native.Nat.{ℕ, ◌-◌, ◌<◌, min}
use mathlib.Core.Path.{◌≡◌, refl, sym, ◌∙◌}
use mathlib.Core.Logic.{◌≢◌}
use mathlib.Core.Bool.{Bool, true, false}
use mathlib.Core.List.{List, [], ◌∷◌, ◌++◌}
use native.Mathlib.Omega.{arith}
use lib.Dec.{T, ltb}
use lib.ListN.{length, get_or}
use borrow.Author.Tests.{ltb-true, ltb-false}
use Rattle.std.specs.Prelude.{Option, Some, None, Result, Ok, Err}
use Rattle.rules.specs.declared.Direction.{Direction}
use Rattle.rules.specs.declared.Direction.TheVariants.{Up, Down}
use Rattle.rules.specs.Words.{lowest}
use Rattle.rules.specs.Net.{Net, size, road_between, arc_between}
use Rattle.rules.specs.Graph.{Graph}
use Rattle.rules.specs.Hierarchy.{EdgeCosts, linked, held, along}
use Rattle.rules.specs.Route.{Event, drives, misfits, arc_fits, z_fits, middle}
use Rattle.rules.specs.Lent.{chosen as list_for}
use Rattle.theory.specs.Rows.{InRow, Rows, count}
use Rattle.theory.proofs.Rows.{linked_two}
use Rattle.theory.proofs.Words.{either, split, true_holds, holds_true, true_false, lowest_passes}
use Rattle.theory.proofs.Opened.{opened_arc, opened_parts, opened_misfit}
use Rattle.unpack.specs.declared.Stuck.{Stuck}
use Rattle.unpack.specs.declared.Parts.{Parts}
use Rattle.unpack.specs.declared.Choice.{Choice}
use Rattle.unpack.specs.declared.Choice.TheVariants.{Arc, Over}
use Rattle.unpack.specs.Opening.{ran, put, way_along, over, middle_in, arc_of, arc_or, choice, Ready}
use Rattle.unpack.proofs.Put.{put_on, put_stop}
use Rattle.unpack.proofs.Edge.{Edge, edge_of, place_in}
use Rattle.unpack.proofs.MiddleIn.{fits_joined}

-- ---- the choice

-- the edge along which a piece is driven
pub piece_edge : {N : Net} {G : Graph} {C : EdgeCosts} {low : List ℕ} {x k : ℕ}
    → Ready N G C low → x < count G.first → InRow G x k → Edge G C x (get_or G.heads k 0) k
piece_edge {G = G} {x = x} {k = k} K l r = edge_of K.lists x (get_or G.heads k 0) k l r refl

-- what it costs in either direction
pub along_costs : (d : Direction) {G : Graph} {C : EdgeCosts} {x y k : ℕ} → Edge G C x y k
    → (k < length (list_for d C)) × (get_or (list_for d C) k 0 ≡ along d (held G C) x y)
along_costs Up e = (e.up_in, e.up_is)
along_costs Down e = (e.down_in, e.down_is)

-- its ends are positions of the net, and two
pub two_ends : {N : Net} {G : Graph} {C : EdgeCosts} {low : List ℕ} → Ready N G C low → (a b : ℕ) → T (linked G a b)
    → (a < size N) × (b < size N) × (a ≢ b)
two_ends K a b t =
    let (h, g, n) = linked_two K.lists.rows a b t in (omega (arith, K.size_is), omega (arith, K.size_is), n)

-- the arc that fits, or else what the search over all lower positions finds
pub chosen : (N : Net) (G : Graph) (C : EdgeCosts) (a b : ℕ) {w : ℕ} {found : Option ℕ} {r : Option Choice} → w ≡ held G C a b → found ≡ arc_of N a b w
    → r ≡ arc_or found (middle_in G C a b 0 (min a b)) → r ≡ choice N G C a b
unfolding choice
chosen N G C a b e f h = rw (← e, ← f) h

-- ---- what is met

-- what is met on a piece that is opened so
abbrev pub way_by : (N : Net) (G : Graph) (C : EdgeCosts) (piece : Option Choice) → List Event
way_by N G C (Some (Arc i)) = drives i ∷ []
way_by N G C (Some (Over p)) = way_along N G C (get_or G.heads p.down 0) p.z.0 ++ way_along N G C p.z.0 (get_or G.heads p.up 0)
way_by N G C None = misfits ∷ []

module _ {n : ℕ} {G : Graph} (R : Rows n G) (N : Net) (C : EdgeCosts) (a b : ℕ) where
  abbrev fitting : Bool
  fitting = arc_fits (held G C) (road_between N) a b

  abbrev z : ℕ
  z = lowest (z_fits (linked G) (held G C) a b) 0 (min a b)

  by_arc : fitting ≡ true → choice N G C a b ≡ Some (Arc (arc_between N a b))
  unfolding choice arc_of
  by_arc t = rw t refl

  by_parts : fitting ≡ false → ltb z (min a b) ≡ true → choice N G C a b ≡ Some (Over (over G a b z))
  unfolding choice arc_of middle_in
  by_parts t d = let s : min a b - 0 ≡ min a b = omega arith in rw (t, s, d) refl

  by_neither : fitting ≡ false → ltb z (min a b) ≡ false → choice N G C a b ≡ None
  unfolding choice arc_of middle_in
  by_neither t d = let s : min a b - 0 ≡ min a b = omega arith in rw (t, s, d) refl

  way_by_lem : way_along N G C a b ≡ way_by N G C (choice N G C a b)
  unfolding way_along middle
  way_by_lem =
      either (split fitting)
      (λ t. rw (by_arc t) (opened_arc (linked G) (held G C) (road_between N) (arc_between N) a b (true_holds fitting t)))
      (λ t.
      let no : T fitting → ⊥ = λ u. true_false (sym (holds_true fitting u) ∙ t) in
      either (split (ltb z (min a b)))
      (λ d.
      let l = ltb-true z (min a b) d in
      let (p, q) = fits_joined G C a b z (lowest_passes (z_fits (linked G) (held G C) a b) 0 (min a b) (omega arith)) in
      rw (by_parts t d, (place_in R z a (omega arith) p).1, (place_in R z b (omega arith) q).1)
      (opened_parts (linked G) (held G C) (road_between N) (arc_between N) a b no l))
      (λ d. rw (by_neither t d) (opened_misfit (linked G) (held G C) (road_between N) (arc_between N) a b no (ltb-false z (min a b) d))))

  -- what is met along a piece is met on what was chosen
  pub met_by : {piece told : Option Choice} → piece ≡ choice N G C a b → piece ≡ told → (at : ℕ) (route : List ℕ)
      → put (way_by N G C told) at route ≡ put (way_along N G C a b) at route
  met_by is e at route = rw (way_by_lem, ← is, e) refl

module _ {n : ℕ} {G : Graph} (R : Rows n G) (N : Net) (C : EdgeCosts) (d : Direction) (x y : ℕ) where
  -- the same in either direction along an edge
  pub met_along : {piece told : Option Choice} → piece ≡ along d (choice N G C) x y → piece ≡ told → (at : ℕ) (route : List ℕ)
      → put (way_by N G C told) at route ≡ put (along d (way_along N G C) x y) at route
  met_along = go d
    where
      go : (d : Direction) {piece told : Option Choice} → piece ≡ along d (choice N G C) x y → piece ≡ told → (at : ℕ) (route : List ℕ)
          → put (way_by N G C told) at route ≡ put (along d (way_along N G C) x y) at route
      go Up = met_by R N C x y
      go Down = met_by R N C y x

  module _ {piece : Option Choice} (is : piece ≡ along d (choice N G C) x y) {p : Parts} (e : piece ≡ Some (Over p)) (at : ℕ) (before : List ℕ)
      {answer : Result ℕ Stuck} {between : List ℕ} (first : ran answer between ≡ put (way_along N G C (get_or G.heads p.down 0) p.z.0) at before) where
    -- a first part that stops
    pub by_first : {why : Stuck} → answer ≡ Err why → ran (Err why) between ≡ put (along d (way_along N G C) x y) at before
    by_first {why} n =
        put_stop _ (way_along N G C p.z.0 (get_or G.heads p.up 0)) at before (Err why) between tt (rw n at first) ∙ met_along is e at before

    -- both parts, one after the other
    pub by_both : {free : ℕ} {last : Result ℕ Stuck} {after : List ℕ} → answer ≡ Ok free
        → ran last after ≡ put (way_along N G C p.z.0 (get_or G.heads p.up 0)) free between
        → ran last after ≡ put (along d (way_along N G C) x y) at before
    by_both {free} n second =
        second
        ∙ sym (put_on (way_along N G C (get_or G.heads p.down 0) p.z.0) _ at before free between (rw n at first))
        ∙ met_along is e at before
