-- The last arc listed between two junctions is the arc in force, unless it is CLOSED. Assumes nothing.
use Prim.Native.Nat.{ℕ, ◌<◌}
use mathlib.Core.Path.{◌≡◌, refl, sym, ◌∙◌}
use mathlib.Core.Logic.{◌≢◌}
use mathlib.Core.List.{List}
use lib.Dec.{eqb}
use lib.ListN.{get_or}
use borrow.Author.Tests.{eqb-false, eq-eqb, ne_eqb}
use Rattle.std.specs.Prelude.{Some, None}
use Rattle.roads.specs.declared.Roads.{Roads}
use Rattle.rules.specs.Costs.{closed}
use Rattle.rules.specs.Net.{Net, size, road_between}
use Rattle.theory.proofs.Words.{either, split}
use Rattle.roads.specs.Roads.{last_arc, RoadsIn, ByTail, with_tails}
use Rattle.roads.proofs.OfNet.{roads_by}
use Rattle.roads.proofs.LastListed.{no_road, in_force_lem, costs_so}
use Rattle.unpack.specs.Opening.{arc_of, Readable}

-- where the road does not cost as much as the piece, unless it is CLOSED, no arc fits
none_fits : (N : Net) (a b w : ℕ) → (road_between N a b ≡ w → road_between N a b ≡ closed) → None ≡ arc_of N a b w
unfolding arc_of
none_fits N a b w shut =
    either (split (eqb (road_between N a b) closed))
    (λ t. rw t refl)
    (λ t. rw (t, ne_eqb (road_between N a b) w (λ d. eqb-false (road_between N a b) closed t (shut d))) refl)

-- a CLOSED piece fits no arc
pub shut_piece : (N : Net) (a b w : ℕ) → w ≡ closed → None ≡ arc_of N a b w
shut_piece N a b w e = none_fits N a b w (λ d. d ∙ e)

-- what the search reads is there
pub reads : {N : Net} {R : Roads} {a b : ℕ} → RoadsIn N R → {tails : List ℕ} → ByTail tails N.heads R → a < size N → b < size N → a ≢ b
    → Readable (with_tails N tails) R a b
reads P B f t n = record { roads = roads_by P B; from_in = f; to_in = t; apart = n }

module _ {N : Net} {R : Roads} {a b u v : ℕ} (K : Readable N R a b) (u_is : u ≡ get_or N.order a 0) (v_is : v ≡ get_or N.order b 0) (w : ℕ) where
  -- nothing listed, nothing fits
  pub unlisted : None ≡ last_arc N.tails N.heads u v → None ≡ arc_of N a b w
  unlisted e = none_fits N a b w (λ d. no_road K.roads K.from_in K.to_in K.apart u_is v_is e)

  module _ (i : ℕ) (found : Some i ≡ last_arc N.tails N.heads u v) where
    so : road_between N a b ≡ get_or N.costs i 0
    so = costs_so K.roads K.from_in K.to_in K.apart u_is v_is i found

    -- the last listing costs something else
    pub other_cost : get_or N.costs i 0 ≢ w → None ≡ arc_of N a b w
    other_cost n = none_fits N a b w (λ d. absurd (n (sym so ∙ d)))

    -- the last listing costs as much as the piece
    pub same_cost : w ≢ closed → get_or N.costs i 0 ≡ w → Some i ≡ arc_of N a b w
    unfolding arc_of
    same_cost o e =
        let r : road_between N a b ≡ w = so ∙ e in
        let p = in_force_lem K.roads K.from_in K.to_in K.apart u_is v_is i found (λ d. o (sym e ∙ d)) in
        rw (ne_eqb (road_between N a b) closed (λ d. o (sym r ∙ d)), eq-eqb (road_between N a b) w r, p.0) refl
