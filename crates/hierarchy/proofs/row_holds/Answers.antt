-- Each way out is a law of the row's test; the parent's row is one of those known to lie within heads. Assumes nothing.
use Prim.Native.Nat.{◌<◌}
use mathlib.Core.Path.{refl, sym, ◌∙◌}
use native.Mathlib.Omega.{arith}
use lib.ListN.{get_or}
use Rattle.rules.specs.Lent.{lent_graph}
use Rattle.hierarchy.proofs.RowHolds.{above_e, row_none, row_alone, row_parent, row_rest, row_within}
use Rattle.hierarchy.proofs.row_holds.Goals as goal
use Rattle.hierarchy.proofs.row_holds.Goals.{Else-not-is_above}

pub returns-then-to-from : goal.returns-then-to-from
returns-then-to-from c =
    row_none c.args.n (lent_graph c.args.graph.now) c.args.p.0 _ _ refl refl c.if-to-from.true

pub returns-then-to-rest : goal.returns-then-to-rest
returns-then-to-rest c =
    c.is_above.ensures
    ∙ row_alone c.args.n (lent_graph c.args.graph.now) c.args.p.0 _ _ refl refl _ refl c.if-to-from.false c.requires.2.fits c.if-to-rest.true

pub returns-then-not-is_above : goal.returns-then-not-is_above
returns-then-not-is_above c =
    row_parent c.args.n (lent_graph c.args.graph.now) c.args.p.0 _ _ refl refl _ refl (omega (arith, c.if-to-rest.false)) c.requires.2.fits
    (sym c.if-not-is_above.true ∙ c.is_above-2.ensures)

-- the parent lies above p and below n
above : (c : Else-not-is_above) → let G = c.args.graph.now in
    let parent = get_or G.heads.now (get_or G.first.now c.args.p.0 0) 0 in (c.args.p.0 < parent) × (parent < c.args.n)
above c = above_e c.args.n c.args.p.0 _ (sym c.if-not-is_above.false ∙ c.is_above-2.ensures)

pub comes_in-requires : goal.comes_in-requires
comes_in-requires c =
    let (m, l) = above (goal.at.comes_in-requires c).Else-not-is_above in
    let (x, y, z) = row_within c.requires.2 _ _ _ m l c.places-above.ensures.start c.places-above.ensures.end in
    (c.if-to-rest.false, x, y, z)

pub returns : goal.returns
returns c =
    let (m, l) = above (goal.at.returns c).Else-not-is_above in
    row_rest c.args.n (lent_graph c.args.graph.now) c.args.p.0 _ _ refl refl _ refl (omega (arith, c.if-to-rest.false)) c.requires.2.fits
    _ _ c.comes_in.result m l c.places-above.ensures.start c.places-above.ensures.end c.comes_in.ensures
