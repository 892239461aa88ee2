-- `meet` meets its contract: what has a label from p on is on the chain of parents of p. Assumes nothing.
use Rattle.std.proofs.Common.{arith}
use Rattle.rules.specs.Lent.{lent_graph}
use Rattle.distance.proofs.Looked.{looked_start, looked_next, looked_end}
use Rattle.distance.proofs.Parent.{RowEnds, in_lists, parent, parent_below}
use Rattle.distance.proofs.RowPart.{first_of, first_none}
use Rattle.distance.proofs.meet.Goals as goal
use Rattle.distance.proofs.meet.Goals.{After-places-places}

-- the ends of the row of p
ends : (c : After-places-places) → RowEnds (lent_graph c.args.graph.now) c.chain.p.0 c.places-places.result.start c.places-places.result.end
ends c = record { below = c.chain.invariant.below; from_is = c.places-places.ensures.start; to_is = c.places-places.ensures.end }

pub chain-init : goal.chain-init
chain-init c = looked_start c.requires _

pub look-best-requires : goal.look-best-requires
look-best-requires c = omega (arith, c.chain.invariant.below, c.requires.few)

pub places-places-requires : goal.places-places-requires
places-places-requires c = omega (arith, c.chain.invariant.below, c.requires.rows.long)

pub offset_bounds-graph-places : goal.offset_bounds-graph-places
offset_bounds-graph-places c = omega (arith, in_lists c.requires.rows (ends (goal.at.offset_bounds-graph-places c).After-places-places))

pub slice_bounds-first-end : goal.slice_bounds-first-end
slice_bounds-first-end c = omega (arith, in_lists c.requires.rows (ends (goal.at.slice_bounds-first-end c).After-places-places))

pub returns-in_default : goal.returns-in_default
returns-in_default c =
    let E = ends (goal.at.returns-in_default c).After-places-places in
    looked_end c.requires.rows c.chain.invariant c.look-best.ensures E (first_none _ _ _ (in_lists c.requires.rows E).1 c.in_default.ensures.value)

pub chain-smaller : goal.chain-smaller
chain-smaller c =
    let R = c.requires.rows in
    let E = ends (goal.at.chain-smaller c).After-places-places in
    let (h, e) = first_of _ _ _ (in_lists R E).1 _ c.in-Some.ensures.value in
    omega (arith, e, (parent R E h).above, parent_below R E h)

pub chain-preserved : goal.chain-preserved
chain-preserved c =
    let R = c.requires.rows in
    let E = ends (goal.at.chain-preserved c).After-places-places in
    let (h, e) = first_of _ _ _ (in_lists R E).1 _ c.in-Some.ensures.value in
    rw e (looked_next R c.chain.invariant c.look-best.ensures E h)
