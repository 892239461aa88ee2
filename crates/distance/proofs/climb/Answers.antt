-- `climb` meets its contract: each turn hands the label of q on and goes to q's parent. Assumes nothing.
use Rattle.std.proofs.Common.{arith}
use Rattle.rules.specs.Lent.{lent_graph}
use Rattle.theory.proofs.Held.{step_small}
use Rattle.distance.proofs.Climbed.{rung_start, rung_row, rung_next, rung_end}
use Rattle.distance.proofs.Parent.{RowEnds, in_lists, parent, parent_below}
use Rattle.distance.proofs.RowPart.{first_of, first_none}
use Rattle.distance.proofs.climb.Goals as goal
use Rattle.distance.proofs.climb.Goals.{After-places-places}

-- the ends of the row of q
ends : (c : After-places-places) → RowEnds (lent_graph c.args.graph.now) c.chain.q.0 c.places-places.result.start c.places-places.result.end
ends c = record { below = c.chain.invariant.below; from_is = c.places-places.ensures.start; to_is = c.places-places.ensures.end }

pub chain-init : goal.chain-init
chain-init c =
    rung_start c.requires.0 c.args.d c.args.s.0 c.args.labels.now c.args.came.now c.requires.1 c.requires.2 (omega arith)

pub offset_bounds-graph-places : goal.offset_bounds-graph-places
offset_bounds-graph-places c = omega (arith, in_lists c.requires.0.rows (ends (goal.at.offset_bounds-graph-places c).After-places-places))

pub slice_bounds-row-end : goal.slice_bounds-row-end
slice_bounds-row-end c = omega (arith, in_lists c.requires.0.rows (ends (goal.at.slice_bounds-row-end c).After-places-places))

pub row_costs-listed-requires : goal.row_costs-listed-requires
row_costs-listed-requires c =
    let L = c.requires.0 in
    omega (arith, in_lists L.rows (ends (goal.at.row_costs-listed-requires c).After-places-places), L.up_long, L.down_long)

pub returns-in_default : goal.returns-in_default
returns-in_default c =
    let L = c.requires.0 in
    let E = ends (goal.at.returns-in_default c).After-places-places in
    let listed = c.row_costs-listed.ensures in
    rung_end L c.chain.invariant E (step_small _ _ listed.small_up listed.small_down c.args.d)
    (first_none _ _ _ (in_lists L.rows E).1 c.in_default.ensures.value)

pub hand_on-requires : goal.hand_on-requires
hand_on-requires c =
    let E = ends (goal.at.hand_on-requires c).After-places-places in
    let listed = c.row_costs-listed.ensures in
    rw listed.part (rung_row c.requires.0 c.chain.invariant E (step_small _ _ listed.small_up listed.small_down c.args.d))

pub chain-smaller : goal.chain-smaller
chain-smaller c =
    let L = c.requires.0 in
    let E = ends (goal.at.chain-smaller c).After-places-places in
    let (h, e) = first_of _ _ _ (in_lists L.rows E).1 _ c.in-Some.ensures.value in
    omega (arith, e, (parent L.rows E h).above, parent_below L.rows E h)

pub chain-preserved : goal.chain-preserved
chain-preserved c =
    let L = c.requires.0 in
    let E = ends (goal.at.chain-preserved c).After-places-places in
    let (h, e) = first_of _ _ _ (in_lists L.rows E).1 _ c.in-Some.ensures.value in
    rw e (rung_next L c.chain.invariant E h (rw c.row_costs-listed.ensures.part at c.hand_on.ensures))
