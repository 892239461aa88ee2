-- `sweep_down` meets its contract: positions from p on are done, those below still have their labels. Assumes nothing.
use Rattle.std.proofs.Common.{arith, ◌-◌, ◌≡◌}
use Rattle.rules.specs.Lent.{lent_graph}
use Rattle.theory.specs.Rows.{count}
use Rattle.distance.proofs.Parent.{RowEnds, in_lists}
use Rattle.sweep.proofs.Swept.{swept_row, swept_more}
use Rattle.sweep.proofs.sweep_down.Goals as goal
use Rattle.sweep.proofs.sweep_down.Goals.{After-places-places}

-- the row of the position whose turn it is
row : (c : After-places-places) → RowEnds (lent_graph c.args.graph.now) (c.loop-p.p - 1) c.places-places.result.start c.places-places.result.end
unfolding count
row c =
    record { below = omega (arith, c.loop-p.auto.p, c.loop-p-test.true); from_is = c.places-places.ensures.start; to_is = c.places-places.ensures.end }

pub loop-p-init : goal.loop-p-init
unfolding count
loop-p-init c = λ s R. R

pub offset_bounds-graph-places : goal.offset_bounds-graph-places
offset_bounds-graph-places c = omega (arith, in_lists c.requires.0.rows (row (goal.at.offset_bounds-graph-places c).After-places-places))

pub slice_bounds-row-end : goal.slice_bounds-row-end
slice_bounds-row-end c = omega (arith, in_lists c.requires.0.rows (row (goal.at.slice_bounds-row-end c).After-places-places))

pub row_costs-listed-requires : goal.row_costs-listed-requires
row_costs-listed-requires c =
    let L = c.requires.0 in
    omega (arith, in_lists L.rows (row (goal.at.row_costs-listed-requires c).After-places-places), L.up_long, L.down_long)

pub least_over-requires : goal.least_over-requires
least_over-requires c =
    rw (c.row_costs-listed.ensures.part, c.opposite.ensures)
    (swept_row c.requires.0 c.loop-p.invariant c.loop-p-test.true (row (goal.at.least_over-requires c).After-places-places) c.requires.1)

pub loop-p-preserved : goal.loop-p-preserved
loop-p-preserved c =
    swept_more c.requires.0 c.loop-p.invariant c.loop-p-test.true (row (goal.at.loop-p-preserved c).After-places-places) _
    (rw (c.row_costs-listed.ensures.part, c.opposite.ensures) at c.least_over.ensures)

pub returns : goal.returns
returns c = let e : c.loop-p.p ≡ 0 = omega (arith, c.loop-p-test.false) in rw e at c.loop-p.invariant
