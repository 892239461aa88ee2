-- `least_over` meets its contract: the best so far is the least over the first i places. Assumes nothing.
use Rattle.std.proofs.Common.{arith, ◌+◌, ◌∙◌}
use Rattle.sweep.proofs.Row.{row_start, row_more, row_two, row_all, row_far}
use Rattle.sweep.proofs.least_over.Goals as goal

pub loop-i-init : goal.loop-i-init
loop-i-init c = (omega arith, c.min-best.ensures ∙ row_start _ _)

pub after_place-best-requires : goal.after_place-best-requires
after_place-best-requires c = (c.requires, omega (arith, c.loop-i-test.true), row_far _ _ c.loop-i.i c.loop-i.invariant.1)

pub loop-i-preserved : goal.loop-i-preserved
loop-i-preserved c =
    (omega (arith, c.loop-i-test.true), row_two _ _ c.loop-i.i c.loop-i.best _ _ c.loop-i.invariant.1 c.after_place-best.ensures c.after_place-best-in-loop-i.ensures)

pub after_place-requires : goal.after_place-requires
after_place-requires c = (c.requires, c.if-i-row.true, row_far _ _ c.loop-i.i c.loop-i.invariant.1)

pub returns-then-i-row : goal.returns-then-i-row
returns-then-i-row c =
    row_all _ _ (c.loop-i.i + 1) _ _ (row_more _ _ c.loop-i.i c.loop-i.best _ c.loop-i.invariant.1 c.after_place.ensures) (omega (arith, c.if-i-row.true)) (omega (arith, c.loop-i-test.false))
