-- `mark_row` meets its contract: the rows met mark what they have behind x, one after the other, and no row is missed. Assumes nothing.
use Rattle.std.proofs.Common.{arith}
use Rattle.reconsider.proofs.Marks.{rowing_none, met_turn, rowing_more, rowing_all}
use Rattle.reconsider.proofs.mark_row.Goals as goal

pub loop-t-init : goal.loop-t-init
loop-t-init c = rowing_none

pub mark_from-requires : goal.mark_from-requires
mark_from-requires c =
    let p = c.requires in (met_turn p.0 p.3 c.loop-t-test.true, p.3.row c.loop-t.t c.loop-t-test.true, p.1, p.2)

pub loop-t-preserved : goal.loop-t-preserved
loop-t-preserved c = let p = c.requires in rowing_more p.0 p.3 c.loop-t.invariant c.loop-t-test.true c.mark_from.ensures

pub returns : goal.returns
returns c =
    let p = c.requires in rowing_all p.0 p.3 c.loop-t.invariant p.4 (omega arith) c.loop-t-test.false
