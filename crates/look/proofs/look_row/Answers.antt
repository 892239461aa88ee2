-- `look_row` meets its contract: the rows met are looked over one after the other. Assumes nothing.
use Rattle.std.proofs.Common.{arith}
use Rattle.look.proofs.Walk.{walk_start, walk_end, next_row_in, walk_more}
use Rattle.look.proofs.look_row.Goals as goal

pub loop-t-init : goal.loop-t-init
loop-t-init c = walk_start c.requires.4

pub look_over-seen-requires : goal.look_over-seen-requires
look_over-seen-requires c =
    let p = c.requires in
    let (l, r) = next_row_in p.0 p.1 p.2 c.loop-t.t c.loop-t-test.true in
    let K = c.loop-t.invariant in
    (p.0, l, r, K.seats, omega (arith, K.few, p.0.few, p.1, p.2.few))

pub loop-t-preserved : goal.loop-t-preserved
loop-t-preserved c =
    let p = c.requires in walk_more p.0 p.1 p.2 c.loop-t.t c.loop-t-test.true c.loop-t.invariant c.look_over-seen.ensures

pub returns : goal.returns
returns c = let p = c.requires in walk_end p.0 p.1 p.2 p.3 c.loop-t-test.false c.loop-t.invariant
