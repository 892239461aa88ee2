-- `write_fitting` meets its contract. The loop's invariant: the lower members are written, and no more places are taken than there are positions
-- above p and below the next. Assumes nothing.
use Rattle.std.proofs.Common.{arith, refl}
use Rattle.graph.proofs.Writes.{writing_start, writing_more, writing_end}
use Rattle.graph.proofs.write_fitting.Goals as goal

pub loop-member-init : goal.loop-member-init
loop-member-init c =
    let h = c.requires in
    (writing_start (omega arith) refl, omega (arith, c.args.set.now.rises.rise c.args.p.0 (omega arith)))

pub loop-member-preserved : goal.loop-member-preserved
loop-member-preserved c =
    let l = c.loop-member in
    let up = c.args.set.now.rises.rise l.member (omega arith) in
    (writing_more l.invariant.0 c.loop-member-test.true (omega (arith, l.invariant.0.same_long)) _ refl, omega arith)

pub returns : goal.returns
returns c = λ S h. writing_end c.loop-member.invariant.0 c.loop-member-test.false S h
