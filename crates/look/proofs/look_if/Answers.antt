-- `look_if` meets its contract: the place is looked at, and counted, if what stands there is marked. Assumes nothing.
use Rattle.std.proofs.Common.{arith}
use Rattle.look.proofs.Looked.{looked_past, looked_one}
use Rattle.look.proofs.look_if.Goals as goal

pub returns-then-not-marks-y : goal.returns-then-not-marks-y
returns-then-not-marks-y c = looked_past c.requires.2 c.if-not-marks-y.true

pub look_at-requires : goal.look_at-requires
look_at-requires c =
    let p = c.requires in
    (omega (arith, p.1.up_in), omega (arith, p.1.down_in), p.0.seat c.args.j (omega arith) (omega arith))

pub returns : goal.returns
returns c =
    looked_one c.requires.2 (c.requires.0.seat c.args.j (omega arith) (omega arith)) c.if-not-marks-y.false c.look_at.ensures
