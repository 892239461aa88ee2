-- `look_rest` meets its contract: one place after the other. Assumes nothing.
use native.Mathlib.Omega.{arith}
use Rattle.turns.proofs.Stretches.{stretch_part}
use Rattle.look.proofs.Looked.{costed_part, looked_none, looked_fewer, looked_join}
use Rattle.look.proofs.look_rest.Goals as goal

pub loop-j-init : goal.loop-j-init
loop-j-init c = looked_none c.requires.3 (λ k h l t. omega arith)

pub look_if-seen-requires : goal.look_if-seen-requires
look_if-seen-requires c =
    let p = c.requires in
    let L = c.loop-j.invariant in
    let j<end = c.loop-j-test.true in (
      stretch_part p.1 (omega arith) (omega arith),
      costed_part p.2 (omega arith),
      L.seats,
      omega (arith, looked_fewer p.1 (omega arith) j<end L),
    )

pub loop-j-preserved : goal.loop-j-preserved
loop-j-preserved c =
    let p = c.requires in
    let L = c.loop-j.invariant in
    let j<end = c.loop-j-test.true in
    looked_join (stretch_part p.1 (omega arith) (omega arith)) (omega arith) (omega arith) L c.look_if-seen.ensures

pub returns : goal.returns
returns c =
    let p = c.requires in
    let L = c.loop-j.invariant in
    looked_join p.1 (omega arith) (omega arith) L (looked_none L.seats (λ k g m t. omega (arith, c.loop-j-test.false)))
