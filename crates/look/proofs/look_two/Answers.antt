-- `look_two` meets its contract: one place and then the next. Assumes nothing.
use Prim.Native.Nat.{◌+◌}
use mathlib.Core.Path.{◌≡◌}
use native.Mathlib.Omega.{arith}
use Rattle.turns.proofs.Stretches.{stretch_part}
use Rattle.look.proofs.Looked.{costed_part, looked_fewer, looked_join}
use Rattle.look.proofs.look_two.Goals as goal

pub look_if-more-requires : goal.look_if-more-requires
look_if-more-requires c =
    let p = c.requires in
    (stretch_part p.0 (omega arith) (omega arith), costed_part p.1 (omega arith), p.2, omega arith)

pub look_if-requires : goal.look_if-requires
look_if-requires c =
    let p = c.requires in (
      stretch_part p.0 (omega arith) (omega arith),
      costed_part p.1 (omega arith),
      c.look_if-more.ensures.seats,
      omega (arith, looked_fewer p.0 (omega arith) (omega arith) c.look_if-more.ensures),
    )

pub returns : goal.returns
returns c =
    let e : c.args.j + 2 ≡ c.args.j + 1 + 1 = omega arith in
    rw e (looked_join (stretch_part c.requires.0 (omega arith) (omega arith)) (omega arith) (omega arith) c.look_if-more.ensures c.look_if.ensures)
