-- `same_entries` meets its contract: the entries before `at` are a run, and a part that is none settles it. Assumes nothing.
use Prim.Native.Nat.{◌+◌, ◌-◌}
use mathlib.Core.Path.{◌≡◌, sym, ◌∙◌}
use native.Mathlib.Omega.{arith}
use Rattle.hierarchy.proofs.InOrder.{run_none, run_on, run_e, part_fails, last_part}
use Rattle.hierarchy.proofs.same_entries.Goals as goal

pub loop-at-init : goal.loop-at-init
loop-at-init c = let a = c.args in (omega arith, omega (arith, c.requires.0), run_none a.row_heads.now a.k a.gap)

pub returns-then-not-eight_same : goal.returns-then-not-eight_same
returns-then-not-eight_same c =
    let a = c.args in
    let l = c.loop-at in
    let r = c.eight_same in
    part_fails a.row_heads.now a.k a.end a.gap l.at (l.at + 8) l.invariant.0 (omega arith) (omega (arith, c.loop-at-test.true)) c.requires.1
    (sym c.if-not-eight_same.true ∙ r.ensures)

pub loop-at-preserved : goal.loop-at-preserved
loop-at-preserved c =
    let a = c.args in
    let l = c.loop-at in
    let r = c.eight_same in (
      omega (arith, l.invariant.0),
      omega (arith, c.loop-at-test.true),
      run_on l.invariant.2
          (run_e a.row_heads.now l.at (l.at + 8) a.gap (omega arith) (omega (arith, c.loop-at-test.true, c.requires.1)) (sym c.if-not-eight_same.false ∙ r.ensures))
          (omega arith),
    )

pub returns : goal.returns
returns c =
    let a = c.args in
    let l = c.loop-at in
    let e : a.end - 8 + 8 ≡ a.end = omega (arith, c.requires.0) in
    last_part a.row_heads.now a.k a.end a.gap l.at (a.end - 8) c.eight_same-2.result (omega (arith, c.requires.0)) (omega (arith, c.loop-at-test.false))
    (omega arith) c.requires.1 l.invariant.2 (rw e at c.eight_same-2.ensures)
