-- The rows from p on hold, or one does not. Assumes nothing.
use Prim.Native.Nat.{◌-◌}
use mathlib.Core.Path.{refl}
use mathlib.Core.Bool.{true, false}
use native.Mathlib.Omega.{arith}
use Rattle.rules.specs.Lent.{lent_graph}
use Rattle.hierarchy.proofs.RowsHold.{down_start, down_rows, down_fails, down_more, down_end, rows_length, rows_start, rows_room, rows_each}
use Rattle.hierarchy.proofs.rows_hold.Goals as goal
use Rattle.hierarchy.proofs.rows_hold.Goals.{then-first-n-via-then-first-n, then-first-n-via-else-first-n+then-first-ne0, then-first-n-via-else-first-n+else-first-ne0+then-graph-first}

pub returns-then-first-n : goal.returns-then-first-n
returns-then-first-n c =
    let n = c.args.n in let G = lent_graph c.args.graph.now in
    elim c.then-first-n.branch [
      | then-first-n-via-then-first-n w ↦ rows_length n G (λ e. w.if-first-n.true (omega (arith, e)))
      | then-first-n-via-else-first-n+then-first-ne0 w ↦ rows_start n G (omega (arith, w.if-first-n.false)) w.if-first-ne0.true
      | then-first-n-via-else-first-n+else-first-ne0+then-graph-first w ↦
          rows_room n G (omega (arith, w.if-first-n.false)) w.if-first-ne0.false w.if-graph-first.true
    ]

pub loop-p-init : goal.loop-p-init
loop-p-init c = down_start c.args.n (lent_graph c.args.graph.now) c.if-graph-first.false

pub row_holds-requires : goal.row_holds-requires
row_holds-requires c =
    let (b, r) = down_rows c.loop-p.invariant c.loop-p-test.true (c.loop-p.p - 1) refl in
    (b, omega (arith, c.if-first-n.false), r)

pub returns-then-not-row_holds : goal.returns-then-not-row_holds
returns-then-not-row_holds c =
    rows_each c.args.n (lent_graph c.args.graph.now) (omega (arith, c.if-first-n.false)) false c.if-first-ne0.false c.if-graph-first.false
    (down_fails c.loop-p.invariant c.loop-p-test.true (c.loop-p.p - 1) c.row_holds.result refl c.row_holds.ensures c.if-not-row_holds.true)

pub loop-p-preserved : goal.loop-p-preserved
loop-p-preserved c =
    down_more c.loop-p.invariant c.loop-p-test.true (c.loop-p.p - 1) c.row_holds.result refl c.row_holds.ensures c.if-not-row_holds.false

pub returns : goal.returns
returns c =
    rows_each c.args.n (lent_graph c.args.graph.now) (omega (arith, c.if-first-n.false)) true c.if-first-ne0.false c.if-graph-first.false
    (down_end c.loop-p.invariant (omega (arith, c.loop-p-test.false)))
