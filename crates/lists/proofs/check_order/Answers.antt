-- `check_order` meets its contract: no fault before position p, and `seen` has the junctions that stand there. Assumes nothing.
use Rattle.std.proofs.Common.{arith, length, get_or, refl}
use Rattle.theory.proofs.Verdicts.{faultless_start, faultless_more, faultless_fails, faultless_passes}
use Rattle.rules.specs.Refusals.{check4, order_fault}
use Rattle.lists.proofs.Orders.{seen_none, seen_more, large_fault, twice_fault, entry_good}
use Rattle.lists.proofs.check_order.Goals as goal
use Rattle.lists.proofs.check_order.Goals.{then-order-j-via-then-order-j, then-order-j-via-else-order-j+then-seen-j}

pub loop-p-init : goal.loop-p-init
loop-p-init c = (faultless_start (order_fault c.args.order.now) (length c.args.order.now), seen_none c.args.order.now)

pub returns-then-order-j : goal.returns-then-order-j
unfolding check4
returns-then-order-j c =
    let l = c.loop-p in let order = c.args.order.now in let j = get_or order l.p 0 in faultless_fails 4 l.invariant.0 c.loop-p-test.true
    (elim c.then-order-j.branch [
      | then-order-j-via-then-order-j w ↦ large_fault order l.p j refl (omega arith)
      | then-order-j-via-else-order-j+then-seen-j w ↦ twice_fault j l.invariant.1 refl (omega arith) w.if-seen-j.true
    ])

pub loop-p-preserved : goal.loop-p-preserved
loop-p-preserved c =
    let l = c.loop-p in let j = get_or c.args.order.now l.p 0 in
    (faultless_more l.invariant.0 c.loop-p-test.true (entry_good j l.invariant.1 refl (omega arith) (omega arith) c.if-seen-j.false), seen_more j l.invariant.1 refl (omega arith))

pub returns : goal.returns
unfolding check4
returns c = faultless_passes 4 c.loop-p.invariant.0 c.loop-p-test.false
