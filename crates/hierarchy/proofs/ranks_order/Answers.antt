-- The rank list gives back the positions below p, or one at which the test fails. Assumes nothing.
use native.Mathlib.Omega.{arith}
use mathlib.Core.Path.{refl}
use Rattle.hierarchy.proofs.SeatsAgree.{seats_all, seats_length, seats_fail}
use Rattle.hierarchy.proofs.ranks_order.Goals as goal
use Rattle.hierarchy.proofs.ranks_order.Goals.{then-order-j-via-then-order-j, then-order-j-via-else-order-j+then-rank-j}

pub returns-then-rank-order : goal.returns-then-rank-order
returns-then-rank-order c = seats_length c.args.order.now c.args.rank.now c.if-rank-order.true

pub returns-then-order-j : goal.returns-then-order-j
returns-then-order-j c =
    seats_fail c.args.order.now c.args.rank.now c.loop-p.p _ c.loop-p-test.true refl
    (λ h e. elim c.then-order-j.branch [
      | then-order-j-via-then-order-j w ↦ omega (arith, h)
      | then-order-j-via-else-order-j+then-rank-j w ↦ w.if-rank-j.true e
    ])

pub returns : goal.returns
returns c = seats_all c.loop-p.invariant c.loop-p-test.false
