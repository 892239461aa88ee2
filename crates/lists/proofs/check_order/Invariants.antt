-- `check_order` meets its contract: no fault before position p, and `seen` has the junctions that stand there. Assumes nothing.
use Rattle.std.proofs.Common.{length}
use Rattle.theory.proofs.Verdicts.{Faultless}
use Rattle.rules.specs.Refusals.{order_fault}
use Rattle.lists.proofs.Orders.{Seen}
use Rattle.lists.proofs.check_order.Given as goal

abbrev pub invariant-loop-p : goal.invariant-loop-p
invariant-loop-p l = Faultless (order_fault l.order) (length l.order) l.p × Seen l.order l.p l.seen
