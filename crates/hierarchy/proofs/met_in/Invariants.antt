-- `met_in` meets its contract: what is left to meet is sought from `next` on, by a law for each entry that is looked at. Assumes nothing.
use Prim.Native.Nat.{◌-◌}
use Rattle.hierarchy.proofs.InOrder.{Sought}
use Rattle.hierarchy.proofs.met_in.Given as goal

abbrev pub invariant-loop-next : goal.invariant-loop-next
invariant-loop-next l = Sought l.row_heads l.k l.end l.j l.stop l.at l.want l.next

abbrev pub decreases-loop-next : goal.decreases-loop-next
decreases-loop-next l = l.stop - l.next
