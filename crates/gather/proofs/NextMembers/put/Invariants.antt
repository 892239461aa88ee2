-- `put` meets its contract. The loop's invariant: the walk has reached a place below y; it ends since every place points upward. Assumes nothing.
use Prim.Native.Nat.{◌-◌}
use Rattle.gather.proofs.PutIn.{Reached}
use Rattle.gather.proofs.NextMembers.put.Given as goal

abbrev pub invariant-loop-z : goal.invariant-loop-z
invariant-loop-z l = Reached l.initial.x l.y.0 l.self.after l.x l.z

abbrev pub decreases-loop-z : goal.decreases-loop-z
decreases-loop-z l = l.y.0 - l.x
