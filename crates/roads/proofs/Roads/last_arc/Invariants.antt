-- The last arc from u to v is at the thread's place or before it. Assumes nothing.
use Rattle.roads.proofs.ByTail.{Seeking}
use Rattle.roads.proofs.Roads.last_arc.Given as goal

abbrev pub invariant-loop-k : goal.invariant-loop-k
invariant-loop-k l = Seeking l.heads l.self l.fn.u.0 l.v.0 l.k

abbrev pub decreases-loop-k : goal.decreases-loop-k
decreases-loop-k l = l.k
