-- `lay` meets its contract. The loop's invariant: the arcs below i are threaded and their higher ends kept. Assumes nothing.
use Rattle.gather.specs.Arcs.{arcs_of}
use Rattle.gather.proofs.Arcs.{Threading}
use Rattle.gather.proofs.ArcThreads.lay.Given as goal

abbrev pub invariant-loop-i : goal.invariant-loop-i
invariant-loop-i g l = Threading (arcs_of l.tails l.heads l.rank) g.row.N l.i l.self.at l.self.next l.self.high
