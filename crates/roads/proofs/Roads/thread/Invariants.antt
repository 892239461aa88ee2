-- The arcs before i are threaded. Assumes nothing.
use Rattle.roads.specs.Roads.{Laid}
use Rattle.roads.proofs.Roads.thread.Given as goal

abbrev pub invariant-loop-i : goal.invariant-loop-i
invariant-loop-i l = Laid l.tails l.i l.self
