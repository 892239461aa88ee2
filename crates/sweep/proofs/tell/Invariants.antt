-- `tell` meets its contract: the junctions before j are told. Assumes nothing.
use Rattle.std.proofs.Common.{length, get_or}
use Rattle.sweep.specs.Swept.{uncap}
use Rattle.sweep.proofs.Told.{Telling}
use Rattle.sweep.proofs.tell.Given as goal

abbrev pub invariant-loop-j : goal.invariant-loop-j
invariant-loop-j l = Telling (λ x. uncap (get_or l.reach (get_or l.rank x 0) 0)) (length l.rank) l.j l.distances
