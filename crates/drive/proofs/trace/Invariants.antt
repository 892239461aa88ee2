-- `trace` meets its contract: i positions back from m comes p. Assumes nothing.
use Rattle.drive.proofs.Traced.{Tracing}
use Rattle.drive.proofs.trace.Given as goal

abbrev pub invariant-loop-p : goal.invariant-loop-p
invariant-loop-p l = Tracing l.came l.d l.end.0 l.initial.p l.initial.way l.p l.i l.way

abbrev pub decreases-loop-p : goal.decreases-loop-p
decreases-loop-p l = l.p
