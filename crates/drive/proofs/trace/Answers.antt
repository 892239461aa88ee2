-- `trace` meets its contract: i positions back from m comes p. Assumes nothing.
use Rattle.std.proofs.Common.{refl}
use Rattle.drive.proofs.Traced.{tracing_more}
use Rattle.drive.proofs.trace.Goals as goal

pub loop-p-preserved : goal.loop-p-preserved
loop-p-preserved c = tracing_more c.requires.0 c.loop-p.invariant _ _ refl c.way_place.ensures c.loop-p-test.true
