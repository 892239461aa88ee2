-- `number` meets its contract: one digit more. Assumes nothing.
use Rattle.std.proofs.Common.{rules}
use Rattle.text.proofs.Cuts.{counted_more}
use Rattle.text.proofs.number.Goals as goal

pub loop-byte-preserved : goal.loop-byte-preserved
loop-byte-preserved c = rw c.from.ensures (counted_more _ _ _ c.loop-byte.invariant c.loop-byte-test.true (search rules) (search rules))
