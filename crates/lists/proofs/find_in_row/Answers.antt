-- `find_in_row` meets its contract: not found before place k. Assumes nothing.
use Rattle.lists.proofs.Found.{found_at, found_none}
use Rattle.lists.proofs.find_in_row.Goals as goal

pub returns-then-row_heads-k : goal.returns-then-row_heads-k
returns-then-row_heads-k c = found_at c.loop-k.invariant c.loop-k-test.true c.if-row_heads-k.true

pub returns : goal.returns
returns c = found_none c.loop-k.invariant c.loop-k-test.false
