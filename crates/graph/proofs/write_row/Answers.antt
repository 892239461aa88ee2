-- `write_row` meets its contract: where there is room for any row no end is watched for. The loop's invariant: the lower members are written; it ends
-- since every place points upward. Assumes nothing.
use Rattle.std.proofs.Common.{refl}
use Rattle.graph.proofs.Writes.{writing_start, writing_more, writing_full, writing_end}
use Rattle.graph.proofs.write_row.Goals as goal

pub loop-next-init : goal.loop-next-init
loop-next-init c = writing_start c.requires.2 refl

pub returns-then-row_heads-k : goal.returns-then-row_heads-k
returns-then-row_heads-k c = λ S h. writing_full c.loop-next.invariant c.loop-next-test.true c.if-row_heads-k.true S h

pub loop-next-preserved : goal.loop-next-preserved
loop-next-preserved c = writing_more c.loop-next.invariant c.loop-next-test.true c.if-row_heads-k.false _ refl

pub returns : goal.returns
returns c = λ S h. writing_end c.loop-next.invariant c.loop-next-test.false S h
