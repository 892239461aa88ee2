-- `put_all` meets its contract. The loop's invariant: the entries before place k have been put in, the rest ascends above the last of them, and what
-- stands behind that is told. Assumes nothing.
use Rattle.std.proofs.Common.{arith}
use Rattle.gather.proofs.AllPutIn.{merging_next, merging_more, merging_end}
use Rattle.gather.proofs.NextMembers.put_all.Goals as goal

pub put-next-requires : goal.put-next-requires
put-next-requires c =
    let l = c.loop-k in
    let (above, below) = merging_next l.invariant.0 c.loop-k-test.true in
    (above, omega (arith, below, c.requires.few), l.invariant.1)

pub loop-k-preserved : goal.loop-k-preserved
loop-k-preserved c =
    let (put, behind) = c.put-next.ensures in
    (merging_more c.loop-k.invariant.0 c.loop-k-test.true _ c.requires.few put, behind)

pub returns : goal.returns
returns c = merging_end c.loop-k.invariant.0 c.loop-k-test.false
