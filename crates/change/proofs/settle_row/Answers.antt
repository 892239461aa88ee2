-- `settle_row` meets its contract: the first t listed edges are settled. Assumes nothing.
use Rattle.std.proofs.Common.{arith}
use Rattle.change.proofs.Settled.{settling_reads, settling_spot, settling_more, settling_all}
use Rattle.change.proofs.settle_row.Goals as goal

pub bounds-graph-k : goal.bounds-graph-k
bounds-graph-k c = let p = c.requires in (settling_reads p.0 p.1 p.3 c.loop-t-test.true).0

pub settle_edge-requires : goal.settle_edge-requires
settle_edge-requires c =
    let p = c.requires in settling_spot p.0 p.1 p.3 c.loop-t-test.true c.loop-t.invariant p.2

pub loop-t-preserved : goal.loop-t-preserved
loop-t-preserved c =
    let p = c.requires in settling_more p.0 p.1 p.3 c.loop-t-test.true c.loop-t.invariant (omega arith) (omega arith) c.settle_edge.ensures

pub returns : goal.returns
returns c =
    let (s, (l, n)) = settling_all c.requires.3 c.loop-t.invariant c.loop-t-test.false in
    record { settled = s; cleared = l; noted = n }
