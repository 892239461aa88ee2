-- `mark_chain` meets its contract: from parent to parent nothing that a row has is left out. Assumes nothing.
use Rattle.std.proofs.Common.{arith}
use Rattle.reconsider.proofs.Reaches.{climbing_start, climbing_parent, climbing_more, climbing_end}
use Rattle.reconsider.proofs.mark_chain.Goals as goal

pub loop-p-init : goal.loop-p-init
loop-p-init c = climbing_start c.requires.0 c.requires.1

pub bounds-graph-graph : goal.bounds-graph-graph
bounds-graph-graph c = (climbing_parent c.requires.0 c.loop-p.invariant c.loop-p-test.true).0

pub loop-p-preserved : goal.loop-p-preserved
loop-p-preserved c = climbing_more c.requires.0 c.loop-p.invariant c.loop-p-test.true

pub returns : goal.returns
returns c = climbing_end c.requires.0 c.loop-p.invariant (omega (arith, c.loop-p-test.false))
