-- `begin_row` meets its contract: it stops at the last entry that cannot be reached, before which none can, or at the row's start. Assumes nothing.
use Rattle.std.proofs.Common.{arith}
use Rattle.reconsider.proofs.Reaches.{begin_place, begins_behind, begins_first}
use Rattle.reconsider.proofs.begin_row.Goals as goal

pub bounds-graph-i : goal.bounds-graph-i
bounds-graph-i c = (begin_place c.requires.0 (omega arith) (omega arith)).0

pub returns-then-not-on-graph : goal.returns-then-not-on-graph
returns-then-not-on-graph c = begins_behind c.requires.0 (omega arith) (omega arith) c.requires.1 c.if-not-on-graph.true

pub returns : goal.returns
returns c = begins_first c.requires.0 c.args.on.now
