-- `queue_row` meets its contract: the link of its entry is read before it is written. Assumes nothing.
use Rattle.std.proofs.Common.{arith, refl, get_or}
use Rattle.rules.specs.Lent.{lent_graph}
use Rattle.turns.proofs.Waiting.{queue_place, queued_waits, queued_ended}
use Rattle.turns.proofs.Waits.queue_row.Goals as goal

pub bounds-graph-i : goal.bounds-graph-i
bounds-graph-i c = (queue_place c.requires.0 c.requires.1 refl c.if-i-end.true).0

pub offset_bounds-self-y : goal.offset_bounds-self-y
offset_bounds-self-y c = omega (arith, (queue_place c.requires.0 c.requires.1 refl c.if-i-end.true).1)

pub bounds-self-y : goal.bounds-self-y
bounds-self-y c = (queue_place c.requires.0 c.requires.1 refl c.if-i-end.true).1

pub returns-then-i-end-clause-links : goal.returns-then-i-end-clause-links
returns-then-i-end-clause-links c =
    let a = c.args in let G = lent_graph a.graph.now in
    queued_waits G a.self.now.links a.z a.i (get_or G.heads a.i 0) c.if-i-end.true refl

pub returns-else-i-end-clause-links : goal.returns-else-i-end-clause-links
returns-else-i-end-clause-links c = let a = c.args in queued_ended (lent_graph a.graph.now) a.self.now.links a.z a.i c.if-i-end.false
