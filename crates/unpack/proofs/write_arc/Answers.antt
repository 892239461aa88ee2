-- `write_arc` meets its contract. Assumes nothing.
use Rattle.unpack.proofs.Put.{arc_full, arc_written}
use Rattle.unpack.proofs.write_arc.Goals as goal

pub returns-then-route-at : goal.returns-then-route-at
returns-then-route-at c = arc_full c.args.arc c.args.at c.args.route.now c.if-route-at.true

pub returns : goal.returns
returns c = arc_written c.args.arc c.args.at c.args.route.now c.if-route-at.false
