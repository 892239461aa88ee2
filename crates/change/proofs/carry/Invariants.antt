-- `carry` meets its contract: the positions below x have had their turn, up to the highest that the change can reach. Assumes nothing.
use Rattle.std.proofs.Common.{◌-◌, length}
use Rattle.rules.specs.Lent.{lent_net, lent_graph}
use Rattle.rules.specs.Hierarchy.{edge_costs}
use Rattle.theory.specs.Rows.{count}
use Rattle.look.specs.Looking.{gathered}
use Rattle.change.proofs.Carried.{Carrying}
use Rattle.change.proofs.carry.Given as goal

abbrev pub invariant-loop-x : goal.invariant-loop-x
invariant-loop-x l =
    Carrying (lent_net l.shift.net) (lent_graph l.shift.graph) l.shift.lo l.shift.hi l.on (edge_costs l.initial.up l.initial.down) (length l.initial.flags) l.x l.reach l.seen
    (edge_costs l.up l.down) l.flags l.scratch.dirty l.scratch.marks (gathered l.scratch.row) l.scratch.todo.places l.waits.links l.waits.places

abbrev pub decreases-loop-x : goal.decreases-loop-x
decreases-loop-x l = count l.shift.graph.first.now - l.x
