-- `settle_row` meets its contract: the first t listed edges are settled. Assumes nothing.
use Rattle.rules.specs.Lent.{lent_graph}
use Rattle.rules.specs.Hierarchy.{edge_costs}
use Rattle.look.specs.Looking.{gathered}
use Rattle.change.proofs.Settled.{Settling}
use Rattle.change.proofs.settle_row.Given as goal

abbrev pub invariant-loop-t : goal.invariant-loop-t
invariant-loop-t l =
    Settling (lent_graph l.graph) l.initial.marks (gathered l.row) l.x l.todo.places l.todo.count (edge_costs l.initial.up l.initial.down) l.initial.flags l.initial.dirty l.t
    (edge_costs l.up l.down) l.flags l.dirty l.marks
