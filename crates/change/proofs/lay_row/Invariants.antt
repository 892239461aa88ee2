-- `lay_row` meets its contract: the marked edges before place k are listed and have their roads. Assumes nothing.
use Rattle.rules.specs.Lent.{lent_net, lent_graph}
use Rattle.look.specs.Looking.{gathered}
use Rattle.change.proofs.Laid.{Laying}
use Rattle.change.proofs.lay_row.Given as goal

abbrev pub invariant-loop-k : goal.invariant-loop-k
invariant-loop-k l =
    Laying (lent_net l.shift.net) (lent_graph l.shift.graph) l.marks l.x l.k (gathered l.row) l.todo.places l.todo.count
