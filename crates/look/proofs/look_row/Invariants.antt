-- `look_row` meets its contract: the rows met are looked over one after the other. Assumes nothing.
use Rattle.rules.specs.Lent.{lent_graph, lent_costs}
use Rattle.look.specs.Looking.{gathered}
use Rattle.look.proofs.Walk.{Walk}
use Rattle.look.proofs.look_row.Given as goal

abbrev pub invariant-loop-t : goal.invariant-loop-t
invariant-loop-t l =
    Walk (lent_graph l.graph) (lent_costs l.costs) l.marks l.x l.met.count l.met.rows (gathered l.initial.row) l.so_far l.t (gathered l.row) l.seen
