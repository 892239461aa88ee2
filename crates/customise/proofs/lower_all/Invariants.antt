-- `lower_all` meets its contract: the positions below x have had their turn, and their rows wait. Assumes nothing.
use Rattle.rules.specs.Hierarchy.{edge_costs}
use Rattle.rules.specs.Lent.{lent_graph}
use Rattle.customise.proofs.Turned.{Turning}
use Rattle.customise.proofs.lower_all.Given as goal

abbrev pub invariant-loop-x : goal.invariant-loop-x
invariant-loop-x l =
    Turning (lent_graph l.graph) (edge_costs l.initial.up l.initial.down) l.x (edge_costs l.up l.down) l.waits.links l.waits.places
