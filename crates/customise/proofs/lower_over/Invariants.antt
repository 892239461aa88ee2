-- `lower_over` meets its contract: the places of z's row between i and j have made their offers. Assumes nothing.
use Rattle.rules.specs.Hierarchy.{edge_costs}
use Rattle.rules.specs.Lent.{lent_graph}
use Rattle.customise.proofs.Crossed.{Crossing}
use Rattle.customise.proofs.lower_over.Given as goal

abbrev pub invariant-loop-j : goal.invariant-loop-j
invariant-loop-j l = Crossing (lent_graph l.graph) l.z l.i l.end (edge_costs l.initial.up l.initial.down) l.j (edge_costs l.up l.down)
