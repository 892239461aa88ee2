-- `customise_costs` meets its contract: the arcs below m have been laid. Assumes nothing.
use Rattle.rules.specs.Hierarchy.{edge_costs}
use Rattle.rules.specs.Lent.{lent_net, lent_graph}
use Rattle.customise.proofs.Laying.{Laying}
use Rattle.customise.proofs.customise_costs.Given as goal

abbrev pub invariant-loop-m : goal.invariant-loop-m
invariant-loop-m l = Laying (lent_net l.net) (lent_graph l.graph) (edge_costs l.initial.up l.initial.down) l.m (edge_costs l.up l.down)
