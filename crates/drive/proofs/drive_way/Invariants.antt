-- `drive_way` meets its contract: the pieces before place i of the way have been driven. Assumes nothing.
use Rattle.rules.specs.Lent.{lent_net, lent_graph, lent_costs}
use Rattle.drive.proofs.WayOver.{Driving}
use Rattle.drive.proofs.drive_way.Given as goal

abbrev pub invariant-loop-i : goal.invariant-loop-i
invariant-loop-i l = Driving (lent_net l.net) (lent_graph l.graph) (lent_costs l.costs) l.way l.fn.from l.fn.to l.initial.route l.i l.at l.route
