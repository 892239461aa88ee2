-- `lay_arc` meets its contract: the two ends in one order for the up list, in the other for the down list. Assumes nothing.
use Rattle.customise.proofs.Laid.{arc_edges}
use Rattle.customise.proofs.lay_arc.Goals as goal

pub lay_cost-requires : goal.lay_cost-requires
lay_cost-requires c = (arc_edges c.position_of-x.ensures c.position_of-y.ensures c.requires.0 c.requires.1).0

pub lay_cost-requires-2 : goal.lay_cost-requires-2
lay_cost-requires-2 c = (arc_edges c.position_of-x.ensures c.position_of-y.ensures c.requires.0 c.requires.1).1
