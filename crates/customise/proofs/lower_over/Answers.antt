-- `lower_over` meets its contract: the places of z's row between i and j have made their offers. Assumes nothing.
use Rattle.std.proofs.Common.{refl}
use Rattle.customise.proofs.Crossed.{crossing_start, crossing_j, crossing_corner, crossing_more, crossing_all}
use Rattle.customise.proofs.lower_over.Goals as goal

pub loop-j-init : goal.loop-j-init
loop-j-init c = crossing_start c.requires.0 refl

pub bounds-graph-j : goal.bounds-graph-j
bounds-graph-j c = (crossing_j c.requires.0 c.requires.1 c.loop-j.invariant c.loop-j-test.true).0

pub bounds-places-y : goal.bounds-places-y
bounds-places-y c = (crossing_j c.requires.0 c.requires.1 c.loop-j.invariant c.loop-j-test.true).1

pub lower_edge-requires : goal.lower_edge-requires
lower_edge-requires c = crossing_corner c.requires.0 c.requires.1 c.loop-j.invariant c.loop-j-test.true refl

pub loop-j-preserved : goal.loop-j-preserved
loop-j-preserved c = crossing_more c.requires.0 c.requires.1 c.loop-j.invariant c.loop-j-test.true refl c.lower_edge.ensures

pub returns : goal.returns
returns c = crossing_all c.requires.0 c.loop-j.invariant c.loop-j-test.false
