-- The road costs what the last arc listed does. Assumes nothing.
use mathlib.Core.Path.{sym, ◌∙◌}
use Rattle.roads.proofs.LastListed.{no_road, costs_so}
use Rattle.roads.proofs.OfNet.{roads_by}
use Rattle.roads.proofs.Roads.road_cost.Goals as goal

pub returns-in-Some : goal.returns-in-Some
returns-in-Some c tails B =
    let (P, h, g, n) = c.requires in
    sym (costs_so (roads_by P B) h g n c.junction_at-u.ensures c.junction_at-v.ensures _ (sym c.in-Some.is ∙ c.last_arc.ensures.last _ B))

pub returns-in-None : goal.returns-in-None
returns-in-None c tails B =
    let (P, h, g, n) = c.requires in
    sym (no_road (roads_by P B) h g n c.junction_at-u.ensures c.junction_at-v.ensures (sym c.in-None.is ∙ c.last_arc.ensures.last _ B))
