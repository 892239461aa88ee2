-- `lay_cost` meets its contract: the search finds the edge, and the store goes to its place. Assumes nothing.
use Rattle.std.proofs.Common.{arith, rules, sym, ◌∙◌}
use Rattle.rules.specs.Lent.{lent_graph}
use Rattle.customise.proofs.Laid.{laid_none, edge_low, edge_some, edge_laid}
use Rattle.customise.proofs.lay_cost.Goals as goal

pub returns-then-le : goal.returns-then-le
returns-then-le c =
    let a = c.args in
    laid_none (lent_graph a.graph.now) a.list.now a.x.0 a.y.0 a.cost.0 (search rules)

pub find_edge-requires : goal.find_edge-requires
find_edge-requires c = (c.requires.rows, edge_low c.requires (search rules))

pub returns-in_default : goal.returns-in_default
returns-in_default c = absurd (edge_some c.requires (search rules) (sym c.find_edge.ensures ∙ c.in_default.is))

pub bounds-list-k : goal.bounds-list-k
bounds-list-k c = (edge_laid c.requires (search rules) c.args.list.now c.in-Some.k c.args.cost.0 (sym c.find_edge.ensures ∙ c.in-Some.is)).0

pub returns : goal.returns
returns c = (edge_laid c.requires (search rules) c.args.list.now c.in-Some.k c.args.cost.0 (sym c.find_edge.ensures ∙ c.in-Some.is)).1

pub offset_bounds-list-k : goal.offset_bounds-list-k
offset_bounds-list-k c = omega (arith, (edge_laid c.requires (search rules) c.args.list.now c.in-Some.k c.args.cost.0 (sym c.find_edge.ensures ∙ c.in-Some.is)).0)
