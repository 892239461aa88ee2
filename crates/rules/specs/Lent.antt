-- The lists that come in together, as the net, the graph and the costs that they hold. Assumes nothing.
use Rattle.std.specs.Prelude.{List, ℕ}
use Rattle.rules.specs.declared.Net as lent
use Rattle.rules.specs.declared.Graph as lent_rows
use Rattle.rules.specs.declared.EdgeCosts as lent_lists
use Rattle.rules.specs.declared.Direction.{Direction}
use Rattle.rules.specs.declared.Direction.TheVariants.{Up, Down}
use Rattle.rules.specs.Net.{Net, net}
use Rattle.rules.specs.Graph.{Graph, graph}
use Rattle.rules.specs.Hierarchy.{EdgeCosts, edge_costs}

-- the net in four lent lists
abbrev pub lent_net : lent.Net → Net
lent_net l = net l.tails.now l.heads.now l.costs.now l.order.now

-- the rows in two lent lists
abbrev pub lent_graph : lent_rows.Graph → Graph
lent_graph l = graph l.first.now l.heads.now

-- the shortcut costs in two lent lists
abbrev pub lent_costs : lent_lists.EdgeCosts → EdgeCosts
lent_costs l = edge_costs l.up.now l.down.now

-- "chosen by direction"
abbrev pub chosen : (d : Direction) (C : EdgeCosts) → List ℕ
chosen Up C = C.up
chosen Down C = C.down
