-- What passed is what 8 leans on. Assumes nothing.
use borrow.Author.Rules.{rules}
use lib.ListN.{length}
use Rattle.rules.specs.Lent.{lent_net, lent_graph}
use Rattle.checks.proofs.Arcs.{arcs_known}
use Rattle.checks.proofs.check_customise.Goals as goal

pub check_edges-requires : goal.check_edges-requires
check_edges-requires c =
    let a = c.args in
    arcs_known (lent_net a.net.now) a.rank.now (lent_graph a.graph.now) (length a.net.now.costs.now) (search rules) (search rules)
