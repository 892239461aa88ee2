-- `route` meets its promise. Assumes nothing.
use Rattle.std.proofs.Common.{sym}
use Rattle.std.proofs.lemmas.Result.{err_from_is_err_and}
use Rattle.rules.specs.Net.{net}
use Rattle.rules.specs.Graph.{graph}
use Rattle.rules.specs.Hierarchy.{edge_costs}
use Rattle.griezmuld.proofs.Calls.{route_refused}
use Rattle.griezmuld.proofs.route.Goals as goal

pub returns-in_err-check_route : goal.returns-in_err-check_route
returns-in_err-check_route c =
    let a = c.args in
    let (why, e, f) = err_from_is_err_and c.from_residual.result c.from_residual.ensures.1 in
    rw (e, f)
    (route_refused (net a.tails.now a.heads.now a.costs.now a.order.now) a.rank.now (graph a.first.now a.row_heads.now) (edge_costs a.up.now a.down.now) a.from.0 a.to.0
    a.list.now _ _ (sym c.in_err-check_route.ensures))

pub route_between-requires : goal.route_between-requires
route_between-requires c = sym c.in_ok-check_route.ensures
