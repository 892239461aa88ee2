-- `change` meets its promise. Assumes nothing.
use Rattle.std.proofs.Common.{sym}
use Rattle.std.proofs.lemmas.Result.{err_from_is_err_and}
use Rattle.rules.specs.Net.{net}
use Rattle.rules.specs.Graph.{graph}
use Rattle.rules.specs.Hierarchy.{edge_costs}
use Rattle.theory.proofs.Accepted.{change_accepted}
use Rattle.griezmuld.proofs.Calls.{change_refused, change_told}
use Rattle.griezmuld.proofs.change.Goals as goal

pub returns-in_err-check_change : goal.returns-in_err-check_change
returns-in_err-check_change c =
    let a = c.args in
    let (why, e, f) = err_from_is_err_and c.from_residual.result c.from_residual.ensures.1 in
    rw (e, f)
    (change_refused (net a.tails.now a.heads.now a.costs.now a.order.now) a.rank.now (graph a.first.now a.row_heads.now) (edge_costs a.up.now a.down.now) a.arc
    a.cost.0 _ _ (sym c.in_err-check_change.ensures))

pub change_costs-requires : goal.change_costs-requires
change_costs-requires c =
    let a = c.args in
    change_accepted (net a.tails.now a.heads.now a.costs.now a.order.now) a.rank.now (graph a.first.now a.row_heads.now)
    (edge_costs a.up.now a.down.now) a.arc a.cost.0 (sym c.in_ok-check_change.ensures)

pub returns : goal.returns
returns c =
    let a = c.args in
    let e = c.change_costs.ensures in
    change_told (net a.tails.now a.heads.now a.costs.now a.order.now) a.rank.now (graph a.first.now a.row_heads.now)
    (edge_costs a.up.now a.down.now) a.arc a.cost.0 _ _ _
    (sym c.in_ok-check_change.ensures) e.listed e.changed e.counted
