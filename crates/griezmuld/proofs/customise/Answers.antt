-- `customise` meets its promise. Assumes nothing.
use Rattle.std.proofs.Common.{sym}
use Rattle.std.proofs.lemmas.Result.{err_from_is_err_and}
use Rattle.theory.proofs.Accepted.{accepted}
use Rattle.rules.specs.Net.{net}
use Rattle.rules.specs.Graph.{graph}
use Rattle.rules.specs.Hierarchy.{edge_costs}
use Rattle.griezmuld.proofs.Calls.{customise_refused, customise_done}
use Rattle.griezmuld.proofs.customise.Goals as goal

pub returns-in_err-check_customise : goal.returns-in_err-check_customise
returns-in_err-check_customise c =
    let a = c.args in
    let (why, e, f) = err_from_is_err_and c.from_residual.result c.from_residual.ensures.1 in
    rw (e, f)
    (customise_refused (net a.tails.now a.heads.now a.costs.now a.order.now) a.rank.now (graph a.first.now a.row_heads.now) (edge_costs a.up.now a.down.now) _ _
    (sym c.in_err-check_customise.ensures))

pub customise_costs-requires : goal.customise_costs-requires
customise_costs-requires c =
    let a = c.args in
    accepted (net a.tails.now a.heads.now a.costs.now a.order.now) a.rank.now (graph a.first.now a.row_heads.now) (edge_costs a.up.now a.down.now)
    (sym c.in_ok-check_customise.ensures)

pub returns : goal.returns
returns c =
    let a = c.args in
    customise_done (net a.tails.now a.heads.now a.costs.now a.order.now) a.rank.now (graph a.first.now a.row_heads.now) (edge_costs a.up.now a.down.now) _
    (sym c.in_ok-check_customise.ensures) c.customise_costs.ensures
