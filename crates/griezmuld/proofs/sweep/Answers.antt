-- `sweep` meets its promise, which is that of either call by its direction. Assumes nothing.
use mathlib.Core.Path.{sym}
use Rattle.std.proofs.lemmas.Result.{err_from_is_err_and}
use Rattle.rules.specs.Graph.{graph}
use Rattle.rules.specs.Hierarchy.{edge_costs}
use Rattle.griezmuld.proofs.Calls.{sweep_asked, sweep_refused, sweep_told}
use Rattle.griezmuld.proofs.sweep.Goals as goal

pub returns-in_err-check_sweep : goal.returns-in_err-check_sweep
returns-in_err-check_sweep c =
    let a = c.args in
    let (why, e, f) = err_from_is_err_and c.from_residual.result c.from_residual.ensures.1 in
    rw (e, f)
    (sweep_refused a.order.now a.rank.now (graph a.first.now a.row_heads.now) (edge_costs a.up.now a.down.now) a.j.0 a.distances.now a.d _ _
    (sym c.in_err-check_sweep.ensures))

pub sweep_by-requires : goal.sweep_by-requires
sweep_by-requires c = let a = c.args in sweep_asked a.order.now a.rank.now (graph a.first.now a.row_heads.now) (edge_costs a.up.now a.down.now) a.j.0 a.distances.now (sym c.in_ok-check_sweep.ensures)

pub returns : goal.returns
returns c = let a = c.args in sweep_told a.order.now a.rank.now (graph a.first.now a.row_heads.now) (edge_costs a.up.now a.down.now) a.j.0 a.distances.now a.d _ (sym c.in_ok-check_sweep.ensures) c.sweep_by.ensures
