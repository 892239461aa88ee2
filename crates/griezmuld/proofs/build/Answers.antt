-- `build` meets its promise. Assumes nothing.
use Rattle.std.proofs.Common.{sym}
use Rattle.std.proofs.lemmas.Result.{err_from_is_err_and}
use Rattle.theory.proofs.Buildable.{buildable}
use Rattle.rules.specs.Graph.{graph}
use Rattle.griezmuld.proofs.Calls.{ranked_room, build_refused, build_full, build_told}
use Rattle.griezmuld.proofs.build.Goals as goal

pub returns-in_err-check_build : goal.returns-in_err-check_build
returns-in_err-check_build c =
    let a = c.args in
    let (why, e, f) = err_from_is_err_and c.from_residual.result c.from_residual.ensures.1 in
    rw (e, f) (build_refused a.tails.now a.heads.now a.order.now a.rank.now (graph a.first.now a.row_heads.now) _ _ (sym c.in_err-check_build.ensures))

pub fill_rank-requires : goal.fill_rank-requires
fill_rank-requires c =
    let a = c.args in
    let B = buildable a.tails.now a.heads.now a.order.now a.rank.now a.first.now (sym c.in_ok-check_build.ensures) in (B.seats, B.few, B.rank_long)

pub contract-requires : goal.contract-requires
contract-requires c =
    let a = c.args in
    let B = buildable a.tails.now a.heads.now a.order.now a.rank.now a.first.now (sym c.in_ok-check_build.ensures) in (ranked_room _ B c.fill_rank.ensures, c.fill_rank.ensures)

pub returns-in_default : goal.returns-in_default
returns-in_default c =
    let a = c.args in
    build_full a.tails.now a.heads.now a.order.now a.rank.now (graph a.first.now a.row_heads.now) (sym c.in_ok-check_build.ensures)
    c.contract.result _ _ _ c.contract.ensures c.in_default.is c.fill_rank.ensures c.fill.ensures

pub returns : goal.returns
returns c =
    let a = c.args in
    build_told a.tails.now a.heads.now a.order.now a.rank.now (graph a.first.now a.row_heads.now) (sym c.in_ok-check_build.ensures)
    c.contract.result _ _ _ c.fill_rank.ensures c.contract.ensures c.in-Some.is
