-- `judge_built` meets its contract: build refuses, or customise is asked. Assumes nothing.
use Rattle.std.proofs.Common.{◌≡◌, Err, rules}
use Rattle.fault.proofs.Judged.{build_told, build_refused}
use Rattle.fault.proofs.judge_built.Goals as goal

pub returns-in_err-build : goal.returns-in_err-build
returns-in_err-build c =
    let e : c.from_residual.result ≡ Err c.in_err-build.field-0.0 = search rules in
    rw e (build_refused _ _ _ _ _ c.in_err-build.ensures)

pub returns : goal.returns
returns c = build_told _ _ _ _ _ _ c.in_ok-build.ensures c.judge_costs.ensures
