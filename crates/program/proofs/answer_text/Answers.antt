-- Refused, or the answer over the graph that build left. Assumes nothing.
use Rattle.std.proofs.Common.{◌∙◌}
use Rattle.rules.specs.Lent.{lent_net}
use Rattle.program.proofs.AnswerLeaves.{err_passed, refusal_told, build_refused, build_told}
use Rattle.program.proofs.answer_text.Goals as goal

pub returns-in_err-e-clause-told : goal.returns-in_err-e-clause-told
returns-in_err-e-clause-told c =
    let a = c.args in
    let q = c.in_err-e.field-0.0 in
    refusal_told c.from_residual.result q a.page.now _ (err_passed c.from_residual.result q c.from_residual.ensures.1) c.requires.1
    (build_refused (lent_net a.net.now) a.froms.now a.tos.now _ c.build.result q _ _ c.build.ensures c.in_err-e.was)

pub returns-clause-told : goal.returns-clause-told
returns-clause-told c =
    let a = c.args in
    c.answer_built.ensures.told ∙ build_told (lent_net a.net.now) a.froms.now a.tos.now _ c.build.result c.in_ok-e.e _ _ c.build.ensures c.in_ok-e.was
