-- `ask_route` meets its contract: 11, and then the route. Assumes nothing.
use Rattle.std.proofs.Common.{sym, ap, ◌∙◌}
use Rattle.rules.specs.Replies.{refusal_number, refusal_place}
use Rattle.rules.specs.Lent.{lent_net, lent_graph, lent_costs}
use Rattle.lists.specs.Lent.{verdict}
use Rattle.program.proofs.AnswerLeaves.{err_passed}
use Rattle.program.proofs.ReplyLines.{question_refused, question_passes}
use Rattle.program.proofs.ask_route.Goals as goal

pub returns-in_err-check_question : goal.returns-in_err-check_question
returns-in_err-check_question c =
    let a = c.args in
    let q = c.in_err-check_question.field-0.0 in
    rw (err_passed c.from_residual.result q c.from_residual.ensures.1) (question_refused (lent_net a.net.now) a.rank.now (lent_graph a.graph.now) (lent_costs a.costs.now) a.from.0 a.to.0 c.requires a.list.now (refusal_number q) (refusal_place q)
    (sym c.check_question.ensures ∙ ap verdict c.in_err-check_question.was))

pub route_between-requires : goal.route_between-requires
route_between-requires c =
    let a = c.args in
    question_passes (lent_net a.net.now) a.rank.now (lent_graph a.graph.now) (lent_costs a.costs.now) a.from.0 a.to.0 c.requires
    (sym c.check_question.ensures ∙ ap verdict c.in_ok-check_question.was)
