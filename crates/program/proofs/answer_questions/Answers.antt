-- Each line follows the lines before it. Assumes nothing.
use Rattle.std.proofs.Common.{rules, length, length-append}
use Rattle.std.proofs.lemmas.Slice.Zip.{zip_turn}
use Rattle.rules.specs.Lent.{lent_net, lent_graph, lent_costs}
use Rattle.program.proofs.ReplyLines.{answering_none, answering_more}
use Rattle.program.proofs.answer_questions.Goals as goal

pub loop-from-init : goal.loop-from-init
loop-from-init c =
    let a = c.args in
    ((tt, tt), tt, answering_none (lent_net a.net.now) a.rank.now (lent_graph a.graph.now) (lent_costs a.costs.now) a.froms.now a.tos.now a.page.now c.requires.room.1)

pub loop-from-preserved : goal.loop-from-preserved
loop-from-preserved c =
    let a = c.args in
    let i = length c.loop-from.yielded in
    let turn = zip_turn a.froms.now a.tos.now c.loop-from.yielded c.into_iter-from-iterator.result c.loop-from.from-iterator c.next.new.self c.next.result (search rules) (search rules) c.loop-from.yielded_by (c.in-Some.from, c.in-Some.to) c.in-Some.is c.next.ensures.steps in
    ((tt, tt), tt, rw (length-append c.loop-from.yielded) (answering_more (lent_net a.net.now) a.rank.now (lent_graph a.graph.now) (lent_costs a.costs.now) a.froms.now a.tos.now a.page.now c.loop-from.page c.answer_question.new.page i c.in-Some.from.now c.in-Some.to.now c.loop-from.invariant.2 turn.0 turn.1 (turn.2 0) (turn.3 0) c.answer_question.ensures.wrote c.answer_question.ensures.few))
