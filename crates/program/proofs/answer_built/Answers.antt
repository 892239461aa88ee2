-- Refused, or E and the questions' lines. Assumes nothing.
use Rattle.std.proofs.Common.{◌∙◌, ap, List, ℕ, ◌++◌}
use Rattle.rules.specs.Replies.{edges}
use Rattle.rules.specs.Calls.{build_left}
use Rattle.rules.specs.Hierarchy.{edge_costs}
use Rattle.rules.specs.Lent.{lent_net, lent_graph}
use Rattle.text.specs.Program.{noughts, edges_line, reply_lines}
use Rattle.program.proofs.AnswerLeaves.{err_passed, refusal_told, customise_refused, customise_done, done_passes}
use Rattle.program.proofs.answer_built.Goals as goal

pub returns-in_err-customise-clause-told : goal.returns-in_err-customise-clause-told
returns-in_err-customise-clause-told c =
    let a = c.args in
    let q = c.in_err-customise.field-0.0 in
    refusal_told c.from_residual.result q a.page.now _ (err_passed c.from_residual.result q c.from_residual.ensures.1) c.requires.1
    (customise_refused (lent_net a.net.now) (build_left a.rank.now (lent_graph a.graph.now) (edges a.e)) a.e a.froms.now a.tos.now _ c.customise.result q _ c.customise.ensures c.in_err-customise.was)

pub answer_questions-requires-clause-accepted : goal.answer_questions-requires-clause-accepted
answer_questions-requires-clause-accepted c =
    let a = c.args in
    done_passes (lent_net a.net.now) a.rank.now (lent_graph a.graph.now) (edge_costs (noughts 4096) (noughts 4096)) c.customise.result _ (edge_costs c.customise.new.up c.customise.new.down) c.customise.ensures c.in_ok-customise.was

pub returns-clause-told : goal.returns-clause-told
returns-clause-told c =
    let a = c.args in
    let lines = reply_lines (lent_net a.net.now) a.rank.now (lent_graph a.graph.now) (edge_costs c.customise.new.up c.customise.new.down) a.froms.now a.tos.now in
    c.answer_questions.ensures
    ∙ ap (λ (l : List ℕ). l ++ lines) (c.put_edges_line.ensures.wrote ∙ ap (λ (l : List ℕ). l ++ edges_line a.e) c.requires.1)
    ∙ customise_done (lent_net a.net.now) (build_left a.rank.now (lent_graph a.graph.now) (edges a.e)) a.e a.froms.now a.tos.now _ c.customise.result _ (edge_costs c.customise.new.up c.customise.new.down) c.customise.ensures c.in_ok-customise.was
