-- Each line follows the lines before it. Assumes nothing.
use Rattle.std.proofs.Common.{length}
use Rattle.rules.specs.Lent.{lent_net, lent_graph, lent_costs}
use Rattle.program.proofs.ReplyLines.{Answering}
use Rattle.program.proofs.answer_questions.Given as goal

abbrev pub invariant-loop-from : goal.invariant-loop-from
invariant-loop-from l =
    (goal.iterator-loop-from).can_next l.from-iterator
    × (goal.iterator-loop-from).is_finite l.from-iterator
    × Answering (lent_net l.net) l.rank (lent_graph l.graph) (lent_costs l.costs) l.froms l.tos l.initial.page l.page (length l.yielded)
