-- `answer_question` meets its contract: what route leaves, written as its line. Assumes nothing.
use Rattle.std.proofs.Common.{arith}
use Rattle.rules.specs.Lent.{lent_net, lent_graph, lent_costs}
use Rattle.text.specs.Program.{noughts}
use Rattle.program.proofs.ReplyLines.{reply_short}
use Rattle.program.proofs.answer_question.Goals as goal

pub put_reply-requires : goal.put_reply-requires
put_reply-requires c =
    let a = c.args in
    (c.requires.room.1, reply_short (lent_net a.net.now) a.rank.now (lent_graph a.graph.now) (lent_costs a.costs.now) a.from.0 a.to.0 (noughts 256) _ c.ask_route-answer.result c.ask_route-answer.ensures (omega arith) c.requires.room.0)
