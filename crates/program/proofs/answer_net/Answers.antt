-- The rooms are of noughts, as long as they have to be. Assumes nothing.
use Rattle.rules.specs.Lent.{lent_net}
use Rattle.program.proofs.AnswerLeaves.{answered_in_noughts}
use Rattle.program.proofs.answer_net.Goals as goal

pub returns-clause-told : goal.returns-clause-told
returns-clause-told c =
    let a = c.args in
    answered_in_noughts (lent_net a.net.now) a.net.now.tails.now a.net.now.heads.now a.net.now.order.now a.froms.now a.tos.now _ c.requires.1 c.answer_text.ensures.told
