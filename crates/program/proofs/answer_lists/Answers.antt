-- The answer to the lists' beginnings is the answer to what was read into them. Assumes nothing.
use Rattle.std.proofs.Common.{arith}
use Rattle.program.proofs.AnswerLeaves.{text_answered}
use Rattle.program.proofs.answer_lists.Goals as goal

pub returns-clause-told : goal.returns-clause-told
returns-clause-told c = text_answered c.args.counts c.args.lists.now c.requires.0 (omega arith) _ c.answer_net.ensures.told
