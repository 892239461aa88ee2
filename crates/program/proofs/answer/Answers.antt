-- The whole answer, or the refusal alone. Assumes nothing.
use Rattle.std.proofs.Common.{◌∙◌}
use Rattle.program.proofs.AnswerLeaves.{answer_left_lem}
use Rattle.program.proofs.answer.Goals as goal

pub returns-in-Err : goal.returns-in-Err
returns-in-Err c = answer_left_lem c.args.input.now _ (c.put_refused_line.ensures.wrote ∙ rw c.number.ensures (rw c.in-Err.is at c.answer_input.ensures.told))

pub returns-in_default : goal.returns-in_default
returns-in_default c = answer_left_lem c.args.input.now _ (rw c.in_default.is at c.answer_input.ensures.told)
