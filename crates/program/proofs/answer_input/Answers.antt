-- The answer to what was read, or the line that breaks the text's rules. Assumes nothing.
use Rattle.std.proofs.Common.{Ok, ◌∙◌, ap, List, ℕ, ◌++◌}
use Rattle.text.specs.Program.{refused_line}
use Rattle.program.proofs.AnswerLeaves.{text_breaks, read_answered}
use Rattle.program.proofs.answer_input.Goals as goal

pub returns-in-Ok-clause-told : goal.returns-in-Ok-clause-told
returns-in-Ok-clause-told c = c.answer_lists.ensures.told ∙ read_answered c.args.input.now (Ok c.in-Ok.counts) c.read_text.new.lists (rw c.in-Ok.is at c.read_text.ensures.reading)

pub returns-in-Err-clause-told : goal.returns-in-Err-clause-told
returns-in-Err-clause-told c = ap (λ (l : List ℕ). l ++ refused_line 14) c.requires ∙ text_breaks c.args.input.now c.in-Err.broken c.read_text.new.lists (rw c.in-Err.is at c.read_text.ensures.reading)
