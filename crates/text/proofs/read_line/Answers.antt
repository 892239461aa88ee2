-- `read_line` meets its contract: at the exits whose lemma does not show the words behind the first. Assumes nothing.
use Rattle.std.proofs.Common.{rules, sym, ◌∙◌}
use Rattle.text.proofs.LineOf.{line_unlettered, line_by_c, line_by_other}
use Rattle.text.proofs.read_line.Goals as goal

pub returns-in_err-letter : goal.returns-in_err-letter
returns-in_err-letter c = rw c.from_residual-in_err-letter.ensures (line_unlettered _ _ _ (sym c.new-words.ensures ∙ c.in_ok-next.ensures.steps) c.in_err-letter.ensures)

pub returns-in-99 : goal.returns-in-99
returns-in-99 c = line_by_c _ _ _ (sym c.new-words.ensures ∙ c.in_ok-next.ensures.steps) (rw c.in-99.is at c.in_ok-letter.ensures)

pub returns-in_default : goal.returns-in_default
returns-in_default c = line_by_other _ _ _ (sym c.new-words.ensures ∙ c.in_ok-next.ensures.steps) _ c.in_ok-letter.ensures (search rules) (search rules) (search rules) (search rules) (search rules)
