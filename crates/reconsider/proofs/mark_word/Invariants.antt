-- `mark_word` meets its contract: the bits that are set are the places that are flagged. Assumes nothing.
use Rattle.reconsider.proofs.Wording.{Wording}
use Rattle.reconsider.proofs.mark_word.Given as goal

abbrev pub invariant-loop-rest : goal.invariant-loop-rest
invariant-loop-rest l = Wording l.row_heads l.flags l.from l.end l.initial.marks l.rest l.marks

abbrev pub decreases-loop-rest : goal.decreases-loop-rest
decreases-loop-rest l = l.rest
