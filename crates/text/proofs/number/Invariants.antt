-- `number` meets its contract: the digits before the byte have been counted. Assumes nothing.
use Rattle.text.proofs.Cuts.{Counted}
use Rattle.text.proofs.number.Given as goal

abbrev pub invariant-loop-byte : goal.invariant-loop-byte
invariant-loop-byte l = Counted l.word l.value l.byte-index
