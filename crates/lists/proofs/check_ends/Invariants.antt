-- `check_ends` meets its contract: no fault before place i. Assumes nothing.
use Rattle.std.proofs.Common.{length}
use Rattle.theory.proofs.Verdicts.{Faultless}
use Rattle.rules.specs.Refusals.{end_fault}
use Rattle.lists.proofs.check_ends.Given as goal

abbrev pub invariant-loop-i : goal.invariant-loop-i
invariant-loop-i l = Faultless (end_fault l.n l.tails l.heads) (length l.tails) l.i
