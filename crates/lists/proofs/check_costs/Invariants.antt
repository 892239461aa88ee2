-- `check_costs` meets its contract: no fault before arc i. Assumes nothing.
use Rattle.std.proofs.Common.{length, get_or}
use Rattle.theory.proofs.Verdicts.{Faultless}
use Rattle.rules.specs.Refusals.{unlawful}
use Rattle.lists.proofs.check_costs.Given as goal

abbrev pub invariant-loop-i : goal.invariant-loop-i
invariant-loop-i l = Faultless (λ k. unlawful (get_or l.costs k 0)) (length l.costs) l.i
