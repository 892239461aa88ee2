-- `first_off` meets its contract: the first word that is off from word k on is the first of all. Assumes nothing.
use Rattle.std.proofs.Common.{◌≡◌}
use Rattle.text.specs.ReadBack.{parts_left}
use Rattle.cause.specs.Causes.{first_off}
use Rattle.cause.proofs.first_off.Given as goal

abbrev pub invariant-loop-k : goal.invariant-loop-k
invariant-loop-k l = first_off l.form l.k (parts_left l.words) ≡ first_off l.form 0 (parts_left l.fn.words)
