-- `check_costs` meets its contract: no fault before arc i. Assumes nothing.
use Rattle.theory.proofs.Words.{true_holds, true_false, holds_true}
use mathlib.Core.Path.{sym, ◌∙◌}
use lib.ListN.{length, get_or}
use Rattle.theory.proofs.Verdicts.{faultless_start, faultless_more, faultless_fails, faultless_passes}
use Rattle.rules.specs.Refusals.{unlawful, check9}
use Rattle.lists.proofs.check_costs.Goals as goal

pub loop-i-init : goal.loop-i-init
loop-i-init c = faultless_start (λ k. unlawful (get_or c.args.costs.now k 0)) (length c.args.costs.now)

pub returns-then-is_unlawful : goal.returns-then-is_unlawful
unfolding check9
returns-then-is_unlawful c = let x = get_or c.args.costs.now c.loop-i.i 0 in faultless_fails 9 c.loop-i.invariant c.loop-i-test.true (true_holds (unlawful x) (sym c.is_unlawful.ensures ∙ c.if-is_unlawful.true))

pub loop-i-preserved : goal.loop-i-preserved
loop-i-preserved c = let x = get_or c.args.costs.now c.loop-i.i 0 in faultless_more c.loop-i.invariant c.loop-i-test.true (λ t. true_false (sym (holds_true (unlawful x) t) ∙ sym c.is_unlawful.ensures ∙ c.if-is_unlawful.false))

pub returns : goal.returns
unfolding check9
returns c = faultless_passes 9 c.loop-i.invariant c.loop-i-test.false
