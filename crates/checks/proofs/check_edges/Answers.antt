-- No arc before i lacks its edge. Assumes nothing.
use mathlib.Core.Path.{sym, ◌∙◌}
use Rattle.theory.proofs.Words.{true_holds}
use Rattle.theory.proofs.Verdicts.{faultless_fails, faultless_passes}
use Rattle.rules.specs.Refusals.{check8}
use Rattle.checks.proofs.check_edges.Goals as goal

pub returns-then-lacks_edge : goal.returns-then-lacks_edge
unfolding check8
returns-then-lacks_edge c = faultless_fails 8 c.loop-i.invariant c.loop-i-test.true (true_holds _ (sym c.lacks_edge.ensures ∙ c.if-lacks_edge.true))

pub returns : goal.returns
unfolding check8
returns c = faultless_passes 8 c.loop-i.invariant c.loop-i-test.false
