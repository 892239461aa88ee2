-- `first_off` meets its contract: the first word that is off from word k on is the first of all. Assumes nothing.
use Rattle.std.proofs.Common.{◌≡◌, length, ◌∙◌, arith}
use Rattle.cause.proofs.LineFault.{off_here, off_more, off_none}
use Rattle.cause.proofs.first_off.Goals as goal

pub returns-then-not-is_wanted : goal.returns-then-not-is_wanted
returns-then-not-is_wanted c = rw c.not_met.ensures (off_here _ _ _ c.wants-wanted.ensures c.loop-k-test.true _ _ _ c.in-Some.ensures.steps c.if-not-is_wanted.ensures ∙ c.loop-k.invariant)

pub returns-in-None : goal.returns-in-None
returns-in-None c = let k : c.loop-k.k ≡ length c.wants-wanted.result.now = omega arith in off_none _ _ c.wants-wanted.ensures _ c.in-None.ensures.steps.0 ∙ rw k at c.loop-k.invariant

pub returns-in-Some-next : goal.returns-in-Some-next
returns-in-Some-next c =
    let k : c.loop-k.k ≡ length c.wants-wanted.result.now = omega arith in
    off_more _ _ c.wants-wanted.ensures _ _ _ c.in-Some-next.ensures.steps ∙ rw k at c.loop-k.invariant
