-- `check_ends` meets its contract: no fault before place i. Assumes nothing.
use Rattle.std.proofs.Common.{arith, length}
use Rattle.theory.proofs.Verdicts.{faultless_start, faultless_more, faultless_fails, faultless_passes}
use Rattle.rules.specs.Refusals.{check3, end_fault}
use Rattle.lists.proofs.Refusals.{tail_fault, head_fault, ends_good}
use Rattle.lists.proofs.check_ends.Goals as goal
use Rattle.lists.proofs.check_ends.Goals.{then-n-tail-via-then-n-tail, then-n-tail-via-else-n-tail+then-n-heads}

pub loop-i-init : goal.loop-i-init
loop-i-init c = faultless_start (end_fault c.args.n c.args.tails.now c.args.heads.now) (length c.args.tails.now)

pub returns-then-n-tail : goal.returns-then-n-tail
unfolding check3
returns-then-n-tail c =
    let a = c.args in let l = c.loop-i in faultless_fails 3 l.invariant c.loop-i-test.true
    (elim c.then-n-tail.branch [
      | then-n-tail-via-then-n-tail w ↦ tail_fault a.n a.tails.now a.heads.now l.i (omega arith)
      | then-n-tail-via-else-n-tail+then-n-heads w ↦ head_fault a.n a.tails.now a.heads.now l.i (omega arith)
    ])

pub loop-i-preserved : goal.loop-i-preserved
loop-i-preserved c =
    let a = c.args in let l = c.loop-i in
    faultless_more l.invariant c.loop-i-test.true (ends_good a.n a.tails.now a.heads.now l.i (omega arith) (omega arith))

pub returns : goal.returns
unfolding check3
returns c = faultless_passes 3 c.loop-i.invariant c.loop-i-test.false
