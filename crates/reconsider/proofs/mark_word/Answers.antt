-- `mark_word` meets its contract: the bits that are set are the places that are flagged. Assumes nothing.
use Rattle.std.proofs.Common.{◌+◌, ◌-◌, ◌/◌, arith, refl}
use lib.Bits.{and_le_r}
use lib.Count.{count_trailing_zeros, trailing_le}
use Rattle.reconsider.proofs.Wording.{wording_start, wording_none, wording_short, wording_more}
use Rattle.reconsider.proofs.mark_word.Goals as goal

pub loop-rest-init : goal.loop-rest-init
loop-rest-init c = wording_start

pub overflow_add-j : goal.overflow_add-j
overflow_add-j c = omega (arith, c.requires.0, c.requires.2.listed, trailing_le 64 c.loop-rest.rest)

pub returns-then-end-j : goal.returns-then-end-j
returns-then-end-j c =
    wording_short c.loop-rest.invariant (omega (arith, c.type_inv.flags (c.args.from / 64))) c.loop-rest-test.true refl c.requires.0 c.if-end-j.true

pub loop-rest-smaller : goal.loop-rest-smaller
loop-rest-smaller c = omega (arith, c.loop-rest-test.true, and_le_r c.loop-rest.rest (c.loop-rest.rest - 1))

pub loop-rest-preserved : goal.loop-rest-preserved
loop-rest-preserved c =
    let K = c.loop-rest.invariant in
    let j = c.args.from + count_trailing_zeros 64 c.loop-rest.rest in
    wording_more K (omega (arith, c.type_inv.flags (c.args.from / 64))) c.loop-rest-test.true refl (omega (arith, c.if-end-j.false)) refl
    (omega (arith, c.requires.2.seat j (omega arith) (omega (arith, c.if-end-j.false)), K.marked.long)) refl

pub returns : goal.returns
returns c = wording_none c.loop-rest.invariant c.requires.0 (omega (arith, c.loop-rest-test.false))
