-- `mark_flagged` meets its contract: each word's flagged places are marked, one word after the other. Assumes nothing.
use native.Mathlib.Omega.{arith}
use lib.ListN.{length}
use Rattle.turns.proofs.Stretches.{stretch_part}
use Rattle.reconsider.proofs.Flags.{word_in}
use Rattle.reconsider.proofs.Marks.{marked_off, marked_join, marked_end}
use Rattle.reconsider.proofs.mark_flagged.Goals as goal

pub loop-j-init : goal.loop-j-init
loop-j-init c = (omega arith, marked_off (λ k h l t. omega arith))

pub mark_word-requires : goal.mark_word-requires
mark_word-requires c =
    let l = c.loop-j in (
      c.loop-j-test.true,
      word_in l.j c.args.end (length c.args.flags.now) c.loop-j-test.true c.requires.1,
      stretch_part c.requires.2 l.invariant.0 (omega arith),
    )

pub loop-j-preserved : goal.loop-j-preserved
loop-j-preserved c =
    let l = c.loop-j-test.true in
    let (a, M) = c.loop-j.invariant in
    (omega arith, marked_join a (omega (arith, l)) (marked_end (omega (arith, l)) M) c.mark_word.ensures)

pub returns : goal.returns
returns c = marked_end (omega (arith, c.loop-j-test.false)) c.loop-j.invariant.1
