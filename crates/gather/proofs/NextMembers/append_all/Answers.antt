-- `append_all` meets its contract. The loop's invariant: the entries before y have been put in, and behind the last of them there is no
-- member. Assumes nothing.
use Rattle.std.proofs.Common.{arith, sym}
use Rattle.gather.proofs.PutIn.{put_rises, reached_start, put_between}
use Rattle.gather.proofs.AllPutIn.{merging_next, merging_more, merging_end}
use Rattle.gather.proofs.NextMembers.append_all.Goals as goal

pub bounds-self-place : goal.bounds-self-place
bounds-self-place c = omega (arith, merging_next c.loop-y.invariant.0 c.loop-y-test.true, c.requires.0.few)

pub loop-y-preserved : goal.loop-y-preserved
loop-y-preserved c =
    let l = c.loop-y in
    let (low, high) = merging_next l.invariant.0 c.loop-y-test.true in
    let (put, ends) = put_between l.self.rises (omega (arith, high, c.requires.0.few)) (reached_start _ _ _ _ low (sym l.invariant.1)) high in
    (merging_more l.invariant.0 c.loop-y-test.true _ c.requires.0.few put, ends)

pub invariant_of-self : goal.invariant_of-self
invariant_of-self c =
    let l = c.loop-y in
    let (low, high) = merging_next l.invariant.0 c.loop-y-test.true in
    record { rises = put_rises l.self.after l.last _ _ l.self.rises.long low (omega (arith, high, c.requires.0.few)) l.self.rises high }

pub returns : goal.returns
returns c = merging_end c.loop-y.invariant.0 c.loop-y-test.false
