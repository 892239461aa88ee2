-- `put` meets its contract. The loop's invariant: the walk has reached a place below y; it ends since every place points upward. Assumes nothing.
use Rattle.std.proofs.Common.{arith, refl, sym}
use Rattle.gather.proofs.PutIn.{put_there, put_between}
use Rattle.gather.proofs.NextMembers.put.Goals as goal

pub returns-then-z-y : goal.returns-then-z-y
returns-then-z-y c = (put_there c.loop-z.invariant c.if-z-y.true, refl)

pub returns : goal.returns
returns c =
    let (put, behind) = put_between c.args.self.now.rises c.requires.1 c.loop-z.invariant (omega arith) in
    (put, sym behind)
