-- `wait_at` meets its contract: the place, or the row's end where it is the last. Assumes nothing.
use Rattle.std.proofs.Common.{refl}
use Rattle.turns.proofs.Waiting.{wait_there, wait_end}
use Rattle.turns.proofs.wait_at.Goals as goal

pub returns-then-i-end : goal.returns-then-i-end
returns-then-i-end c = let a = c.args in wait_there a.graph.now.first.now a.z a.i _ refl c.if-i-end.true

pub returns : goal.returns
returns c = let a = c.args in wait_end a.graph.now.first.now a.z a.i _ refl c.if-i-end.false
