-- `fill_rank` meets its contract: the positions below p are written down. Assumes nothing.
use Rattle.lists.proofs.Orders.{ranking_all}
use Rattle.lists.proofs.fill_rank.Goals as goal

pub returns : goal.returns
returns c = ranking_all c.requires.0 c.loop-p.invariant c.loop-p-test.false
