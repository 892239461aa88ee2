-- `fill_rank` meets its contract: the positions below p are written down. Assumes nothing.
use Rattle.lists.proofs.Orders.{Ranking}
use Rattle.lists.proofs.fill_rank.Given as goal

abbrev pub invariant-loop-p : goal.invariant-loop-p
invariant-loop-p l = Ranking l.order l.p l.rank
