-- The rank list gives back the positions below p. Assumes nothing.
use Rattle.hierarchy.proofs.SeatsAgree.{Seats}
use Rattle.hierarchy.proofs.ranks_order.Given as goal

abbrev pub invariant-loop-p : goal.invariant-loop-p
invariant-loop-p l = Seats l.order l.rank l.p
