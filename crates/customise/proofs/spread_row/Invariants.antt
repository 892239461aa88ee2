-- `spread_row` meets its contract: the places before k have been spread out. Assumes nothing.
use Rattle.rules.specs.Lent.{lent_graph}
use Rattle.customise.proofs.Spread.{Spreading}
use Rattle.customise.proofs.spread_row.Given as goal

abbrev pub invariant-loop-k : goal.invariant-loop-k
invariant-loop-k l = Spreading (lent_graph l.graph) l.x l.k-iterator.end l.k-iterator.start l.initial.places l.places
