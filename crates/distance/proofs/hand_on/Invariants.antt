-- `hand_on` meets its contract: the first i edges of the row have had their turn. Assumes nothing.
use Rattle.distance.specs.Labelled.{HandedOn}
use Rattle.distance.proofs.hand_on.Given as goal

abbrev pub invariant-loop-i : goal.invariant-loop-i
invariant-loop-i l = HandedOn l.q.0 l.mine l.row l.costs l.i l.initial.labels l.initial.came l.labels l.came
