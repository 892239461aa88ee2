-- `sweep_down` meets its contract: positions from p on are done, those below still have their labels. Assumes nothing.
use Rattle.rules.specs.Lent.{lent_graph, lent_costs}
use Rattle.sweep.specs.Swept.{SweptDown}
use Rattle.sweep.proofs.sweep_down.Given as goal

abbrev pub invariant-loop-p : goal.invariant-loop-p
invariant-loop-p l = SweptDown (lent_graph l.graph) (lent_costs l.costs) l.fn.d l.p l.initial.reach l.reach
