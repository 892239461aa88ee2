-- `climb` meets its contract: each turn hands the label of q on and goes to q's parent. Assumes nothing.
use Rattle.std.proofs.Common.{◌-◌}
use Rattle.rules.specs.Lent.{lent_graph, lent_costs}
use Rattle.theory.specs.Rows.{count}
use Rattle.distance.proofs.Climbed.{Rung}
use Rattle.distance.proofs.climb.Given as goal

abbrev pub invariant-chain : goal.invariant-chain
invariant-chain l = Rung (lent_graph l.graph) (lent_costs l.costs) l.fn.d l.fn.s.0 l.q.0 l.labels l.came

abbrev pub decreases-chain : goal.decreases-chain
decreases-chain l = count l.graph.first.now - l.q.0
