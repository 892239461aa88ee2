-- `meet` meets its contract: what has a label from p on is on the chain of parents of p. Assumes nothing.
use Rattle.std.proofs.Common.{◌-◌}
use Rattle.rules.specs.Lent.{lent_graph}
use Rattle.theory.specs.Rows.{count}
use Rattle.distance.proofs.Looked.{Looked}
use Rattle.distance.proofs.meet.Given as goal

abbrev pub invariant-chain : goal.invariant-chain
invariant-chain l = Looked (lent_graph l.graph) l.a l.b l.p.0 l.best.sum l.best.at.0

abbrev pub decreases-chain : goal.decreases-chain
decreases-chain l = count l.graph.first.now - l.p.0
