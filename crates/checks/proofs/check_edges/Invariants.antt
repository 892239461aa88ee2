-- No arc before i lacks its edge. Assumes nothing.
use lib.ListN.{length}
use Rattle.theory.proofs.Verdicts.{Faultless}
use Rattle.rules.specs.Lent.{lent_graph}
use Rattle.rules.specs.Refusals.{lacks_edge}
use Rattle.checks.proofs.check_edges.Given as goal

abbrev pub invariant-loop-i : goal.invariant-loop-i
invariant-loop-i l = Faultless (lacks_edge l.net.tails.now l.net.heads.now l.rank (lent_graph l.graph)) (length l.net.tails.now) l.i
