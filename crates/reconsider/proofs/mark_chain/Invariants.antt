-- `mark_chain` meets its contract: from parent to parent nothing that a row has is left out. Assumes nothing.
use Prim.Native.Nat.{◌-◌}
use Rattle.rules.specs.Lent.{lent_graph}
use Rattle.theory.specs.Rows.{count}
use Rattle.reconsider.proofs.Reaches.{Climbing}
use Rattle.reconsider.proofs.mark_chain.Given as goal

abbrev pub invariant-loop-p : goal.invariant-loop-p
invariant-loop-p l = Climbing (lent_graph l.graph) l.lo l.p l.on

abbrev pub decreases-loop-p : goal.decreases-loop-p
decreases-loop-p l = count l.graph.first.now - l.p
