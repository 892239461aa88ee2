-- `put_arcs` meets its contract. The loop's invariant: whatever arcs are threaded, those of p from k on have been put in; the walk ends since threads
-- lead down. Assumes nothing.
use lib.Dec.{eqb}
use Rattle.gather.specs.Arcs.{Arcs, ThreadsOf, with_arc}
use Rattle.gather.proofs.Walking.{Walking}
use Rattle.gather.proofs.NextMembers.put_arcs.Given as goal

abbrev pub invariant-loop-k : goal.invariant-loop-k
invariant-loop-k g l =
    (R : Arcs) → ThreadsOf R l.n l.arcs → Walking (λ i. eqb (R.low i) l.p.0) (with_arc R l.p.0) l.n l.p.0 R.count l.k l.initial.self.after l.self.after

abbrev pub decreases-loop-k : goal.decreases-loop-k
decreases-loop-k g l = l.k
