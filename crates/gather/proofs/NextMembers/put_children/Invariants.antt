-- `put_children` meets its contract. The loop's invariant: the rows of p's children from k on have been put in; the walk ends since threads lead
-- down. Assumes nothing.
use lib.Dec.{eqb}
use lib.ListN.{drop}
use Rattle.rules.specs.Lent.{lent_graph}
use Rattle.rules.specs.Hierarchy.{row_at}
use Rattle.gather.specs.NextMembers.{also_all}
use Rattle.gather.specs.Gathered.{parent_in}
use Rattle.gather.proofs.Walking.{Walking}
use Rattle.gather.proofs.NextMembers.put_children.Given as goal

abbrev pub invariant-loop-k : goal.invariant-loop-k
invariant-loop-k l =
    let G = lent_graph l.graph in
    Walking (λ c. eqb (parent_in G l.n c) l.p.0) (λ c. also_all (drop 1 (row_at G c))) l.n l.p.0 l.p.0 l.k l.initial.self.after l.self.after

abbrev pub decreases-loop-k : goal.decreases-loop-k
decreases-loop-k l = l.k
