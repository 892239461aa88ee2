-- `put_all` meets its contract. The loop's invariant: the entries before place k have been put in, the rest ascends above the last of them, and what
-- stands behind that is told. Assumes nothing.
use mathlib.Core.Path.{◌≡◌}
use lib.ListN.{get_or}
use Rattle.gather.proofs.AllPutIn.{Merging}
use Rattle.gather.proofs.NextMembers.put_all.Given as goal

abbrev pub invariant-loop-k : goal.invariant-loop-k
invariant-loop-k l = Merging l.entries l.n l.initial.last.0 l.k l.last.0 l.initial.self.after l.self.after × (l.next.0 ≡ get_or l.self.after l.last.0 0)
