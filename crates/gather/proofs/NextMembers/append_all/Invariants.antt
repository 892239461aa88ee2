-- `append_all` meets its contract. The loop's invariant: the entries before y have been put in, and behind the last of them there is no
-- member. Assumes nothing.
use mathlib.Core.Path.{◌≡◌}
use lib.ListN.{get_or}
use Rattle.gather.proofs.AllPutIn.{Merging}
use Rattle.gather.proofs.NextMembers.append_all.Given as goal

abbrev pub invariant-loop-y : goal.invariant-loop-y
invariant-loop-y l = Merging l.entries l.n l.initial.last l.y-index l.last l.initial.self.after l.self.after × (get_or l.self.after l.last 0 ≡ l.n)
