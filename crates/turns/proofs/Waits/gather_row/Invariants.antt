-- `gather_row` meets its contract: the rows noted are past x, the others wait from k on. Assumes nothing.
use Rattle.std.proofs.Common.{◌≤◌}
use Rattle.rules.specs.Lent.{lent_graph}
use Rattle.turns.specs.Waiting.{Waiting}
use Rattle.turns.proofs.Waiting.{unmet}
use Rattle.turns.proofs.Meeting.{Meeting}
use Rattle.turns.proofs.Waits.gather_row.Given as goal

abbrev pub invariant-loop-k : goal.invariant-loop-k
invariant-loop-k l =
    record {
      low : l.k ≤ l.x;
      met : Meeting (lent_graph l.graph) l.x l.initial.self.places l.m l.met.rows l.met.places l.self.places;
      waits : Waiting (lent_graph l.graph) l.x l.k l.self.links l.self.places;
    }

abbrev pub decreases-loop-k : goal.decreases-loop-k
decreases-loop-k l = unmet (lent_graph l.graph) l.x l.self.places
