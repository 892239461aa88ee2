-- `lower_row` meets its contract: the rows that are past x have made their offers, the others wait from k on. Assumes nothing.
use Rattle.std.proofs.Common.{◌+◌, ◌≤◌}
use Rattle.rules.specs.Hierarchy.{edge_costs}
use Rattle.rules.specs.Lent.{lent_graph}
use Rattle.turns.specs.Waiting.{Waiting, PassedBelow}
use Rattle.customise.specs.Turns.{Spread}
use Rattle.turns.proofs.Waiting.{unmet}
use Rattle.customise.proofs.Turned.{Walking}
use Rattle.customise.proofs.lower_row.Given as goal

abbrev pub invariant-loop-k : goal.invariant-loop-k
invariant-loop-k l =
    record {
      low : l.k ≤ l.x;
      walked : Walking (lent_graph l.graph) l.x (edge_costs l.initial.up l.initial.down) l.waits.places (edge_costs l.up l.down);
      waits : Waiting (lent_graph l.graph) l.x l.k l.waits.links l.waits.places;
      passed : PassedBelow (lent_graph l.graph) l.x (l.x + 1) l.waits.places;
      spread : Spread (lent_graph l.graph) l.x l.waits.places;
    }

abbrev pub decreases-loop-k : goal.decreases-loop-k
decreases-loop-k l = unmet (lent_graph l.graph) l.x l.waits.places
