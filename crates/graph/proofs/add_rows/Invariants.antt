-- `add_rows` meets its contract. The loop's invariant: whatever roads are threaded, their rows below p are written. Assumes nothing.
use Rattle.std.proofs.Common.{◌≡◌, suc, length, get_or}
use Rattle.rules.specs.Graph.{graph}
use Rattle.graph.specs.Grown.{Laid, roads, Grown}
use Rattle.graph.proofs.add_rows.Given as goal

abbrev pub invariant-loop-p : goal.invariant-loop-p
invariant-loop-p g l =
    (l.end ≡ get_or l.first l.p 0)
    × (length l.first ≡ suc (length l.order))
    × (length l.row_heads ≡ length l.initial.row_heads)
    × ((L : Laid l.order l.arcs) → Grown (roads L) (graph l.first l.row_heads) l.children l.p)
