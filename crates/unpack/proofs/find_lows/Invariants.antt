-- `find_lows` meets its contract: the positions below p have had their turn. Assumes nothing.
use mathlib.Core.Path.{◌≡◌}
use Rattle.theory.specs.Rows.{count}
use Rattle.unpack.proofs.Lows.{Lowered}
use Rattle.rules.specs.Lent.{lent_graph}
use Rattle.unpack.proofs.find_lows.Given as goal

abbrev pub invariant-loop-p : goal.invariant-loop-p
invariant-loop-p l = (l.p-end ≡ count l.graph.first.now) × Lowered (lent_graph l.graph) l.p l.low
