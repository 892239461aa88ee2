-- `find_line` meets its contract: the lines before those that are left are passed by and counted. Assumes nothing.
use Rattle.std.proofs.Common.{length}
use Rattle.text.specs.ReadBack.{parts_left}
use Rattle.fault.proofs.Places.{Walks}
use Rattle.fault.proofs.find_line.Given as goal

abbrev pub invariant-loop-bytes : goal.invariant-loop-bytes
invariant-loop-bytes l = Walks l.input l.sought l.before l.number (parts_left l.lines)

abbrev pub decreases-loop-bytes : goal.decreases-loop-bytes
decreases-loop-bytes l = length (parts_left l.lines)
