-- `read_text` meets its contract: what has been read by the line that comes next. Assumes nothing.
use Rattle.std.proofs.Common.{◌+◌, ◌≤◌, ◌≡◌, length}
use Rattle.text.specs.Program.{lines_of, read_on, read_all}
use Rattle.reader.specs.ReadOn.{so_far}
use Rattle.reader.proofs.read_text.Given as goal

abbrev pub invariant-loop-rest : goal.invariant-loop-rest
invariant-loop-rest l = record { counted : l.line + length l.rest ≤ length l.input + 1; says : read_on (so_far l.lists) l.line (lines_of l.rest) ≡ read_all l.input }

abbrev pub decreases-loop-rest : goal.decreases-loop-rest
decreases-loop-rest l = length l.rest
