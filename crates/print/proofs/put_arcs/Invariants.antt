-- The arc numbers so far have been written, in five places each at most. Assumes nothing.
use Rattle.std.proofs.Common.{suc, ◌≡◌, ◌≤◌, ◌+◌, ◌*◌, ◌++◌, map, take, length}
use Rattle.text.specs.Program.{spaced}
use Rattle.print.proofs.put_arcs.Given as goal

abbrev pub invariant-loop-arc : goal.invariant-loop-arc
invariant-loop-arc l =
    record {
      wrote : l.page ≡ l.initial.page ++ spaced (map suc (take l.arc-index l.arcs));
      few : length l.page ≤ length l.initial.page + 5 * l.arc-index;
    }
