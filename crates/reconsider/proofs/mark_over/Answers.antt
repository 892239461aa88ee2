-- `mark_over` meets its contract: if the row's edge to x is flagged all behind it is marked, else what is flagged itself. Assumes nothing.
use Rattle.std.proofs.Common.{arith, length, get_or, ◌+◌}
use Rattle.turns.proofs.Stretches.{stretch_part}
use Rattle.reconsider.proofs.Flags.{word_in}
use Rattle.reconsider.proofs.Marks.{row_end}
use Rattle.reconsider.proofs.mark_over.Goals as goal

pub is_flagged-requires : goal.is_flagged-requires
is_flagged-requires c =
    let a = c.args in
    let (h, e, S) = row_end c.requires.0 c.requires.1 in
    word_in a.i (get_or a.graph.now.first.now (a.z + 1) 0) (length a.flags.now) h (omega (arith, c.requires.2))

pub mark_all-requires : goal.mark_all-requires
mark_all-requires c = let (h, e, S) = row_end c.requires.0 c.requires.1 in (omega arith, stretch_part S (omega arith) (omega arith))

pub mark_flagged-requires : goal.mark_flagged-requires
mark_flagged-requires c = let (h, e, S) = row_end c.requires.0 c.requires.1 in (omega arith, omega (arith, c.requires.2), S)
