-- `find_edge` meets its contract. Assumes nothing.
use Rattle.std.proofs.Common.{arith}
use Rattle.theory.proofs.Rows.{row_ends}
use Rattle.lists.proofs.find_edge.Goals as goal

pub find_in_row-requires : goal.find_in_row-requires
find_in_row-requires c =
    let (a, b) = row_ends c.requires.0 c.args.x.0 c.requires.1 in
    omega (arith, a, b, c.places-row.ensures.start, c.places-row.ensures.end)
