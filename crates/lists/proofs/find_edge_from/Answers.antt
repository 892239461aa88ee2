-- `find_edge_from` meets its contract: what stands before the place is lower. Assumes nothing.
use Rattle.std.proofs.Common.{arith}
use Rattle.rules.specs.Lent.{lent_graph}
use Rattle.theory.proofs.Rows.{next_row}
use Rattle.lists.proofs.Found.{row_asks, row_found_from}
use Rattle.lists.proofs.find_edge_from.Goals as goal

pub find_in_row-requires : goal.find_in_row-requires
find_in_row-requires c =
    let a = c.args in let end = c.places-row.ensures.end in
    let asks = row_asks c.requires.0 a.x.0 c.requires.1 c.requires.2.low (omega (arith, end, c.requires.2.high, next_row (lent_graph a.graph.now) a.x.0)) end in
    (asks.0, asks.1)

pub returns : goal.returns
returns c =
    row_found_from c.requires.0 c.args.x.0 c.requires.1 c.requires.2 c.requires.3 c.places-row.ensures.end c.find_in_row.ensures
