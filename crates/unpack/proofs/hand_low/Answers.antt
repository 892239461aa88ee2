-- `hand_low` meets its contract. Assumes nothing.
use Rattle.std.proofs.Common.{rules, arith, refl}
use Rattle.theory.proofs.Rows.{row_ends}
use Rattle.unpack.proofs.Lows.{hand_alone, hand_parent}
use Rattle.unpack.proofs.hand_low.Goals as goal

pub offset_bounds-graph-row : goal.offset_bounds-graph-row
offset_bounds-graph-row c =
    let row = c.places-row.ensures in let e = row_ends c.requires.0 c.args.p c.requires.2 in search (rules, e, row.start, row.end, c.if-row.true)

-- the row has an entry, which can be read
pub bounds-graph-row : goal.bounds-graph-row
bounds-graph-row c =
    let row = c.places-row.ensures in omega (arith, row_ends c.requires.0 c.args.p c.requires.2, row.start, row.end, c.if-row.true)

pub returns-then-row : goal.returns-then-row
returns-then-row c =
    let row = c.places-row.ensures in
    hand_parent _ _ _ _ _ _ row.start row.end c.min-mine.ensures _ _ c.if-row.true refl c.min.ensures

pub returns-else-row : goal.returns-else-row
returns-else-row c = let row = c.places-row.ensures in hand_alone _ _ _ _ _ _ row.start row.end c.min-mine.ensures c.if-row.false
