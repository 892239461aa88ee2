-- `spread_row` meets its contract: the places before k have been spread out. Assumes nothing.
use Rattle.std.proofs.Common.{arith, refl}
use Rattle.customise.proofs.Spread.{spreading_place, spreading_seat, spreading_more}
use Rattle.customise.proofs.spread_row.Goals as goal

pub offset_bounds-graph-k : goal.offset_bounds-graph-k
offset_bounds-graph-k c =
    let (e, (l, k, n)) = c.in-Some.ensures.steps in
    let h = spreading_place c.requires c.loop-k.invariant (omega arith) in omega (arith, h.1)

pub bounds-graph-k : goal.bounds-graph-k
bounds-graph-k c =
    let (e, (l, k, n)) = c.in-Some.ensures.steps in
    let h = spreading_place c.requires c.loop-k.invariant (omega arith) in omega (arith, h.0)

pub overflow_cast-places : goal.overflow_cast-places
overflow_cast-places c =
    let (e, (l, k, n)) = c.in-Some.ensures.steps in
    let h = spreading_place c.requires c.loop-k.invariant (omega arith) in omega (arith, h.1)

pub bounds-places-y : goal.bounds-places-y
bounds-places-y c =
    let (e, (l, k, n)) = c.in-Some.ensures.steps in
    rw k (spreading_seat c.requires c.loop-k.invariant (omega arith))

pub loop-k-preserved : goal.loop-k-preserved
loop-k-preserved c =
    let (e, (l, k, n)) = c.in-Some.ensures.steps in
    rw (e, n, k) (spreading_more c.requires c.loop-k.invariant (omega arith) refl)
