-- `route_between` meets its contract: where the labels meet, no way, or the way traced both ways and driven. Assumes nothing.
use mathlib.Core.Path.{refl}
use native.Mathlib.Omega.{arith}
use Rattle.drive.proofs.Given.{given}
use Rattle.drive.proofs.LeftAfter.{left_fits}
use Rattle.drive.proofs.RouteLeaves.{asked, asked_in, route_none, traceable, way_walkable, route_driven}
use Rattle.drive.proofs.route_between.Goals as goal

pub position_of-s-requires : goal.position_of-s-requires
position_of-s-requires c =
    let A = asked c.requires in
    omega (arith, A.start, A.roads.ranks.long)

pub position_of-t-requires : goal.position_of-t-requires
position_of-t-requires c =
    let A = asked c.requires in
    omega (arith, A.target, A.roads.ranks.long)

pub find_meeting-met-requires : goal.find_meeting-met-requires
find_meeting-met-requires c =
    let A = asked c.requires in
    let (s, t) = asked_in A c.position_of-s.ensures c.position_of-t.ensures in
    ((given A.roads).lists, s, t, refl, refl)

pub returns-then-met : goal.returns-then-met
returns-then-met c =
    route_none (asked c.requires) c.position_of-s.ensures c.position_of-t.ensures c.find_meeting-met.ensures _ c.if-met.true c.fill.ensures

pub trace-start-requires : goal.trace-start-requires
trace-start-requires c =
    let (h, u, d) = traceable (asked c.requires) c.position_of-s.ensures c.position_of-t.ensures c.find_meeting-met.ensures c.if-met.false in
    (h, u, refl)

pub trace-end-requires : goal.trace-end-requires
trace-end-requires c =
    let (h, u, d) = traceable (asked c.requires) c.position_of-s.ensures c.position_of-t.ensures c.find_meeting-met.ensures c.if-met.false in
    (h, d, c.trace-start.ensures.2)

pub drive_way-told-requires : goal.drive_way-told-requires
drive_way-told-requires c =
    let A = asked c.requires in
    (given A.roads, way_walkable A c.position_of-s.ensures c.position_of-t.ensures c.find_meeting-met.ensures c.if-met.false c.trace-start.ensures.0 c.trace-end.ensures.0 c.trace-end.ensures.1)

pub finish-requires : goal.finish-requires
finish-requires c = left_fits _ _ _ _ c.drive_way-told.ensures

pub returns : goal.returns
returns c =
    route_driven (asked c.requires) c.position_of-s.ensures c.position_of-t.ensures c.find_meeting-met.ensures c.if-met.false c.trace-start.ensures.0 c.trace-end.ensures.0 c.trace-end.ensures.1 _ _ _ c.drive_way-told.ensures c.finish.ensures
