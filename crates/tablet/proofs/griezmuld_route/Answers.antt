-- `griezmuld_route` meets its promise. Assumes nothing.
use Rattle.tablet.proofs.Told.{told_route, route_number, route_place}
use Rattle.rules.specs.Replies.{route_reply, route_found}
use Rattle.tablet.proofs.griezmuld_route.Goals as goal

pub returns : goal.returns
returns c =
    told_route (route_reply c.route-driven.result) _ _ _ _ _ _
    (c.number_told.ensures route_found (λ x. route_number x))
    (c.place_told.ensures route_found (λ x. route_place x)) c.drive_told-told.ensures.distance c.drive_told-told.ensures.arcs
    c.route-driven.ensures
