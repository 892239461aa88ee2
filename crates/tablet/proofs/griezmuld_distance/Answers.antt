-- `griezmuld_distance` meets its promise. Assumes nothing.
use Rattle.tablet.proofs.Told.{told_distance, distance_number, distance_place}
use Rattle.rules.specs.Replies.{distance_reply, distance_found}
use Rattle.tablet.proofs.griezmuld_distance.Goals as goal

pub returns : goal.returns
returns c =
    told_distance (distance_reply c.distance-found.result) _ _ _ _
    (c.number_told.ensures distance_found (λ x. distance_number x))
    (c.place_told.ensures distance_found (λ x. distance_place x)) c.distance_told.ensures
    c.distance-found.ensures
