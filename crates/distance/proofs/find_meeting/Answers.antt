-- `find_meeting` meets its contract: both climbs, and where they meet. Assumes nothing.
use Rattle.distance.proofs.Looked.{met_between}
use Rattle.distance.proofs.find_meeting.Goals as goal

pub returns : goal.returns
returns c =
    met_between _ _ c.climb.ensures c.climb-2.ensures c.meet.ensures
