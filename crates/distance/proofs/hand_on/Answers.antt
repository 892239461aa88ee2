-- `hand_on` meets its contract: the first i edges of the row have had their turn. Assumes nothing.
use Rattle.distance.proofs.Offered.{handed_more}
use Rattle.distance.proofs.hand_on.Goals as goal

pub loop-i-preserved : goal.loop-i-preserved
loop-i-preserved c = handed_more _ _ _ _ _ _ c.requires.climbs c.loop-i.invariant c.loop-i-test.true c.offer.ensures
