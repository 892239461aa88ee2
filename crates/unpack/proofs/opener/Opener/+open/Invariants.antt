-- The opening ends: the low end falls at every call. Assumes nothing.
use Rattle.unpack.proofs.opener.Opener.+open.Given as goal

abbrev pub decreases-open : goal.decreases-open
decreases-open l = l.x.0
