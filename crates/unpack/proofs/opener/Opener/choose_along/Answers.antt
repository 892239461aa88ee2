-- `choose_along` meets its contract. Assumes nothing.
use Rattle.theory.proofs.Rows.{linked_turn}
use Rattle.unpack.proofs.opener.Opener.choose_along.Goals as goal

pub choose-requires : goal.choose-requires
choose-requires c = (c.requires.0, c.requires.2, rw c.in-Up.is at c.requires.3)

pub choose-requires-in-Down : goal.choose-requires-in-Down
choose-requires-in-Down c = (c.requires.0, linked_turn _ _ _ c.requires.2, rw c.in-Down.is at c.requires.3)
