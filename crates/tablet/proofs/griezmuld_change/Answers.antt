-- `griezmuld_change` meets its promise. Assumes nothing.
use Rattle.std.proofs.Common.{refl}
use Rattle.tablet.proofs.Told.{told_change, looked_or}
use Rattle.rules.specs.Replies.{change_reply, looked}
use Rattle.tablet.proofs.griezmuld_change.Goals as goal

pub returns : goal.returns
returns c =
    told_change (change_reply c.change-changed.result) _ _ _ _ _ _
    (c.number_told.ensures looked (λ x. refl))
    (c.place_told.ensures looked (λ x. refl)) (looked_or c.change-changed.result c.unwrap_or.ensures)
    c.change-changed.ensures
