-- `griezmuld_customise` meets its promise. Assumes nothing.
use Rattle.std.proofs.Common.{refl}
use Rattle.tablet.proofs.Told.{told_customise}
use Rattle.rules.specs.Replies.{fill_reply, done}
use Rattle.tablet.proofs.griezmuld_customise.Goals as goal

pub returns : goal.returns
returns c =
    told_customise (fill_reply c.customise-customised.result) _ _ _ _
    (c.number_told.ensures (λ _. done) (λ x. refl))
    (c.place_told.ensures (λ _. done) (λ x. refl))
    c.customise-customised.ensures
