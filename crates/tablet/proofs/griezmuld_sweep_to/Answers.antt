-- `griezmuld_sweep_to` meets its promise. Assumes nothing.
use Rattle.std.proofs.Common.{refl}
use Rattle.tablet.proofs.Told.{told_sweep}
use Rattle.rules.specs.Replies.{fill_reply, done}
use Rattle.tablet.proofs.griezmuld_sweep_to.Goals as goal

pub returns : goal.returns
returns c =
    told_sweep (fill_reply c.sweep_to-swept.result) _ _ _ _
    (c.number_told.ensures (λ _. done) (λ x. refl))
    (c.place_told.ensures (λ _. done) (λ x. refl))
    c.sweep_to-swept.ensures
