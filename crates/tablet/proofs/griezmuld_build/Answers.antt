-- `griezmuld_build` meets its promise. Assumes nothing.
use Rattle.std.proofs.Common.{refl}
use Rattle.tablet.proofs.Told.{told_build, edges_or}
use Rattle.rules.specs.Replies.{build_reply, edges}
use Rattle.tablet.proofs.griezmuld_build.Goals as goal

pub returns : goal.returns
returns c =
    told_build (build_reply c.build-built.result) _ _ _ _ _ _
    (c.number_told.ensures edges (λ x. refl))
    (c.place_told.ensures edges (λ x. refl)) (edges_or c.build-built.result c.unwrap_or.ensures)
    c.build-built.ensures
