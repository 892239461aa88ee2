-- `sweep_by` meets its contract: labels, what the sweep makes of them, and the list. Assumes nothing.
use Rattle.std.proofs.Common.{◌∙◌}
use Rattle.sweep.proofs.Swept.{reached_start}
use Rattle.sweep.proofs.Told.{all_capped, list_is}
use Rattle.sweep.proofs.sweep_by.Goals as goal

pub tell-requires : goal.tell-requires
tell-requires c =
    (c.requires.1, all_capped c.requires.0.few c.climb.ensures.small c.requires.1 c.requires.2 (c.sweep_down.ensures _ (reached_start c.climb.ensures)))

pub returns : goal.returns
returns c =
    c.tell.ensures
    ∙ list_is c.requires.0.few c.climb.ensures.small c.requires.1 c.requires.2 (c.sweep_down.ensures _ (reached_start c.climb.ensures)) c.args.j.0 c.position_of-s.ensures
