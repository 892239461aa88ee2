-- `drive_way` meets its contract: the pieces before place i of the way have been driven. Assumes nothing.
use Rattle.std.proofs.Common.{ℕ, refl, ap, ◌∙◌, Err}
use Rattle.std.proofs.lemmas.Result.{err_from_is_err_and}
use Rattle.unpack.specs.Opening.{ran}
use lib.ListN.{length-replicate}
use Rattle.roads.proofs.OfNet.{roads_in}
use Rattle.drive.proofs.Given.{threaded, ready}
use Rattle.drive.proofs.WayOver.{driving_more, driving_stop, driving_end}
use Rattle.drive.proofs.drive_way.Goals as goal

pub thread-requires : goal.thread-requires
thread-requires c = (c.requires.0.tails_in, c.requires.0.fit, refl, length-replicate {A = ℕ} 16384 0)

-- what opening reads is threaded
pub invariant_of-opener : goal.invariant_of-opener
invariant_of-opener c = record { readable = roads_in (threaded c.requires.0 c.thread.ensures) }

-- the next two positions are joined
pub drive_piece-requires : goal.drive_piece-requires
drive_piece-requires c =
    (ready c.requires.0 c.find_lows.ensures, c.requires.1.edge c.loop-i.i c.loop-i.invariant.low c.loop-i-test.true)

pub returns-in_err-at : goal.returns-in_err-at
returns-in_err-at c =
    let (why, e, f) = err_from_is_err_and c.from_residual.result c.from_residual.ensures.1 in
    ap (λ answer. ran answer c.drive_piece.new.route) (e ∙ ap Err f)
    ∙ driving_stop _ _ _ _ _ _ c.loop-i.invariant c.loop-i-test.true (c.drive_piece.ensures _ (threaded c.requires.0 c.thread.ensures).by_tail) c.in_err-at.was

pub loop-i-preserved : goal.loop-i-preserved
loop-i-preserved c = driving_more _ _ _ _ _ _ c.loop-i.invariant c.loop-i-test.true (c.drive_piece.ensures _ (threaded c.requires.0 c.thread.ensures).by_tail) _ c.in_ok-at.was

pub returns : goal.returns
returns c = driving_end _ _ _ _ _ _ c.loop-i.invariant c.loop-i-test.false
