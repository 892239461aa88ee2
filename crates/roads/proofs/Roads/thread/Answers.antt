-- The arcs before i are threaded, one more at each step. Assumes nothing.
use native.Mathlib.Omega.{arith}
use mathlib.Core.Path.{refl}
use Rattle.roads.proofs.ByTail.{laid_none, laid_more}
use Rattle.roads.proofs.Roads.thread.Goals as goal

pub loop-i-init : goal.loop-i-init
loop-i-init c = laid_none c.args.tails.now _ c.requires.2 c.requires.3

pub loop-i-preserved : goal.loop-i-preserved
loop-i-preserved c =
    laid_more c.args.tails.now c.loop-i.self _ _ c.loop-i.invariant (omega (arith, c.requires.1)) refl (omega (arith, c.requires.0 c.loop-i.i))
