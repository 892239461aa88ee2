-- The last arc from u to v is at the thread's place or before it. Assumes nothing.
use mathlib.Core.Path.{refl}
use Rattle.roads.proofs.ByTail.{seek_start, seek_found, seek_more, seek_end}
use Rattle.roads.proofs.Roads.last_arc.Goals as goal

pub loop-k-init : goal.loop-k-init
loop-k-init c = seek_start _ _ _ _ _ c.requires.0 c.requires.1 refl

pub returns-then-heads-i-clause-last : goal.returns-then-heads-i-clause-last
returns-then-heads-i-clause-last c = seek_found _ _ _ _ _ _ c.loop-k.invariant c.loop-k-test.true refl c.if-heads-i.true

pub loop-k-preserved : goal.loop-k-preserved
loop-k-preserved c = seek_more _ _ _ _ _ _ c.loop-k.invariant c.loop-k-test.true refl _ c.requires.0 c.requires.1 c.if-heads-i.false refl

pub returns-clause-last : goal.returns-clause-last
returns-clause-last c = seek_end _ _ _ _ _ c.loop-k.invariant c.loop-k-test.false
