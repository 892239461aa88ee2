-- `lay` meets its contract. The loop's invariant: the arcs below i are threaded and their higher ends kept. Assumes nothing.
use Rattle.std.proofs.Common.{arith}
use Rattle.gather.proofs.Arcs.{ends_below, threading_start, threading_more, threading_end}
use Rattle.gather.proofs.ArcThreads.lay.Goals as goal

pub loop-i-init : goal.loop-i-init
loop-i-init g c = threading_start _ _ c.requires.2

pub bounds-self-p : goal.bounds-self-p
bounds-self-p g c = omega (arith, ends_below _ _ _ c.loop-i.i _ c.requires.0 c.loop-i-test.true, c.requires.0.few)

pub overflow_cast-self : goal.overflow_cast-self
overflow_cast-self g c = omega (arith, ends_below _ _ _ c.loop-i.i _ c.requires.0 c.loop-i-test.true, c.requires.0.few)

pub bounds-self-p-in-loop-i : goal.bounds-self-p-in-loop-i
bounds-self-p-in-loop-i g c = omega (arith, ends_below _ _ _ c.loop-i.i _ c.requires.0 c.loop-i-test.true, c.requires.0.few)

pub loop-i-preserved : goal.loop-i-preserved
loop-i-preserved g c =
    let (low, high) = c.ends_of-ends.ensures in
    threading_more c.loop-i.invariant c.requires.1 c.loop-i-test.true (omega (arith, ends_below _ _ _ c.loop-i.i _ c.requires.0 c.loop-i-test.true, c.requires.0.few)) _ _ low high

pub returns : goal.returns
returns g c =
    threading_end _ c.loop-i.self c.loop-i.invariant c.requires.1 c.loop-i-test.false (λ j l. (ends_below _ _ _ j _ c.requires.0 l).1)
