-- The entries before k + i are the same, or the answer is settled. Assumes nothing.
use native.Mathlib.Omega.{arith}
use Rattle.hierarchy.proofs.InOrder.{compared_all}
use Rattle.hierarchy.proofs.eight_same.Goals as goal

pub returns : goal.returns
returns c = compared_all c.loop-i.invariant (omega arith) c.requires (omega (arith, c.loop-i-test.false))
