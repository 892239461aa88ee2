-- `add` meets its contract: p goes in front of its parent's thread, or of none. Assumes nothing.
use mathlib.Core.Path.{refl}
use mathlib.Core.Logic.{inl, inr}
use native.Mathlib.Omega.{arith}
use Rattle.theory.proofs.Threads.{threads_by}
use Rattle.gather.proofs.ChildThreads.add.Goals as goal

pub returns-then-q-n : goal.returns-then-q-n
returns-then-q-n c =
    let h = c.requires in
    λ f e t. threads_by f _ _ _ _ _ t h.1 (omega (arith, h)) _ _ _ e (inl (omega (arith, h, c.if-q-n.true), refl, refl))

pub returns-else-q-n : goal.returns-else-q-n
returns-else-q-n c =
    let h = c.requires in
    λ f e t. threads_by f _ _ _ _ _ t h.1 (omega (arith, h)) _ _ _ e (inr (omega (arith, c.if-q-n.false), refl, refl))
