-- `put_arcs` meets its contract. The loop's invariant: whatever arcs are threaded, those of p from k on have been put in; the walk ends since threads
-- lead down. Assumes nothing.
use Rattle.std.proofs.Common.{arith, refl, ap, inl, inr}
use Rattle.std.proofs.lemmas.Grind.{common_steps}
use Rattle.gather.proofs.Walking.{walking_start, walking_end}
use Rattle.gather.proofs.Arcs.{arc_falls, arc_more}
use Rattle.gather.proofs.NextMembers.put_arcs.Goals as goal
use Rattle.gather.proofs.NextMembers.put_arcs.Goals.{then-lt, else-lt}

pub loop-k-init : goal.loop-k-init
loop-k-init g c = λ R A. walking_start (A.threads.lasts _ (omega (arith, c.requires)))

pub loop-k-smaller : goal.loop-k-smaller
loop-k-smaller g c =
    let (R, A) = c.requires.0 in
    arc_falls A c.requires.2 (c.loop-k.invariant R A) c.requires.1 c.loop-k-test.true

pub loop-k-preserved : goal.loop-k-preserved
loop-k-preserved g c =
    λ R A.
    arc_more A c.requires.2 (c.loop-k.invariant R A) c.requires.1 c.loop-k-test.true _ _ _ refl refl
    (elim c.if-lt.branch [
      | then-lt w ↦ inl (let e = w.if-lt.true in grind (arith, common_steps), rw w.self-is w.put.ensures.0)
      | else-lt w ↦ inr (let e = w.if-lt.false in grind (arith, common_steps), ap (λ s. s.after) w.self-is)
    ])

pub returns : goal.returns
returns g c = λ R A. walking_end (c.loop-k.invariant R A) c.loop-k-test.false
