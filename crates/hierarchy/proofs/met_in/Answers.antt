-- `met_in` meets its contract: what is left to meet is sought from `next` on, by a law for each entry that is looked at. Assumes nothing.
use Prim.Native.Nat.{◌+◌}
use mathlib.Core.Path.{◌≡◌, sym, ◌∙◌}
use borrow.Author.Tests.{eqb-true, eqb-false, ltb-true}
use native.Mathlib.Omega.{arith}
use lib.ListN.{get_or}
use Rattle.hierarchy.proofs.InOrder.{Met, sought_none, sought_miss, sought_hit, sought_end, met_all, met_some, met_hit, met_miss}
use Rattle.hierarchy.proofs.met_in.Goals as goal
use Rattle.hierarchy.proofs.met_in.Goals.{then-next-stop, else-next-stop, then-row_heads-next+else-end-at, else-row_heads-next+then-row_heads-next-3+else-end-at-2, else-row_heads-next+else-row_heads-next-3, then-row_heads-next-2, else-row_heads-next-2, Joined-row_heads-next-2, Then-row_heads-next-3}

-- two places on, where the first is wanted
two_on : (c : Joined-row_heads-next-2) → let a = c.args in
    Met a.row_heads.now a.k a.end a.j a.stop c.if-row_heads-next-2.at c.if-row_heads-next-2.want (c.loop-next.next + 1 + 1)
two_on c =
    let stops = c.requires.3 in
    let m = sought_hit c.loop-next.invariant stops (omega (arith, c.loop-next-test.true)) c.if-row_heads-next.true in
    elim c.if-row_heads-next-2.branch [
      | then-row_heads-next-2 w ↦ rw (w.at-is, w.want-is) (met_hit m stops c.loop-next-test.true w.if-row_heads-next-2.true)
      | else-row_heads-next-2 w ↦ rw (w.at-is, w.want-is) (met_miss m stops c.loop-next-test.true w.if-row_heads-next-2.false)
    ]

-- two places on, where the second is wanted
second_on : (c : Then-row_heads-next-3) → let a = c.args in
    Met a.row_heads.now a.k a.end a.j a.stop (c.loop-next.at + 1) (get_or a.row_heads.now (c.loop-next.at + 1) 0) (c.loop-next.next + 1 + 1)
second_on c =
    let stops = c.requires.3 in
    sought_hit (sought_miss c.loop-next.invariant stops (omega (arith, c.loop-next-test.true)) c.if-row_heads-next.false) stops c.loop-next-test.true c.if-row_heads-next-3.true

pub returns-then-end-at : goal.returns-then-end-at
returns-then-end-at c = met_all (two_on (goal.at.returns-then-end-at c).Joined-row_heads-next-2) c.if-end-at.true

pub returns-then-end-at-2 : goal.returns-then-end-at-2
returns-then-end-at-2 c = met_all (second_on (goal.at.returns-then-end-at-2 c).Then-row_heads-next-3) c.if-end-at-2.true

pub loop-next-preserved : goal.loop-next-preserved
loop-next-preserved c =
    let stops = c.requires.3 in
    let e : c.loop-next.next + 2 ≡ c.loop-next.next + 1 + 1 = omega arith in
    rw e
    (elim c.if-row_heads-next.branch [
      | then-row_heads-next+else-end-at w ↦
          let a = c.args in
          let m = sought_hit c.loop-next.invariant stops (omega (arith, c.loop-next-test.true)) w.if-row_heads-next.true in
          let two : Met a.row_heads.now a.k a.end a.j a.stop w.if-row_heads-next-2.at w.if-row_heads-next-2.want (c.loop-next.next + 1 + 1) =
          elim w.if-row_heads-next-2.branch [
            | then-row_heads-next-2 v ↦ rw (v.at-is, v.want-is) (met_hit m stops c.loop-next-test.true v.if-row_heads-next-2.true)
            | else-row_heads-next-2 v ↦ rw (v.at-is, v.want-is) (met_miss m stops c.loop-next-test.true v.if-row_heads-next-2.false)
          ]
          in rw (w.at-is, w.want-is) (met_some two w.if-end-at.false)
      | else-row_heads-next+then-row_heads-next-3+else-end-at-2 w ↦
          let second =
          sought_hit (sought_miss c.loop-next.invariant stops (omega (arith, c.loop-next-test.true)) w.if-row_heads-next.false) stops c.loop-next-test.true w.if-row_heads-next-3.true in
          rw (w.at-is, w.want-is) (met_some second w.if-end-at-2.false)
      | else-row_heads-next+else-row_heads-next-3 w ↦
          rw (w.at-is, w.want-is)
          (sought_miss (sought_miss c.loop-next.invariant stops (omega (arith, c.loop-next-test.true)) w.if-row_heads-next.false) stops c.loop-next-test.true w.if-row_heads-next-3.false)
    ])

pub returns-then-row_heads-next-4 : goal.returns-then-row_heads-next-4
returns-then-row_heads-next-4 c =
    let t = c.if-row_heads-next-4.true in
    elim c.if-next-stop.branch [
      | then-next-stop w ↦ sought_end c.loop-next.invariant c.requires.3 w.if-next-stop.true (omega (arith, c.loop-next-test.false)) (eqb-true _ _ (sym w.value-is ∙ t))
      | else-next-stop w ↦ absurd (omega (arith, ltb-true _ _ (sym w.value-is ∙ t), w.if-next-stop.false))
    ]

pub returns-else-row_heads-next-4 : goal.returns-else-row_heads-next-4
returns-else-row_heads-next-4 c =
    let f = c.if-row_heads-next-4.false in
    f ∙ (elim c.if-next-stop.branch [
      | then-next-stop w ↦
          sought_none (sought_miss c.loop-next.invariant c.requires.3 w.if-next-stop.true (eqb-false _ _ (sym w.value-is ∙ f))) c.requires.3 (omega (arith, c.loop-next-test.false))
      | else-next-stop w ↦ sought_none c.loop-next.invariant c.requires.3 w.if-next-stop.false
    ])
