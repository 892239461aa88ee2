-- `look_over` meets its contract: four places at a time, and then what is left of the row. Assumes nothing.
use native.Mathlib.Omega.{arith}
use Rattle.turns.proofs.Stretches.{stretch_part}
use Rattle.look.proofs.Looked.{costed_part, looked_none, looked_few, looked_join, row_laid}
use Rattle.look.proofs.look_over.Goals as goal

pub bounds-costs-i : goal.bounds-costs-i
bounds-costs-i c = let (l, S, K) = row_laid c.requires.0 c.requires.1 c.requires.2 in omega (arith, K.up_in)

pub bounds-costs-i-2 : goal.bounds-costs-i-2
bounds-costs-i-2 c = let (l, S, K) = row_laid c.requires.0 c.requires.1 c.requires.2 in omega (arith, K.down_in)

pub overflow_add-j : goal.overflow_add-j
overflow_add-j c = let (l, S, K) = row_laid c.requires.0 c.requires.1 c.requires.2 in omega (arith, K.down_in)

pub loop-j-init : goal.loop-j-init
loop-j-init c =
    let p = c.requires in
    record { from = omega arith; within = omega (arith, (row_laid p.0 p.1 p.2).0); looked = looked_none p.3 (λ k h l t. omega arith) }

pub overflow_add-j-in-loop-j : goal.overflow_add-j-in-loop-j
overflow_add-j-in-loop-j c = let (l, S, K) = row_laid c.requires.0 c.requires.1 c.requires.2 in omega (arith, c.loop-j.invariant.within, K.down_in)

pub look_two-seen-requires : goal.look_two-seen-requires
look_two-seen-requires c =
    let v = c.loop-j.invariant in
    let L = v.looked in
    let (g, S, K) = row_laid c.requires.0 c.requires.1 c.requires.2 in
    let j+3<end = c.loop-j-test.true in
    (stretch_part S v.from (omega arith), costed_part K (omega arith), L.seats, omega (arith, looked_few L))

pub look_two-seen-requires-in-loop-j : goal.look_two-seen-requires-in-loop-j
look_two-seen-requires-in-loop-j c =
    let v = c.loop-j.invariant in
    let L = v.looked in
    let (g, S, K) = row_laid c.requires.0 c.requires.1 c.requires.2 in
    let j+3<end = c.loop-j-test.true in
    let M = looked_join (stretch_part S (omega arith) (omega arith)) v.from (omega arith) L c.look_two-seen.ensures in
    (stretch_part S (omega arith) (omega arith), costed_part K (omega arith), M.seats, omega (arith, c.requires.4, looked_few M))

pub loop-j-preserved : goal.loop-j-preserved
loop-j-preserved c =
    let v = c.loop-j.invariant in
    let L = v.looked in
    let (g, S, K) = row_laid c.requires.0 c.requires.1 c.requires.2 in
    let j+3<end = c.loop-j-test.true in
    let M = looked_join (stretch_part S (omega arith) (omega arith)) v.from (omega arith) L c.look_two-seen.ensures in
    record {
      from = omega arith;
      within = omega arith;
      looked = looked_join (stretch_part S (omega arith) (omega arith)) (omega arith) (omega arith) M c.look_two-seen-in-loop-j.ensures;
    }

pub look_rest-requires : goal.look_rest-requires
look_rest-requires c =
    let v = c.loop-j.invariant in
    let L = v.looked in
    let (g, S, K) = row_laid c.requires.0 c.requires.1 c.requires.2 in
    (v.within, stretch_part S v.from (omega arith), K, L.seats, omega (arith, looked_few L))

pub returns : goal.returns
returns c =
    let v = c.loop-j.invariant in
    let L = v.looked in
    let (g, S, K) = row_laid c.requires.0 c.requires.1 c.requires.2 in
    looked_join S v.from v.within L c.look_rest.ensures
