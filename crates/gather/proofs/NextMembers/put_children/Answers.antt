-- `put_children` meets its contract. The loop's invariant: the rows of p's children from k on have been put in; the walk ends since threads lead
-- down. Assumes nothing.
use Rattle.std.proofs.Common.{arith, refl}
use Rattle.gather.proofs.Walking.{walking_start, walking_end}
use Rattle.gather.proofs.WithChildren.{child_bounds, child_part, child_falls, child_more}
use Rattle.gather.proofs.NextMembers.put_children.Goals as goal

pub loop-k-init : goal.loop-k-init
loop-k-init c = walking_start (c.requires.2.lasts _ c.requires.1)

pub slice_bounds-put_all-count : goal.slice_bounds-put_all-count
slice_bounds-put_all-count c =
    let h = c.requires in
    omega (arith, child_bounds h.0 h.1 h.2 c.loop-k.invariant c.loop-k-test.true c.places-row.ensures.start c.places-row.ensures.end)

pub slice_bounds-put_all-start : goal.slice_bounds-put_all-start
slice_bounds-put_all-start c =
    let h = c.requires in
    omega (arith, child_bounds h.0 h.1 h.2 c.loop-k.invariant c.loop-k-test.true c.places-row.ensures.start c.places-row.ensures.end)

pub put_all-requires : goal.put_all-requires
put_all-requires c =
    let h = c.requires in
    child_part h.0 h.1 h.2 c.loop-k.invariant c.loop-k-test.true c.places-row.ensures.start c.places-row.ensures.end

pub loop-k-smaller : goal.loop-k-smaller
loop-k-smaller c =
    let h = c.requires in
    child_falls h.0 h.1 h.2 c.loop-k.invariant c.loop-k-test.true

pub loop-k-preserved : goal.loop-k-preserved
loop-k-preserved c =
    let h = c.requires in
    child_more h.0 h.1 h.2 c.loop-k.invariant c.loop-k-test.true c.places-row.ensures.start c.places-row.ensures.end _ _ refl c.put_all.ensures

pub returns : goal.returns
returns c = walking_end c.loop-k.invariant c.loop-k-test.false
