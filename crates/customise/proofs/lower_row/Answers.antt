-- `lower_row` meets its contract: the rows that are past x have made their offers, the others wait from k on. Assumes nothing.
use Rattle.std.proofs.Common.{ℕ, suc, ◌-◌, ◌<◌, ◌≡◌, arith, refl}
use Rattle.rules.specs.Hierarchy.{edge_costs}
use Rattle.turns.proofs.Waiting.{turn_of, met_low, met_first, met_turn, met_moves, met_waits, met_passed, met_less, passed_begun}
use Rattle.turns.proofs.Kept.{lists_kept}
use Rattle.customise.proofs.Spread.{spread_still}
use Rattle.customise.proofs.Turned.{walking_start, walking_end, met_beside, met_spread, met_walks}
use Rattle.customise.proofs.lower_row.Goals as goal

-- the row that is met next is the one before k
next : {k : ℕ} → 0 < k → k ≡ suc (k - 1)
next l = omega arith

pub loop-k-init : goal.loop-k-init
loop-k-init c =
    let p = c.requires in
    let U = turn_of p.lists p.within in
    record {
      low = met_low U p.waits;
      walked = walking_start U (edge_costs c.args.up.now c.args.down.now) p.passed;
      waits = p.waits;
      passed = passed_begun p.passed;
      spread = p.spread;
    }

pub queue_row-requires : goal.queue_row-requires
queue_row-requires c = met_turn (turn_of c.requires.lists c.requires.within) c.loop-k.invariant.waits _ _ (next c.loop-k-test.true) refl

pub lower_over-requires : goal.lower_over-requires
lower_over-requires c =
    let p = c.requires in
    let U = turn_of p.lists p.within in
    let I = c.loop-k.invariant in
    let e = next c.loop-k-test.true in
    let s = met_moves U I.waits _ _ e refl (omega arith) c.queue_row.ensures.links c.queue_row.ensures.places in (
      met_beside U I.waits _ _ e refl (lists_kept p.lists I.walked.kept),
      met_spread U I.waits _ _ e refl (spread_still U (met_first U I.waits _ e).0 s I.spread),
    )

pub loop-k-smaller : goal.loop-k-smaller
loop-k-smaller c =
    let U = turn_of c.requires.lists c.requires.within in
    met_less U c.loop-k.invariant.waits _ _ (next c.loop-k-test.true) refl (omega arith) c.queue_row.ensures.links c.queue_row.ensures.places

pub loop-k-preserved : goal.loop-k-preserved
loop-k-preserved c =
    let U = turn_of c.requires.lists c.requires.within in
    let I = c.loop-k.invariant in
    let W = I.waits in
    let e = next c.loop-k-test.true in
    let q = c.queue_row.ensures in
    let s = met_moves U W _ _ e refl (omega arith) q.links q.places in
    let on = met_waits U W _ _ e refl (omega arith) q.links q.places refl in
    record {
      low = met_low U on;
      walked = met_walks U W _ _ e refl s I.walked c.lower_over.ensures;
      waits = on;
      passed = met_passed U W _ _ e refl s I.passed;
      spread = spread_still U (met_first U W _ e).0 s I.spread;
    }

pub returns : goal.returns
returns c =
    let I = c.loop-k.invariant in
    let W = I.waits in
    let e : c.loop-k.k ≡ 0 = omega (arith, c.loop-k-test.false) in
    record { turned = walking_end (turn_of c.requires.lists c.requires.within) W e I.walked; waits = rw e at W; passed = I.passed }
