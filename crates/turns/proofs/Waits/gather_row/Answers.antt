-- `gather_row` meets its contract: the rows noted are past x, the others wait from k on. Assumes nothing.
use Rattle.std.proofs.Common.{ℕ, suc, ◌-◌, ◌<◌, ◌≡◌, arith, rules, refl}
use Rattle.turns.proofs.Waiting.{met_low, met_turn, met_next, met_waits, met_less}
use Rattle.turns.proofs.Meeting.{meeting_start, meeting_more, meeting_end}
use Rattle.turns.proofs.Waits.gather_row.Goals as goal

-- the row that is met next is the one before k
next : {k : ℕ} → 0 < k → k ≡ suc (k - 1)
next l = omega arith

pub loop-k-init : goal.loop-k-init
loop-k-init c =
    let (U, W) = c.requires in
    record { low = met_low U W; met = meeting_start c.args.self.now.places (search rules) (search rules); waits = W }

pub wait_at-requires : goal.wait_at-requires
wait_at-requires c =
    let (v, a, b) = met_turn c.requires.0 c.loop-k.invariant.waits _ _ (next c.loop-k-test.true) refl in
    (omega (arith, v.rows.long, v.under), b)

pub queue_row-requires : goal.queue_row-requires
queue_row-requires c =
    let e = next c.loop-k-test.true in
    let (v, a, b) = met_turn c.requires.0 c.loop-k.invariant.waits _ _ e refl in
    let (i, h, over) = met_next c.requires.0 c.loop-k.invariant.waits _ _ e refl c.wait_at.ensures in
    (v, omega arith, h)

pub loop-k-smaller : goal.loop-k-smaller
loop-k-smaller c =
    let (U, W0) = c.requires in
    let W = c.loop-k.invariant.waits in
    let e = next c.loop-k-test.true in
    met_less U W _ _ e refl (met_next U W _ _ e refl c.wait_at.ensures).0 c.queue_row.ensures.links c.queue_row.ensures.places

pub loop-k-preserved : goal.loop-k-preserved
loop-k-preserved c =
    let (U, W0) = c.requires in
    let W = c.loop-k.invariant.waits in
    let e = next c.loop-k-test.true in
    let q = c.queue_row.ensures in
    let on = met_waits U W _ _ e refl (met_next U W _ _ e refl c.wait_at.ensures).0 q.links q.places refl in
    record {
      low = met_low U on;
      met = meeting_more U c.loop-k.invariant.met W _ _ _ e refl c.wait_at.ensures (q.links, q.places) refl refl;
      waits = on;
    }

pub returns : goal.returns
returns c =
    let e : c.loop-k.k ≡ 0 = omega (arith, c.loop-k-test.false) in
    let W = c.loop-k.invariant.waits in
    record { waits = rw e at W; gathered = meeting_end c.requires.0 c.loop-k.invariant.met W e }
