-- `carry` meets its contract: the positions below x have had their turn, up to the highest that the change can reach. Assumes nothing.
use Rattle.std.proofs.Common.{arith, refl, ℕ, Bool, false, replicate}
use Rattle.change.proofs.Carried.{noes_clear, lo_turn, carrying_start, carrying_carriage, carrying_turn, carrying_met, carrying_full, carrying_wait, carrying_queue, carrying_more, carrying_end}
use Rattle.change.proofs.carry.Goals as goal

pub mark_chain-requires : goal.mark_chain-requires
mark_chain-requires c = (lo_turn c.requires.0, noes_clear (replicate {A = Bool} 4096 false) refl)

pub loop-x-init : goal.loop-x-init
loop-x-init c =
    let w = c.new-waits.ensures in
    carrying_start c.requires.0 (replicate {A = ℕ} 4096 0) (replicate {A = Bool} 4096 false) refl refl w.links w.places c.mark_chain.ensures refl c.requires.1

pub turn-seen-requires : goal.turn-seen-requires
turn-seen-requires c =
    let A = c.requires.0 in
    let K = c.loop-x.invariant in
    let U = carrying_turn A K c.loop-x-test.true in
    let (M, all) = carrying_met A K c.loop-x-test.true c.gather_row.ensures.gathered in
    (carrying_carriage A K, U.under, K.reaches, M, all, K.ready, omega (arith, K.small, U.under, U.few))

pub reach_from-reach-requires : goal.reach_from-reach-requires
reach_from-reach-requires c =
    let A = c.requires.0 in
    let K = c.loop-x.invariant in
    (carrying_turn A K c.loop-x-test.true, K.under, carrying_full A K c.turn-seen.ensures.stepped)

pub wait_at-i-requires : goal.wait_at-i-requires
wait_at-i-requires c = carrying_wait (carrying_turn c.requires.0 c.loop-x.invariant c.loop-x-test.true) c.begin_row.ensures

pub queue_row-requires : goal.queue_row-requires
queue_row-requires c =
    carrying_queue c.requires.0 c.loop-x.invariant c.loop-x-test.true c.begin_row.ensures c.wait_at-i.ensures

pub loop-x-preserved : goal.loop-x-preserved
loop-x-preserved c =
    let g = c.gather_row.ensures in
    let t = c.turn-seen.ensures in
    let q = c.queue_row.ensures in
    carrying_more c.requires.0 c.loop-x.invariant c.loop-x-test.true g.waits g.gathered t.stepped t.ready c.reach_from-reach.ensures c.begin_row.ensures
    c.wait_at-i.ensures q.links q.places

pub returns : goal.returns
returns c = carrying_end c.requires.0 c.loop-x.invariant c.loop-x-test.false
