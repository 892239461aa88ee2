-- `lower_all` meets its contract: the positions below x have had their turn, and their rows wait. Assumes nothing.
use Rattle.std.proofs.Common.{arith, refl}
use Rattle.rules.specs.Hierarchy.{edge_costs}
use Rattle.rules.specs.Lent.{lent_graph}
use Rattle.turns.proofs.Waiting.{turn_of, turn_queue}
use Rattle.turns.proofs.Kept.{lists_kept}
use Rattle.customise.proofs.Turned.{turning_start, turning_spread, turning_more, turning_all}
use Rattle.customise.proofs.lower_all.Goals as goal

pub loop-x-init : goal.loop-x-init
loop-x-init c =
    let a = c.args in let w = c.new-waits.ensures in turning_start (lent_graph a.graph.now) (edge_costs a.up.now a.down.now) w.links w.places

pub spread_row-requires : goal.spread_row-requires
spread_row-requires c = turn_of c.requires.0 (omega (arith, c.requires.1, c.loop-x-test.true))

pub lower_row-requires : goal.lower_row-requires
lower_row-requires c =
    let (L, e) = c.requires in
    let S = c.loop-x.invariant in
    let (P, W, B) = turning_spread S c.spread_row.ensures in
    record { lists = lists_kept L S.turned.kept; within = omega (arith, e, c.loop-x-test.true); spread = P; waits = W; passed = B }

pub queue_row-requires : goal.queue_row-requires
queue_row-requires c = turn_queue (turn_of c.requires.0 (omega (arith, c.requires.1, c.loop-x-test.true))) refl

pub loop-x-preserved : goal.loop-x-preserved
loop-x-preserved c =
    let r = c.lower_row.ensures in
    let q = c.queue_row.ensures in
    turning_more c.loop-x.invariant (turn_of c.requires.0 (omega (arith, c.requires.1, c.loop-x-test.true))) (r.turned, r.waits, r.passed) refl
    (q.links, q.places)

pub returns : goal.returns
returns c = turning_all c.loop-x.invariant c.requires.1 c.loop-x-test.false
