-- `distance` meets its promise. Assumes nothing.
use mathlib.Core.Path.{sym}
use native.Mathlib.Omega.{arith}
use Rattle.theory.proofs.Accepted.{asked}
use Rattle.std.proofs.lemmas.Result.{err_from_is_err_and}
use Rattle.griezmuld.proofs.Calls.{distance_refused, distance_none, distance_told}
use Rattle.rules.specs.Graph.{graph}
use Rattle.rules.specs.Hierarchy.{edge_costs}
use Rattle.griezmuld.proofs.distance.Goals as goal

pub returns-in_err-check_distance : goal.returns-in_err-check_distance
returns-in_err-check_distance c =
    let a = c.args in
    let (why, e, f) = err_from_is_err_and c.from_residual.result c.from_residual.ensures.1 in
    rw (e, f)
    (distance_refused a.order.now a.rank.now (graph a.first.now a.row_heads.now) (edge_costs a.up.now a.down.now) a.from.0 a.to.0 _ _
    (sym c.in_err-check_distance.ensures))

pub position_of-s-requires : goal.position_of-s-requires
position_of-s-requires c = let a = c.args in let q = asked a.order.now a.rank.now (graph a.first.now a.row_heads.now) (edge_costs a.up.now a.down.now) a.from.0 a.to.0 (sym c.in_ok-check_distance.ensures) in omega (arith, q.start, q.ranks.long)

pub position_of-t-requires : goal.position_of-t-requires
position_of-t-requires c = let a = c.args in let q = asked a.order.now a.rank.now (graph a.first.now a.row_heads.now) (edge_costs a.up.now a.down.now) a.from.0 a.to.0 (sym c.in_ok-check_distance.ensures) in omega (arith, q.target, q.ranks.long)

pub ask-d-requires : goal.ask-d-requires
ask-d-requires c = let a = c.args in let q = asked a.order.now a.rank.now (graph a.first.now a.row_heads.now) (edge_costs a.up.now a.down.now) a.from.0 a.to.0 (sym c.in_ok-check_distance.ensures) in (q.lists, omega (arith, q.size, c.position_of-s.ensures, q.ranks.position a.from.0 q.start), omega (arith, q.size, c.position_of-t.ensures, q.ranks.position a.to.0 q.target))

pub returns-then-d : goal.returns-then-d
returns-then-d c = let a = c.args in let e = (sym c.in_ok-check_distance.ensures) in distance_none a.order.now a.rank.now (graph a.first.now a.row_heads.now) (edge_costs a.up.now a.down.now) a.from.0 a.to.0 e c.ask-d.result _ _ _ c.ask-d.ensures (asked a.order.now a.rank.now (graph a.first.now a.row_heads.now) (edge_costs a.up.now a.down.now) a.from.0 a.to.0 e).size c.position_of-s.ensures c.position_of-t.ensures c.if-d.true

pub returns : goal.returns
returns c = let a = c.args in let e = (sym c.in_ok-check_distance.ensures) in distance_told a.order.now a.rank.now (graph a.first.now a.row_heads.now) (edge_costs a.up.now a.down.now) a.from.0 a.to.0 e c.ask-d.result _ _ _ c.ask-d.ensures (asked a.order.now a.rank.now (graph a.first.now a.row_heads.now) (edge_costs a.up.now a.down.now) a.from.0 a.to.0 e).size c.position_of-s.ensures c.position_of-t.ensures c.if-d.false
