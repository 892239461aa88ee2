-- `change_costs` meets its contract: nothing is to be done where no road changes, or else the change of the one between the arc's ends is
-- carried. Assumes nothing.
use Rattle.std.proofs.Common.{refl, sym, ◌∙◌, ℕ}
use lib.ListN.{length-replicate}
use Rattle.std.proofs.Math.ListN.{length-set}
use borrow.Author.Tests.{eqb-true, eqb-false}
use Rattle.roads.proofs.OfNet.{tails_in, roads_of, roads_in, roads_with}
use Rattle.change.proofs.Change.{seated, left_loop, left_same, carriage, carried}
use Rattle.change.proofs.change_costs.Goals as goal

pub returns-then-eq : goal.returns-then-eq
returns-then-eq c =
    let (l, n) = left_loop c.requires.0 c.args.cost.0 c.requires.1 c.position_of-a.ensures c.position_of-b.ensures (eqb-true c.position_of-a.result.0 c.position_of-b.result.0 (sym c.eq.ensures ∙ c.if-eq.true)) in
    record { listed = refl; changed = l; counted = n }

pub thread-requires : goal.thread-requires
thread-requires c = (tails_in c.requires.0, c.requires.0.fit, refl, length-replicate {A = ℕ} 16384 0)

pub road_cost-before-requires : goal.road_cost-before-requires
road_cost-before-requires c =
    let (u, v) = seated c.requires.0 c.args.cost.0 c.requires.1 c.position_of-a.ensures c.position_of-b.ensures in
    (roads_in (roads_of c.requires.0 c.thread.ensures), u, v, eqb-false c.position_of-a.result.0 c.position_of-b.result.0 (sym c.eq.ensures ∙ c.if-eq.false))

pub road_cost-after-requires : goal.road_cost-after-requires
road_cost-after-requires c =
    let a = c.args in
    let (u, v) = seated c.requires.0 a.cost.0 c.requires.1 c.position_of-a.ensures c.position_of-b.ensures in
    (roads_in (roads_with (roads_of c.requires.0 c.thread.ensures) (length-set a.costs.now a.arc a.cost.0)), u, v, eqb-false c.position_of-a.result.0 c.position_of-b.result.0 (sym c.eq.ensures ∙ c.if-eq.false))

pub returns-then-eq-2 : goal.returns-then-eq-2
returns-then-eq-2 c =
    let was = roads_of c.requires.0 c.thread.ensures in
    let is = roads_with was (length-set c.args.costs.now c.args.arc c.args.cost.0) in
    let (l, n) =
    left_same c.requires.0 c.args.cost.0 c.requires.1 c.position_of-a.ensures c.position_of-b.ensures
    (sym (c.road_cost-before.ensures _ was.by_tail) ∙ eqb-true c.road_cost-before.result.0 c.road_cost-after.result.0 (sym c.eq-2.ensures ∙ c.if-eq-2.true) ∙ (c.road_cost-after.ensures _ is.by_tail)) in
    record { listed = refl; changed = l; counted = n }

pub carry_all-requires : goal.carry_all-requires
carry_all-requires c =
    let was = roads_of c.requires.0 c.thread.ensures in
    let is = roads_with was (length-set c.args.costs.now c.args.arc c.args.cost.0) in
    let a = c.args in
    carriage c.requires.0 a.cost.0 c.requires.1 c.position_of-a.ensures c.position_of-b.ensures
    (λ e. eqb-false c.road_cost-before.result.0 c.road_cost-after.result.0 (sym c.eq-2.ensures ∙ c.if-eq-2.false) ((c.road_cost-before.ensures _ was.by_tail) ∙ e ∙ sym (c.road_cost-after.ensures _ is.by_tail))) c.min.ensures c.max.ensures
    (roads_with (roads_of c.requires.0 c.thread.ensures) (length-set a.costs.now a.arc a.cost.0))

pub returns : goal.returns
returns c =
    let was = roads_of c.requires.0 c.thread.ensures in
    let is = roads_with was (length-set c.args.costs.now c.args.arc c.args.cost.0) in
    let (l, n) =
    carried c.requires.0 c.args.cost.0 c.requires.1 c.position_of-a.ensures c.position_of-b.ensures
    (λ e. eqb-false c.road_cost-before.result.0 c.road_cost-after.result.0 (sym c.eq-2.ensures ∙ c.if-eq-2.false) ((c.road_cost-before.ensures _ was.by_tail) ∙ e ∙ sym (c.road_cost-after.ensures _ is.by_tail))) c.min.ensures c.max.ensures c.requires.2
    c.carry_all.ensures in
    record { listed = refl; changed = l; counted = n }
