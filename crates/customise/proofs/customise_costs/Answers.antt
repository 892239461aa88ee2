-- `customise_costs` meets its contract: the arcs below m have been laid. Assumes nothing.
use Rattle.std.proofs.Common.{◌≡◌, length, replicate, rules, sym}
use Rattle.rules.specs.Costs.{closed}
use Rattle.rules.specs.Hierarchy.{edge_costs}
use Rattle.theory.proofs.Rows.{count_is}
use Rattle.customise.proofs.Laying.{laying_start, laying_lists, laying_fits, laying_more, laying_all, room_same}
use Rattle.customise.proofs.customise_costs.Goals as goal

pub loop-m-init : goal.loop-m-init
loop-m-init c =
    let up : c.fill.new.self ≡ replicate (length c.args.up.now) closed = search rules in
    let down : c.fill-2.new.self ≡ replicate (length c.args.down.now) closed = search rules in
    laying_start c.requires (edge_costs c.fill.new.self c.fill-2.new.self) up down

pub lay_arc-requires : goal.lay_arc-requires
lay_arc-requires c = laying_fits c.requires c.loop-m.invariant c.loop-m-test.true

pub loop-m-preserved : goal.loop-m-preserved
loop-m-preserved c = laying_more c.requires c.loop-m.invariant c.loop-m-test.true c.lay_arc.ensures

pub lower_all-requires : goal.lower_all-requires
lower_all-requires c = (laying_lists c.requires c.loop-m.invariant, sym (count_is c.requires.rows_of))

pub returns : goal.returns
returns c =
    let up : c.fill.new.self ≡ replicate (length c.args.up.now) closed = search rules in
    let down : c.fill-2.new.self ≡ replicate (length c.args.down.now) closed = search rules in
    room_same c.requires (edge_costs c.fill.new.self c.fill-2.new.self) up down (laying_all c.requires c.loop-m.invariant c.loop-m-test.false c.lower_all.ensures)
