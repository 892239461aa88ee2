-- `lay_row` meets its contract: the marked edges before place k are listed and have their roads. Assumes nothing.
use Rattle.std.proofs.Common.{arith, refl}
use Rattle.rules.specs.Lent.{lent_graph}
use Rattle.theory.specs.Rows.{InRow}
use Rattle.theory.proofs.Rows.{in_row_i}
use Rattle.change.proofs.Walked.{row_reads}
use Rattle.change.proofs.Laid.{row_small, listing_room, laying_start, laying_past, laying_more, laying_all, laying_ends}
use Rattle.roads.proofs.OfNet.{roads_in}
use Rattle.change.proofs.lay_row.Goals as goal
use Rattle.change.proofs.lay_row.Goals.{In-loop-k, then-marks-y, else-marks-y}

-- place k is one of the row
here : (c : In-loop-k) → InRow (lent_graph c.args.shift.now.graph) c.args.x c.loop-k.k
here c = in_row_i (lent_graph c.args.shift.now.graph) c.args.x c.loop-k.k (omega arith) (omega arith)

pub loop-k-init : goal.loop-k-init
loop-k-init c = laying_start c.requires.3 c.requires.4

pub bounds-shift-k : goal.bounds-shift-k
bounds-shift-k c = (row_reads c.requires.0 (here (goal.at.bounds-shift-k c).In-loop-k)).0

pub bounds-marks-y : goal.bounds-marks-y
bounds-marks-y c = omega (arith, (row_reads c.requires.0 (here (goal.at.bounds-marks-y c).In-loop-k)).1)

pub road_cost-requires : goal.road_cost-requires
road_cost-requires c =
    let p = c.requires in
    let (a, b, n, m) = laying_ends p.0 (here (goal.at.road_cost-requires c).In-loop-k) p.1 in (roads_in p.2, a, b, n)

pub road_cost-requires-then-marks-y : goal.road_cost-requires-then-marks-y
road_cost-requires-then-marks-y c =
    let p = c.requires in
    let (a, b, n, m) = laying_ends p.0 (here (goal.at.road_cost-requires-then-marks-y c).In-loop-k) p.1 in (roads_in p.2, b, a, m)

pub note-requires : goal.note-requires
note-requires c =
    let r = here (goal.at.note-requires c).In-loop-k in
    (listing_room c.loop-k.invariant.listing c.requires.0 r, omega (arith, row_small c.requires.0 r))

pub loop-k-preserved : goal.loop-k-preserved
loop-k-preserved c =
    let L = c.loop-k.invariant in
    let r = here (goal.at.loop-k-preserved c).In-loop-k in
    elim c.if-marks-y.branch [
      | then-marks-y w ↦
          rw (w.row-is, w.todo-is, w.note.ensures.count)
          (laying_more L c.requires.0 r w.if-marks-y.true refl (w.road_cost.ensures _ c.requires.2.by_tail) (w.road_cost-then-marks-y.ensures _ c.requires.2.by_tail) w.note.ensures.places)
      | else-marks-y w ↦ rw (w.row-is, w.todo-is) (laying_past L w.if-marks-y.false)
    ]

pub returns : goal.returns
returns c = laying_all c.loop-k.invariant c.loop-k-test.false
