-- `turn` meets its contract: nothing is reconsidered, or what is marked is looked at, settled and no longer marked. Assumes nothing.
use Rattle.theory.proofs.Words.{true_holds}
use Rattle.turns.proofs.Waiting.{turn_of}
use Rattle.reconsider.specs.Marks.{says}
use Rattle.change.proofs.Turned.{hi_seat, stepped_off, stepped_idle, stepped_more}
use Rattle.change.proofs.turn.Goals as goal

pub returns-then-not-on-x : goal.returns-then-not-on-x
returns-then-not-on-x c =
    let p = c.requires in
    let (s, r) = stepped_off p.0 p.1 p.2 c.if-not-on-x.true p.5 in
    record { stepped = s; ready = r }

pub mark_own-requires : goal.mark_own-requires
mark_own-requires c = let p = c.requires in hi_seat p.0 p.1

pub mark_row-requires : goal.mark_row-requires
mark_row-requires c =
    let p = c.requires in
    (turn_of p.0.lists p.1, p.0.flags_long, p.5.dirt, p.3, p.4 (true_holds (says c.args.on.now c.args.x) c.if-not-on-x.false))

pub lay_row-requires : goal.lay_row-requires
lay_row-requires c = let p = c.requires in (turn_of p.0.lists p.1, p.0.size_is, p.0.roads, p.5.seats, p.5.todo_long)

pub returns-then-todo-eq0 : goal.returns-then-todo-eq0
returns-then-todo-eq0 c =
    let p = c.requires in
    let (s, r) = stepped_idle p.0 p.1 p.5 c.mark_own.ensures c.mark_row.ensures c.lay_row.ensures c.if-todo-eq0.true in
    record { stepped = s; ready = r }

pub look_row-seen-requires : goal.look_row-seen-requires
look_row-seen-requires c =
    let p = c.requires in
    (p.0.lists, p.1, p.3, p.4 (true_holds (says c.args.on.now c.args.x) c.if-not-on-x.false), c.lay_row.ensures.seats, p.6)

pub settle_row-requires : goal.settle_row-requires
settle_row-requires c =
    let p = c.requires in
    (p.0.lists, p.1, p.0.flags_long, c.lay_row.ensures.listed)

pub returns : goal.returns
returns c =
    let p = c.requires in
    let (s, r) =
    stepped_more p.0 p.1 p.5 c.mark_own.ensures c.mark_row.ensures c.lay_row.ensures c.look_row-seen.ensures c.settle_row.ensures.settled
    c.settle_row.ensures.cleared c.settle_row.ensures.noted in
    record { stepped = s; ready = r }
