-- `find_line` meets its contract: the lines before those that are left are passed by and counted. Assumes nothing.
use Rattle.std.proofs.Common.{sym, ◌∙◌}
use Rattle.fault.proofs.Places.{walks_none, walks_last, walks_found, walks_few}
use Rattle.fault.proofs.find_line.Goals as goal
use Rattle.fault.proofs.find_line.Goals.{then-not-ended-via-then-not-ended, then-not-ended-via-else-not-ended+then-is_sought}

pub loop-bytes-init : goal.loop-bytes-init
loop-bytes-init c = rw c.new-before.ensures (walks_none _ _ _ c.new-lines.ensures)

pub returns-then-not-ended : goal.returns-then-not-ended
returns-then-not-ended c =
    let l = c.loop-bytes in
    let steps = c.in-Some.ensures.steps in
    elim c.then-not-ended.branch [
      | then-not-ended-via-then-not-ended w ↦
          rw w.if-not-ended.true (walks_last _ _ _ _ _ l.invariant _ _ steps (sym w.if-not-ended.ensures))
      | then-not-ended-via-else-not-ended+then-is_sought w ↦
          rw w.if-not-ended.false
          (walks_found _ _ _ _ _ l.invariant _ _ steps (sym w.if-not-ended.ensures)
          (sym (rw c.read_line-line.ensures at w.is_sought.ensures) ∙ w.if-is_sought.true))
    ]

pub count_line-before-requires : goal.count_line-before-requires
count_line-before-requires c =
    walks_few _ _ _ _ _ c.loop-bytes.invariant _ _ c.in-Some.ensures.steps (sym c.if-not-ended.ensures) c.requires
