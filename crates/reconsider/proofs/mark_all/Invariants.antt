-- `mark_all` meets its contract: what stands there is marked place by place. Assumes nothing.
use Rattle.std.proofs.Common.{◌+◌, true}
use Rattle.reconsider.specs.Marks.{MarkedOf}
use Rattle.reconsider.proofs.mark_all.Given as goal

abbrev pub invariant-loop-y : goal.invariant-loop-y
invariant-loop-y l = MarkedOf l.row_heads (λ k. true) l.from (l.from + l.y-index) l.initial.marks l.marks
