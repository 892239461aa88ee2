-- `next` meets its contract. Assumes nothing.
use Rattle.std.proofs.Common.{rules, ap, length}
use Rattle.text.proofs.Cuts.{parts_behind}
use Rattle.text.proofs.PartsIterator.next.Goals as goal

pub returns-clause-steps : goal.returns-clause-steps
returns-clause-steps c = rw (c.in_ok-rest.was) (parts_behind _ _ _ _ c.find-end.ensures c.get-self.ensures.lookup)

pub returns-clause-goes : goal.returns-clause-goes
returns-clause-goes c = let h = ap length (returns-clause-steps c) in search rules
