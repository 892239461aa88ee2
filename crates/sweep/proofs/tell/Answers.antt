-- `tell` meets its contract: the junctions before j are told. Assumes nothing.
use Rattle.std.proofs.Common.{rules, sym, ◌≡◌, ◌∙◌, length, replicate}
use Rattle.rules.specs.Costs.{closed}
use Rattle.theory.proofs.Words.{true_holds}
use Rattle.sweep.proofs.Told.{told_far, told_all}
use Rattle.sweep.proofs.tell.Goals as goal

pub returns-then-is_too_far : goal.returns-then-is_too_far
returns-then-is_too_far c =
    let full : c.fill.new.self ≡ replicate (length c.loop-j.distances) closed = search rules in
    told_far c.loop-j.invariant _ c.loop-j-test.true (true_holds _ (sym c.is_too_far.ensures ∙ c.if-is_too_far.true)) full

pub returns : goal.returns
returns c = told_all c.loop-j.invariant c.loop-j-test.false
