-- `has_empty_word` meets its contract. Assumes nothing.
use Rattle.std.proofs.Common.{rules, eqb, length, tests}
use Rattle.std.proofs.lemmas.Iterator.Search.{any_from_yields_List}
use Rattle.std.proofs.lemmas.Iterator.Consumers.{YieldsList-from_first}
use Rattle.text.specs.ReadBack.{parts_left}
use Rattle.cause.specs.Causes.{any_empty}
use Rattle.cause.proofs.has_empty_word.Goals as goal

pub returns : goal.returns
unfolding any_empty
returns c =
    any_from_yields_List (λ w. eqb (length w) 0) _ _ _ c.any.ensures.ran
    (YieldsList-from_first (λ x. x.now) parts_left _ c.new.ensures) (λ x b q k. search (rules, tests))
