-- `words_fault` meets its contract. Assumes nothing.
use Rattle.std.proofs.Common.{rules, ◌≡◌, sym, ◌∙◌}
use Rattle.cause.proofs.LineFault.{first_letter, no_form, words_right, words_off}
use Rattle.cause.proofs.words_fault.Goals as goal

pub returns-in_default : goal.returns-in_default
returns-in_default c =
    let e : c.and_then.result ≡ first_letter c.next.result = search rules in
    no_form _ _ _ c.next.result (rw c.new-words.ensures at c.next.ensures.steps) (sym e ∙ c.in_default.is)

pub returns-in-Ok : goal.returns-in-Ok
returns-in-Ok c =
    let e : c.and_then.result ≡ first_letter c.next.result = search rules in
    rw c.place_fault.ensures
    (words_right _ _ _ c.next.result _ (rw c.new-words.ensures at c.next.ensures.steps) (sym e ∙ c.in-Some.is) c.in-Ok.ensures)

pub returns-in-Err : goal.returns-in-Err
returns-in-Err c =
    let e : c.and_then.result ≡ first_letter c.next.result = search rules in
    words_off _ _ _ c.next.result _ _ (rw c.new-words.ensures at c.next.ensures.steps) (sym e ∙ c.in-Some.is) c.in-Err.ensures
