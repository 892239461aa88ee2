-- The last digit stands behind the others, if there are any. Assumes nothing.
use Rattle.std.proofs.Common.{◌≡◌, ◌<◌, ◌∙◌, sym, ap, [], ◌∷◌, ◌++◌, ◌+◌, ◌%◌, length, List, ℕ, arith, length-append}
use Rattle.print.proofs.Wrote.{digit_last, digit_alone, decimal_few, decimal_room}
use Rattle.print.proofs.+put_decimal.Goals as goal
use Rattle.print.proofs.+put_decimal.Goals.{then-x-ge10, else-x-ge10}

-- the digit's own place, behind the others
digit : (t : ℕ) (c : goal.After-push t) → c.push.new.self ≡ c.if-x-ge10.page ++ ((48 + c.args.x % 10) ∷ [])
digit t c =
    let room : length c.if-x-ge10.page < 98304 =
    elim c.if-x-ge10.branch [
      | then-x-ge10 w ↦ omega (arith, decimal_room c.args.x w.if-x-ge10.true (omega arith), ap length w.page-is, ap length w.put_decimal.ensures.wrote, length-append {A = ℕ})
      | else-x-ge10 w ↦ omega (arith, ap length w.page-is)
    ]
    in
    c.push.ensures.whole room

pub returns-clause-wrote : goal.returns-clause-wrote
returns-clause-wrote t c =
    elim c.if-x-ge10.branch [
      | then-x-ge10 w ↦
          digit t c
          ∙ ap (λ (l : List ℕ). l ++ ((48 + c.args.x % 10) ∷ [])) (w.page-is ∙ w.put_decimal.ensures.wrote)
          ∙ sym (digit_last c.args.page.now c.args.x w.if-x-ge10.true (omega arith))
      | else-x-ge10 w ↦
          digit t c
          ∙ ap (λ (l : List ℕ). l ++ ((48 + c.args.x % 10) ∷ [])) w.page-is
          ∙ sym (digit_alone c.args.page.now c.args.x w.if-x-ge10.false)
    ]

pub returns-clause-few : goal.returns-clause-few
returns-clause-few t c =
    omega (arith, decimal_few c.args.x (omega arith), ap length (returns-clause-wrote t c), length-append {A = ℕ})
