-- The line is its word, its number and its end. Assumes nothing.
use Rattle.std.proofs.Common.{◌∙◌, sym, ap, [], ◌∷◌, ◌++◌, length, List, ℕ, arith, length-append}
use Rattle.text.specs.Bytes.{lf, decimal}
use Rattle.text.specs.Program.{refused_line}
use Rattle.print.proofs.Wrote.{refused_parts}
use Rattle.print.proofs.put_refused_line.Goals as goal

pub returns-clause-wrote : goal.returns-clause-wrote
returns-clause-wrote c =
    let word = c.put.ensures.whole (omega arith) in
    let number = c.put_decimal.ensures.wrote ∙ ap (λ (l : List ℕ). l ++ decimal c.from.result) word in
    c.push.ensures.whole (omega (arith, ap length word, length-append {A = ℕ}))
    ∙ ap (λ (l : List ℕ). l ++ (lf ∷ [])) number
    ∙ sym (refused_parts c.args.page.now c.from.result)
    ∙ ap (λ (n : ℕ). c.args.page.now ++ refused_line n) c.from.ensures
