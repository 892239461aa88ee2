-- The line is its word, its number and its end. Assumes nothing.
use Rattle.std.proofs.Common.{◌∙◌, sym, ap, [], ◌∷◌, ◌++◌, length, List, ℕ, arith, length-append}
use Rattle.text.specs.Bytes.{lf, decimal}
use Rattle.print.proofs.Wrote.{edges_parts}
use Rattle.print.proofs.put_edges_line.Goals as goal

pub returns-clause-wrote : goal.returns-clause-wrote
returns-clause-wrote c =
    let word = c.put.ensures.whole (omega arith) in
    let number = c.put_decimal.ensures.wrote ∙ ap (λ (l : List ℕ). l ++ decimal c.args.e) word in
    c.push.ensures.whole (omega (arith, ap length word, length-append {A = ℕ}))
    ∙ ap (λ (l : List ℕ). l ++ (lf ∷ [])) number
    ∙ sym (edges_parts c.args.page.now c.args.e)
