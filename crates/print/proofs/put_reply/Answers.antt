-- A reply is its two junctions and what route answers. Assumes nothing.
use Rattle.std.proofs.Common.{Some, None, ◌∙◌, sym, ap, [], ◌∷◌, ◌++◌, take, List, ℕ, arith}
use Rattle.rules.specs.Replies.{refusal_number, refusal_place}
use Rattle.text.specs.Bytes.{lf, space}
use Rattle.text.specs.Program.{refused_line}
use Rattle.print.specs.Written.{drive_written}
use Rattle.print.proofs.Wrote.{answer_is, junctions_written, drive_told, no_walk_told, refused_told}
use Rattle.print.proofs.put_reply.Goals as goal

pub returns-in-Ok-Some-clause-wrote : goal.returns-in-Ok-Some-clause-wrote
returns-in-Ok-Some-clause-wrote c =
    let a = c.args in
    let start = junctions_written a.page.now a.from.0 a.to.0 _ _ _ _ c.from.ensures c.from-2.ensures c.put_decimal.ensures.wrote c.put_spaced.ensures.wrote in
    let found = c.in-Ok-Some.found in
    let is = answer_is a.answer c.in-Ok-Some.field-0 (Some found) c.in-Ok-Some.is (rw c.in-Ok-Some.is at c.in-Ok-Some.field-0-is) in
    let shown = rw is at c.requires.1 in
    rw is (c.put_drive.ensures.wrote
    ∙ ap (λ (l : List ℕ). l ++ drive_written found.distance (take found.arcs a.route.now)) start
    ∙ sym (drive_told a.page.now a.from.0 a.to.0 found.distance found.arcs a.route.now shown.0))

pub returns-in-Ok-None-clause-wrote : goal.returns-in-Ok-None-clause-wrote
returns-in-Ok-None-clause-wrote c =
    let a = c.args in
    let start = junctions_written a.page.now a.from.0 a.to.0 _ _ _ _ c.from.ensures c.from-2.ensures c.put_decimal.ensures.wrote c.put_spaced.ensures.wrote in
    rw (answer_is a.answer c.in-Ok-None.field-0 None c.in-Ok-None.is (rw c.in-Ok-None.is at c.in-Ok-None.field-0-is)) (c.put.ensures.whole (omega arith)
    ∙ ap (λ (l : List ℕ). l ++ (space ∷ 110 ∷ 111 ∷ 110 ∷ 101 ∷ lf ∷ [])) start
    ∙ sym (no_walk_told a.page.now a.from.0 a.to.0 a.route.now))

pub returns-in-Err-clause-wrote : goal.returns-in-Err-clause-wrote
returns-in-Err-clause-wrote c =
    let a = c.args in
    let start = junctions_written a.page.now a.from.0 a.to.0 _ _ _ _ c.from.ensures c.from-2.ensures c.put_decimal.ensures.wrote c.put_spaced.ensures.wrote in
    let r = c.in-Err.refusal in
    rw c.in-Err.is (c.put_refused_line.ensures.wrote
    ∙ rw c.number.ensures (ap (λ (l : List ℕ). l ++ refused_line (refusal_number r)) (c.push.ensures.whole (omega arith) ∙ ap (λ (l : List ℕ). l ++ (space ∷ [])) start))
    ∙ sym (refused_told a.page.now a.from.0 a.to.0 (refusal_number r) (refusal_place r) a.route.now))
