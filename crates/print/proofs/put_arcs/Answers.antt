-- One arc number more stands behind those so far. Assumes nothing.
use Rattle.std.proofs.Common.{◌∙◌, sym, ap, suc, [], ◌∷◌, ◌+◌, get_or, map, take, length, ℕ, arith, append-nil, append_assoc, length-append}
use Rattle.text.specs.Program.{spaced}
use Rattle.print.proofs.Wrote.{arcs_more, spaced_short}
use Rattle.print.proofs.put_arcs.Goals as goal

pub loop-arc-init : goal.loop-arc-init
unfolding spaced
loop-arc-init c = record { wrote = sym (append-nil c.args.page.now); few = omega arith }

pub loop-arc-preserved : goal.loop-arc-preserved
loop-arc-preserved c =
    let a = c.args in
    let i = c.loop-arc.arc-index in
    let low = c.requires.1.low i c.loop-arc-test.true in
    record {
      wrote =
          c.put_spaced.ensures.wrote
          ∙ rw (c.from.ensures, c.loop-arc.invariant.wrote, arcs_more a.arcs.now i c.loop-arc-test.true) (append_assoc a.page.now (spaced (map suc (take i a.arcs.now))) (spaced ((get_or a.arcs.now i 0 + 1) ∷ [])));
      few = omega (arith, c.loop-arc.invariant.few, ap length c.put_spaced.ensures.wrote, spaced_short (c.from.result + 1) (omega (arith, low, c.from.ensures)), length-append {A = ℕ});
    }
