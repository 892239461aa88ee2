-- `find_lows` meets its contract: the positions below p have had their turn. Assumes nothing.
use Rattle.std.proofs.Common.{arith, ◌≡◌, subst}
use Rattle.rules.specs.Lent.{lent_graph}
use Rattle.theory.specs.Rows.{count}
use Rattle.unpack.proofs.Lows.{Lowered, lowered_more, lows_found}
use Rattle.unpack.proofs.find_lows.Goals as goal

pub loop-p-preserved : goal.loop-p-preserved
loop-p-preserved c =
    let l = c.loop-p.invariant in
    (l.0, lowered_more _ c.requires.0 c.requires.1 l.1 (omega (arith, l.0, c.loop-p-test.true)) c.hand_low.ensures)

pub returns : goal.returns
returns c =
    let l = c.loop-p in
    let e : l.p ≡ count c.args.graph.now.first.now = omega (arith, l.invariant.0, l.invariant.1.within, c.loop-p-test.false) in
    lows_found c.requires.0 (subst (λ p. Lowered (lent_graph c.args.graph.now) p l.low) e l.invariant.1)
