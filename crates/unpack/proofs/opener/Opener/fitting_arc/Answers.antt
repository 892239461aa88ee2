-- `fitting_arc` meets its contract. Assumes nothing.
use Rattle.std.proofs.Common.{arith, sym, ◌∙◌}
use borrow.Author.Tests.{eqb-false}
use Rattle.unpack.proofs.ArcOf.{reads, unlisted, shut_piece, other_cost, same_cost}
use Rattle.unpack.proofs.opener.Opener.fitting_arc.Goals as goal
use Rattle.unpack.proofs.opener.Opener.fitting_arc.Goals.{then-eq-via-then-eq, then-eq-via-else-eq+then-self-arc}

pub returns-in_err-arc-clause-fits : goal.returns-in_err-arc-clause-fits
returns-in_err-arc-clause-fits c tails B =
    let K = reads c.args.self.now.readable B c.requires.0 c.requires.1 c.requires.2 in
    c.from_residual.ensures ∙ unlisted K c.junction_at-u.ensures c.junction_at-v.ensures _ (c.in_err-arc.ensures.last _ B)

pub returns-then-eq-clause-fits : goal.returns-then-eq-clause-fits
returns-then-eq-clause-fits c tails B =
    let K = reads c.args.self.now.readable B c.requires.0 c.requires.1 c.requires.2 in
    elim c.then-eq.branch [
      | then-eq-via-then-eq w ↦ shut_piece _ _ _ _ (grind (arith, w.if-eq.ensures))
      | then-eq-via-else-eq+then-self-arc w ↦ other_cost K c.junction_at-u.ensures c.junction_at-v.ensures _ _ (c.in_ok-arc.ensures.last _ B) w.if-self-arc.true
    ]

pub returns-clause-fits : goal.returns-clause-fits
returns-clause-fits c tails B =
    let K = reads c.args.self.now.readable B c.requires.0 c.requires.1 c.requires.2 in
    same_cost K c.junction_at-u.ensures c.junction_at-v.ensures _ _ (c.in_ok-arc.ensures.last _ B)
    (eqb-false _ _ (sym c.if-eq.ensures)) c.if-self-arc.false
