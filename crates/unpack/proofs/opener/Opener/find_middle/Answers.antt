-- `find_middle` meets its contract: the scan from where it has come to finds what the whole scan finds. Assumes nothing.
use Rattle.std.proofs.Common.{sym, ◌∙◌}
use Rattle.unpack.proofs.MiddleIn.{scan_here, scan_on, scan_end}
use Rattle.unpack.proofs.opener.Opener.find_middle.Goals as goal

pub returns-in-Some : goal.returns-in-Some
returns-in-Some c = scan_here _ _ _ _ _ _ c.loop-z-test.true c.over.ensures c.in-Some.is ∙ sym c.loop-z.invariant

pub loop-z-preserved : goal.loop-z-preserved
loop-z-preserved c = c.loop-z.invariant ∙ scan_on _ _ _ _ _ _ c.loop-z-test.true c.over.ensures c.in_default.is

pub returns : goal.returns
returns c = scan_end _ _ _ _ _ _ c.loop-z-test.false ∙ sym c.loop-z.invariant
