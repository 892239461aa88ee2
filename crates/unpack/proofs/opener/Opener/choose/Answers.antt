-- `choose` meets its contract. Assumes nothing.
use Rattle.std.proofs.Common.{arith, refl, ◌∙◌, ◌<◌}
use Rattle.theory.specs.Rows.{count}
use Rattle.theory.proofs.Rows.{linked_two}
use Rattle.lists.proofs.Positions.{min_is}
use Rattle.unpack.proofs.MiddleIn.{scan_low, found_openable}
use Rattle.unpack.proofs.WayAlong.{two_ends, chosen}
use Rattle.unpack.proofs.opener.Opener.choose.Goals as goal

pub fitting_arc-requires : goal.fitting_arc-requires
fitting_arc-requires c =
    two_ends c.requires.0 c.args.a.0 c.args.b.0 c.requires.1

pub returns-in-Some-clause-chosen : goal.returns-in-Some-clause-chosen
returns-in-Some-clause-chosen c tails B = chosen _ _ _ _ _ c.requires.2 (c.in-Some.ensures.fits tails B) refl

-- the low end is a position
pub bounds-self-to : goal.bounds-self-to
bounds-self-to c =
    let p = c.requires in
    let (a, b, d) = linked_two p.0.lists.rows _ _ p.1 in
    omega (arith, min_is c.args.a c.args.b c.min-to.ensures, p.0.lists.few)

pub find_middle-requires : goal.find_middle-requires
find_middle-requires c =
    let p = c.requires in
    let m = min_is c.args.a c.args.b c.min-to.ensures in
    let (a, b, d) = linked_two p.0.lists.rows _ _ p.1 in
    let l : c.min-to.result.0 < count c.args.self.now.graph.first.now = omega arith in
    (p.0, p.0.lows.under _ l, omega arith, omega arith, omega arith, p.2)

pub returns-in_err-parts-clause-chosen : goal.returns-in_err-parts-clause-chosen
returns-in_err-parts-clause-chosen c tails B =
    let p = c.requires in
    let m = min_is c.args.a c.args.b c.min-to.ensures in
    let (a, b, d) = linked_two p.0.lists.rows _ _ p.1 in
    let l : c.min-to.result.0 < count c.args.self.now.graph.first.now = omega arith in
    c.from_residual.ensures ∙ chosen _ _ _ _ _ p.2 (c.in_default.ensures.fits tails B) (rw (← scan_low _ _ _ _ p.0.lows m l refl, ← c.in_err-parts.ensures) refl)

pub returns-clause-safe : goal.returns-clause-safe
returns-clause-safe c =
    let p = c.requires in
    let m = min_is c.args.a c.args.b c.min-to.ensures in
    let (a, b, d) = linked_two p.0.lists.rows _ _ p.1 in
    let l : c.min-to.result.0 < count c.args.self.now.graph.first.now = omega arith in
    rw (← m) (found_openable _ _ _ _ p.0.lists.rows 0 _ _ (p.0.lows.under _ l) (omega arith) (omega arith) c.in_ok-parts.ensures)

pub returns-clause-chosen : goal.returns-clause-chosen
returns-clause-chosen c tails B =
    let p = c.requires in
    let m = min_is c.args.a c.args.b c.min-to.ensures in
    let (a, b, d) = linked_two p.0.lists.rows _ _ p.1 in
    let l : c.min-to.result.0 < count c.args.self.now.graph.first.now = omega arith in
    chosen _ _ _ _ _ p.2 (c.in_default.ensures.fits tails B) (rw (← scan_low _ _ _ _ p.0.lows m l refl, ← c.in_ok-parts.ensures) refl)
