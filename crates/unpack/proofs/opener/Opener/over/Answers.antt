-- `over` meets its contract: the lower end is searched for first. Assumes nothing.
use Rattle.std.proofs.Common.{arith, sym, ◌∙◌, ◌≡◌}
use Rattle.lists.proofs.Found.{edge_at, edge_nowhere}
use Rattle.lists.proofs.Positions.{lower_e, not_lower_e, min_is, max_is}
use Rattle.unpack.proofs.Edge.{found_edge, edge_to}
use Rattle.unpack.proofs.MiddleIn.{end_missing, over_is}
use Rattle.unpack.proofs.opener.Opener.over.Goals as goal

pub returns-in_err-i : goal.returns-in_err-i
returns-in_err-i c =
    let x = c.min.result.0 in
    let m = min_is c.args.a c.args.b c.min.ensures in
    c.from_residual.ensures
    ∙ end_missing _ _ _ _ _ x (λ n. omega arith) (edge_nowhere c.requires.0.lists.rows c.args.z.0 x (omega (arith, c.requires.2, c.requires.3)) (sym c.in_err-i.ensures))

pub find_edge_from-requires : goal.find_edge_from-requires
find_edge_from-requires c =
    let (r, e) = edge_at c.requires.0.lists.rows c.args.z.0 c.min.result.0 c.in_ok-i.i c.requires.1 (sym c.in_ok-i.ensures) in
    (c.requires.0.lists.rows, c.requires.1, r, omega (arith, e, min_is c.args.a c.args.b c.min.ensures, max_is c.args.a c.args.b c.max.ensures))

pub returns-in_err-j : goal.returns-in_err-j
returns-in_err-j c =
    let x = c.max.result.0 in
    let m = max_is c.args.a c.args.b c.max.ensures in
    c.from_residual-in_err-j.ensures
    ∙ end_missing _ _ _ _ _ x (λ n. omega arith) (edge_nowhere c.requires.0.lists.rows c.args.z.0 x (omega (arith, c.requires.2, c.requires.3)) (sym c.in_err-j.ensures))

-- the edges from z to the lower end and to the higher
pub over_if-requires : goal.over_if-requires
over_if-requires c =
    let low = found_edge c.requires.0.lists c.args.z.0 c.min.result.0 c.in_ok-i.i c.requires.1 (sym c.in_ok-i.ensures) in
    let high = found_edge c.requires.0.lists c.args.z.0 c.max.result.0 c.in_ok-j.j c.requires.1 (sym c.in_ok-j.ensures) in
    (low.down_in, high.up_in)

pub returns-then-lt : goal.returns-then-lt
returns-then-lt c =
    let l = lower_e c.args.a.0 c.args.b.0 c.if-lt.ensures in
    let low = found_edge c.requires.0.lists c.args.z.0 c.min.result.0 c.in_ok-i.i c.requires.1 (sym c.in_ok-i.ensures) in
    let high = found_edge c.requires.0.lists c.args.z.0 c.max.result.0 c.in_ok-j.j c.requires.1 (sym c.in_ok-j.ensures) in
    let a_is : c.min.result.0 ≡ c.args.a.0 = omega (arith, l, min_is c.args.a c.args.b c.min.ensures) in
    let b_is : c.max.result.0 ≡ c.args.b.0 = omega (arith, l, max_is c.args.a c.args.b c.max.ensures) in
    c.over_if.ensures ∙ over_is _ _ _ _ (edge_to a_is low) (edge_to b_is high) c.requires.4

pub over_if-requires-2 : goal.over_if-requires-2
over_if-requires-2 c =
    let low = found_edge c.requires.0.lists c.args.z.0 c.min.result.0 c.in_ok-i.i c.requires.1 (sym c.in_ok-i.ensures) in
    let high = found_edge c.requires.0.lists c.args.z.0 c.max.result.0 c.in_ok-j.j c.requires.1 (sym c.in_ok-j.ensures) in
    (high.down_in, low.up_in)

pub returns : goal.returns
returns c =
    let l = not_lower_e c.args.a.0 c.args.b.0 c.if-lt.ensures in
    let low = found_edge c.requires.0.lists c.args.z.0 c.min.result.0 c.in_ok-i.i c.requires.1 (sym c.in_ok-i.ensures) in
    let high = found_edge c.requires.0.lists c.args.z.0 c.max.result.0 c.in_ok-j.j c.requires.1 (sym c.in_ok-j.ensures) in
    let b_is : c.min.result.0 ≡ c.args.b.0 = omega (arith, l, min_is c.args.a c.args.b c.min.ensures) in
    let a_is : c.max.result.0 ≡ c.args.a.0 = omega (arith, l, max_is c.args.a c.args.b c.max.ensures) in
    c.over_if-2.ensures ∙ over_is _ _ _ _ (edge_to a_is high) (edge_to b_is low) c.requires.4
