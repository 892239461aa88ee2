-- Of the positions at which the ends stand the lower one's row is searched for the higher. Assumes nothing.
use Prim.Native.Nat.{min, max}
use mathlib.Core.Path.{◌≡◌}
use borrow.Author.Rules.{rules}
use native.Mathlib.Omega.{arith}
use lib.ListN.{get_or}
use Rattle.checks.proofs.LacksEdge.{search_finds}
use Rattle.checks.proofs.lacks_edge.Goals as goal

pub returns-then-ne : goal.returns-then-ne
returns-then-ne c =
    let (S, t, h) = c.requires in let rank = c.args.rank.now in
    let low : c.min.result.0 ≡ min (get_or rank c.args.tail.0 0) (get_or rank c.args.head.0 0) = search rules in
    let high : c.max.result.0 ≡ max (get_or rank c.args.tail.0 0) (get_or rank c.args.head.0 0) = search rules in
    let f = search_finds S _ _ _ _ t h low high _ c.find_edge.ensures in grind (arith, f, c.is_none.ensures, c.if-ne.true)
