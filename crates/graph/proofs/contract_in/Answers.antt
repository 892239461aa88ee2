-- `contract_in` meets its contract: all rows and noughts behind them, or noughts alone. Assumes nothing.
use borrow.Author.Rules.{rules}
use Rattle.std.proofs.Common.{arith}
use Rattle.graph.proofs.Contracted.{arc_lists, arcs_laid, fills_room, contracted_full, contracted_next}
use Rattle.graph.proofs.contract_in.Goals as goal

pub lay-requires : goal.lay-requires
lay-requires g c = (search rules, (arc_lists c.requires.0 c.requires.1, c.requires.2, c.new-arcs.ensures))

pub add_rows-requires : goal.add_rows-requires
add_rows-requires g c = (search rules, (arcs_laid c.requires.0 c.requires.1 c.lay.ensures, c.requires.0.first_long))

pub returns-in_default : goal.returns-in_default
returns-in_default g c =
    contracted_full _ _ _ (search rules) _ (c.add_rows.ensures (arcs_laid c.requires.0 c.requires.1 c.lay.ensures)) c.in_default.is (search rules) _ _ c.fill.ensures c.fill-in_default.ensures

pub fill-requires-2 : goal.fill-requires-2
fill-requires-2 g c =
    omega (arith, fills_room _ _ _ (search rules) _ (c.add_rows.ensures (arcs_laid c.requires.0 c.requires.1 c.lay.ensures)) _ c.in-Some.is)

pub returns : goal.returns
returns g c =
    contracted_next _ _ _ (search rules) _ (c.add_rows.ensures (arcs_laid c.requires.0 c.requires.1 c.lay.ensures)) _ c.in-Some.is _ c.fill-2.ensures
