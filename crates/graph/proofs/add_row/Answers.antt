-- `add_row` meets its contract: what was gathered is the row of p, so that what was written is one row more. Assumes nothing.
use borrow.Author.Rules.{rules}
use Rattle.std.proofs.Common.{arith, refl}
use Rattle.std.proofs.lemmas.List.{get_or-set_same}
use Rattle.rules.specs.Graph.{parent_of}
use Rattle.graph.specs.Grown.{roads}
use Rattle.graph.proofs.Grown.{gatherable, grows_full, parent_at, end_small, grows_next}
use Rattle.graph.proofs.add_row.Goals as goal

pub gather_row-requires : goal.gather_row-requires
gather_row-requires g c = (search rules, (_, gatherable c.requires))

pub returns-in_err-end : goal.returns-in_err-end
returns-in_err-end g c =
    record { end = rw c.from_residual.ensures tt; rows = λ R. rw c.from_residual.ensures (grows_full R _ refl _ _ (c.write_row.ensures _ (c.gather_row.ensures _ R.laid.threads)) c.in_err-end.was) }

pub overflow_cast-first-2 : goal.overflow_cast-first-2
overflow_cast-first-2 g c =
    let R = c.requires in
    omega (arith, end_small R _ refl _ _ (c.write_row.ensures _ (c.gather_row.ensures _ R.laid.threads)) _ c.in_ok-end.was)

pub returns : goal.returns
returns g c =
    record {
      end = get_or-set_same c.args.first.now _ _ 0 (omega (arith, c.requires.grown.first_long, c.requires.inside));
      rows =
          λ R.
          let row = c.gather_row.ensures _ R.laid.threads in
          grows_next R _ refl _ _ (c.write_row.ensures _ row) _ c.in_ok-end.was _ (c.add.ensures (parent_of (roads R.laid)) (parent_at R _ row) R.grown.threads);
    }
