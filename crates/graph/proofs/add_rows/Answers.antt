-- `add_rows` meets its contract. The loop's invariant: whatever roads are threaded, their rows below p are written. Assumes nothing.
use borrow.Author.Rules.{rules}
use Rattle.std.proofs.Common.{arith, refl, sym, ◌∙◌, length}
use Rattle.std.proofs.lemmas.List.{length-set, get_or-set_same}
use Rattle.rules.specs.Graph.{graph, parent_of}
use Rattle.graph.specs.Grown.{roads}
use Rattle.graph.proofs.Grown.{grown_start}
use Rattle.graph.proofs.Contracted.{grown_more, fills_full, fills_next}
use Rattle.graph.proofs.add_rows.Goals as goal

pub loop-p-init : goal.loop-p-init
loop-p-init g c =
    (sym (get_or-set_same c.args.first.now 0 0 0 (omega (arith, c.requires.1))), length-set c.args.first.now 0 0 ∙ c.requires.1, refl, λ L. grown_start (roads L) (graph c.args.first.now c.args.row_heads.now) _ c.requires.1 (c.new-children.ensures (parent_of (roads L)) _ L.few))

pub add_row-requires : goal.add_row-requires
add_row-requires g c = let L = c.requires.0 in (search rules, record { laid = L; inside = c.loop-p-test.true; grown = c.loop-p.invariant.3 L })

pub returns-in_err-end : goal.returns-in_err-end
returns-in_err-end g c =
    let l = c.loop-p in
    λ L.
    rw (c.from_residual.ensures, ← l.invariant.2)
    (fills_full _ _ _ _ _ _ (c.add_row.ensures.rows (record { laid = L; inside = c.loop-p-test.true; grown = l.invariant.3 L })) c.in_err-end.was c.loop-p-test.true)

pub loop-p-preserved : goal.loop-p-preserved
loop-p-preserved g c =
    let l = c.loop-p in (
      sym c.in_ok-end.ensures.end,
      search rules,
      search rules,
      λ L. grown_more _ _ _ _ _ _ (c.add_row.ensures.rows (record { laid = L; inside = c.loop-p-test.true; grown = l.invariant.3 L })) _ c.in_ok-end.was,
    )

pub returns : goal.returns
returns g c =
    let l = c.loop-p in
    λ L.
    fills_next _ _ _ l.p _ (length c.args.row_heads.now) (l.invariant.3 L) c.loop-p-test.false l.invariant.0
