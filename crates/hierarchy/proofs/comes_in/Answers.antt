-- `comes_in` meets its contract: as many entries as places are a run, and else they are met one by one. Assumes nothing.
use mathlib.Core.Path.{refl}
use native.Mathlib.Omega.{arith}
use Rattle.hierarchy.proofs.InOrder.{same_rows_are}
use Rattle.hierarchy.proofs.comes_in.Goals as goal

pub returns-then-many-ge8 : goal.returns-then-many-ge8
returns-then-many-ge8 c =
    let a = c.args in
    same_rows_are a.row_heads.now a.k a.end a.j a.stop _ c.same_entries.result (omega (arith, c.requires.0)) c.requires.1 c.requires.2
    c.if-stop-j.true refl c.same_entries.ensures
