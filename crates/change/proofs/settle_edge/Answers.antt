-- `settle_edge` meets its contract: as before, or made new and flagged. Assumes nothing.
use Rattle.std.proofs.Common.{refl, inl, inr}
use Rattle.rules.specs.Hierarchy.{edge_costs}
use Rattle.look.specs.Looking.{gathered}
use Rattle.change.specs.Turning.{made_new}
use Rattle.change.proofs.Settled.{moved_way}
use Rattle.change.proofs.settle_edge.Goals as goal
use Rattle.change.proofs.settle_edge.Goals.{then-up-k-via-then-up-k, then-up-k-via-else-up-k+then-down-k}

pub returns-then-up-k : goal.returns-then-up-k
returns-then-up-k c =
    let a = c.args in
    let (d, n) =
    moved_way (edge_costs a.up.now a.down.now) (gathered a.row.now) a.k a.y
    (elim c.then-up-k.branch [
      | then-up-k-via-then-up-k w ↦ inl w.if-up-k.true
      | then-up-k-via-else-up-k+then-down-k w ↦ inr (w.if-up-k.false, w.if-down-k.true)
    ]) in
    made_new d n refl c.flag.ensures refl refl
