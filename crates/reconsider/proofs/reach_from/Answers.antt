-- `reach_from` meets its contract: no entry of a row is above its last. Assumes nothing.
use Rattle.theory.proofs.Words.{true_holds}
use Rattle.reconsider.specs.Marks.{says}
use Rattle.reconsider.proofs.Reaches.{last_place, top_last}
use Rattle.reconsider.proofs.reach_from.Goals as goal

pub bounds-graph-end : goal.bounds-graph-end
bounds-graph-end c = let p = c.requires in last_place p.0 (p.2 (true_holds (says c.args.dirty.now c.args.x) c.if-not-dirty-x.false))

pub returns : goal.returns
returns c =
    let p = c.requires in rw c.max.ensures (top_last p.0 p.1 (p.2 (true_holds (says c.args.dirty.now c.args.x) c.if-not-dirty-x.false)))
