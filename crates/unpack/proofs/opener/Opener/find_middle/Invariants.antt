-- `find_middle` meets its contract: the scan from where it has come to finds what the whole scan finds. Assumes nothing.
use Rattle.std.proofs.Common.{◌≡◌}
use Rattle.rules.specs.Lent.{lent_graph, lent_costs}
use Rattle.unpack.specs.Opening.{middle_in}
use Rattle.unpack.proofs.opener.Opener.find_middle.Given as goal

abbrev pub invariant-loop-z : goal.invariant-loop-z
invariant-loop-z l =
    let G = lent_graph l.self.graph in
    let C = lent_costs l.self.costs in
    middle_in G C l.a.0 l.b.0 l.initial.z l.z-end ≡ middle_in G C l.a.0 l.b.0 l.z l.z-end
