-- `find_fault` meets its promise for any bytes. Assumes nothing.
use Rattle.std.proofs.Common.{◌≡◌, ◌∙◌, length, take, arith, rules}
use Rattle.std.proofs.lemmas.Grind.{common_steps}
use Rattle.rules.specs.Net.{net}
use Rattle.fault.specs.Faults.{told, judged, net_reply}
use Rattle.fault.proofs.Judged.{verdict_text}
use Rattle.fault.proofs.find_fault.Goals as goal

pub returns-in-Ok : goal.returns-in-Ok
returns-in-Ok c =
    let k = c.in-Ok.counts in
    let t = c.read_text.new.lists in
    let n : length (take k.junctions t.order) ≡ k.junctions = grind (arith, common_steps) in
    let j : told c.judge_text.result ≡ judged c.args.input.now (net_reply (length (take k.junctions t.order)) (net (take k.arcs t.tails) (take k.arcs t.heads) (take k.arcs t.costs) (take k.junctions t.order))) = search rules in
    (rw n at j) ∙ verdict_text _ c.if-input-gt65536.false _ c.in-Ok.ensures.reading
