-- `find` meets its contract. Assumes nothing.
use Rattle.std.proofs.Common.{rules}
use Rattle.text.proofs.Cuts.{part_at}
use Rattle.text.proofs.find.Goals as goal

pub returns : goal.returns
returns c = record { high = search rules; cut = part_at c.args.mark c.args.bytes.now c.unwrap_or.result (search rules) (search rules) (search rules) }
