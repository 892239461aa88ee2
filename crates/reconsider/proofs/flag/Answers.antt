-- `flag` meets its contract: one bit is set. Assumes nothing.
use Rattle.reconsider.proofs.Flags.{flag_set}
use Rattle.reconsider.proofs.flag.Goals as goal

pub returns : goal.returns
returns c = flag_set c.args.flags.now c.args.k c.requires
