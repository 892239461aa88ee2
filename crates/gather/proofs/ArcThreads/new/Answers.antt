-- `new` meets its contract. Assumes nothing.
use Rattle.std.proofs.Common.{ℕ, refl}
use Rattle.std.proofs.lemmas.List.{length-replicate}
use Rattle.gather.proofs.ArcThreads.new.Goals as goal

pub returns : goal.returns
returns g c = (refl, length-replicate {A = ℕ} _ 0, length-replicate {A = ℕ} _ 0)
