-- `new` meets its contract: the greatest number lies above every place. Assumes nothing.
use Rattle.std.proofs.Common.{ℕ, arith, refl}
use Rattle.std.proofs.lemmas.List.{get_or-replicate}
use Rattle.gather.proofs.NextMembers.new.Goals as goal

pub invariant_of-result : goal.invariant_of-result
invariant_of-result c = record { rises = record { long = refl; rise = λ x l. omega (arith, get_or-replicate {A = ℕ} 4096 x 4294967295 0 l) } }
