-- `new` meets its contract: 0 stands for none, at every place. Assumes nothing.
use Rattle.std.proofs.Common.{ℕ, arith, refl}
use Rattle.std.proofs.lemmas.List.{get_or-replicate}
use Rattle.theory.proofs.Threads.{threads_none}
use Rattle.gather.proofs.ChildThreads.new.Goals as goal

pub returns : goal.returns
returns c = λ f n few. threads_none f n 4096 _ _ refl refl (λ q l. get_or-replicate {A = ℕ} 4096 q 0 0 (omega arith))
