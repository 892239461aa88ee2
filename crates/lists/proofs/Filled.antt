-- A list filled from a place on. Assumes nothing.
use Prim.Native.Nat.{ℕ, ◌-◌}
use mathlib.Core.Path.{◌≡◌, ap}
use mathlib.Core.List.{List}
use native.Mathlib.Omega.{arith}
use lib.ListN.{length, replicate}
use Rattle.lists.specs.Lent.{filled}

-- filled from its start, a list holds nothing else
pub filled_whole : (list : List ℕ) (value : ℕ) → filled list 0 value ≡ replicate (length list) value
filled_whole list value = let e : length list - 0 ≡ length list = omega arith in ap (λ m. replicate m value) e
