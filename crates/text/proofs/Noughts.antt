-- The beginning of a list of noughts is one of noughts. Assumes nothing.
use Prim.Native.Nat.{ℕ, zero, suc, ◌+◌, ◌≤◌}
use mathlib.Core.Path.{◌≡◌, refl, ap}
use mathlib.Core.List.{List, ◌∷◌}
use native.Mathlib.Omega.{arith}
use native.Mathlib.Numerals.{add-one}
use lib.ListN.{length, take, length-take}
use Rattle.rules.specs.Graph.{Graph, graph}
use Rattle.text.specs.Program.{noughts}

-- the first n places of a list are n long
pub take_long : (n : ℕ) (l : List ℕ) (m : ℕ) → n ≤ m → length l ≡ m → n ≡ length (take n l)
take_long n l m h e = omega (arith, length-take n l)

take_noughts : (n m : ℕ) → n ≤ m → take n (noughts m) ≡ noughts n
take_noughts zero m h = refl
take_noughts (suc n) zero h = absurd (omega arith)
take_noughts (suc n) (suc m) h = ap (λ l. 0 ∷ l) (take_noughts n m (omega arith))

-- what holds in rooms for 256 junctions, of which n are used, holds in rooms for n
pub in_noughts : (P : List ℕ → Graph → Type 0) (n : ℕ) → n ≤ 256
    → P (take n (noughts 256)) (graph (take (n + 1) (noughts 257)) (noughts 4096))
    → P (noughts n) (graph (noughts (suc n)) (noughts 4096))
in_noughts P n h p =
    let r : take n (noughts 256) ≡ noughts n = take_noughts n 256 h in
    let f : take (n + 1) (noughts 257) ≡ noughts (suc n) = rw add-one (take_noughts (suc n) 257 (omega arith)) in
    rw (r, f) at p
