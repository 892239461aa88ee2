-- A hierarchy of n positions has at most n * (n - 1) / 2 edges. Assumes nothing.
use Prim.Native.Nat.{ℕ, zero, suc, ◌+◌, ◌-◌, ◌*◌, ◌≤◌, ◌<◌}
use mathlib.Core.Path.{◌≡◌, ap}
use native.Mathlib.Omega.{arith}
use native.Mathlib.Nat.{mul-suc, suc-mul, mul-le-mul}
use lib.ListN.{get_or}
use Rattle.rules.specs.Graph.{Graph}
use Rattle.theory.specs.Rows.{InRow, Rows}
use Rattle.theory.proofs.Words.{either, same_or_not}

-- the next square
square_suc : (m : ℕ) → suc m * suc m ≡ m * m + (m + suc m)
square_suc m = omega (arith, suc-mul m (suc m), mul-suc m m)

module _ {n : ℕ} {G : Graph} (R : Rows n G) where
  -- entries of a row climb by at least one each
  climbs : (p i : ℕ) → p < n → InRow G p (get_or G.first p 0 + i) → suc p + i ≤ get_or G.heads (get_or G.first p 0 + i) 0
  climbs p zero l r = let a = R.above p (get_or G.first p 0 + 0) l r in omega arith
  climbs p (suc i) l r =
      let s : InRow G p (get_or G.first p 0 + i) = record { low = omega arith; high = omega (arith, r.high) } in
      let a = climbs p i l s in
      let b = R.climb p (get_or G.first p 0 + i) (get_or G.first p 0 + suc i) l s r (omega arith) in
      omega arith

  -- so a row has no more entries than there are positions above it
  pub row_few : (p m : ℕ) → p + suc m ≡ n → get_or G.first (suc p) 0 ≤ get_or G.first p 0 + m
  row_few p m e =
      let l : p < n = omega arith in
      let rise = R.rise p l in
      let len = get_or G.first (suc p) 0 - get_or G.first p 0 in
      either (same_or_not len 0)
      (λ z. omega arith)
      (λ z.
      let r : InRow G p (get_or G.first p 0 + (len - 1)) = record { low = omega arith; high = omega arith } in
      let a = climbs p (len - 1) l r in
      let b = R.below p (get_or G.first p 0 + (len - 1)) l r in
      omega arith)

  -- twice the edges of the rows below p, and the square of what is left of the positions
  twice : (p m : ℕ) → p + m ≡ n → 2 * get_or G.first p 0 + m * m ≤ n * n
  twice zero m e = let d : m ≡ n = omega arith in omega (arith, R.start, ap (λ k. k * k) d)
  twice (suc p) m e =
      let before = twice p (suc m) (omega arith) in
      omega (arith, before, row_few p m (omega arith), square_suc m)

  -- at most 4,096 positions have at most 8,388,608 edges
  pub edges_few : n ≤ 4096 → get_or G.first n 0 ≤ 8388608
  edges_few few = let s = mul-le-mul few few in omega (arith, twice n 0 (omega arith), s)
