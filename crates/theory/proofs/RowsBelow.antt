-- The rows below a position, one after the other: how many entries they have, and that more rows only go behind them. Assumes nothing.
use Prim.Native.Nat.{ℕ, zero, suc, ◌-◌, ◌*◌, ◌≤◌, ◌<◌}
use mathlib.Core.Path.{◌≡◌, refl, ap}
use mathlib.Core.List.{[], ◌++◌}
use native.Mathlib.Omega.{arith}
use lib.ListN.{length, length-append}
use lib.Seq.{slice, take-append_seam, drop-append_seam}
use Rattle.rules.specs.Net.{Net, size}
use Rattle.rules.specs.Graph.{joined, row, rows_below}
use Rattle.theory.proofs.Those.{those_few}
use Rattle.theory.proofs.Built.{rows_split}

module _ (N : Net) where
  -- no rows are no entries
  pub rows_none : rows_below N 0 ≡ []
  unfolding rows_below
  rows_none = refl

  -- the row of p goes behind the rows below p
  pub rows_more : (p : ℕ) → rows_below N (suc p) ≡ rows_below N p ++ row N p
  unfolding rows_below
  rows_more p = refl

  -- a row has no more entries than there are positions
  row_few : (p : ℕ) → length (row N p) ≤ size N
  unfolding row
  row_few p = omega (arith, those_few (joined N p) (suc p) (size N - suc p))

  -- so the places in heads are small numbers
  pub rows_small : size N ≤ 4096 → (p : ℕ) → length (rows_below N p) ≤ p * 4096
  rows_small few zero = omega (arith, ap length rows_none)
  rows_small few (suc p) =
      omega (arith, ap length (rows_more p), length-append (rows_below N p) (row N p), row_few p, rows_small few p)

  -- the row of p read back from the rows below q
  pub row_behind : (q p : ℕ) → p < q → slice (length (rows_below N p)) (length (rows_below N (suc p))) (rows_below N q) ≡ row N p
  row_behind q p h =
      let (more, e) = rows_split N q (suc p) h in
      rw (e, take-append_seam (rows_below N (suc p)) more, rows_more p) (drop-append_seam (rows_below N p) (row N p))
