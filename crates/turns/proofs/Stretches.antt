-- Places of one row. Assumes nothing.
use Prim.Native.Nat.{ℕ, ◌+◌, ◌-◌, ◌≤◌, ◌<◌}
use native.Mathlib.Omega.{arith}
use mathlib.Core.List.{List}
use lib.ListN.{get_or}
use Rattle.rules.specs.Graph.{Graph}
use Rattle.theory.specs.Rows.{InRow}
use Rattle.theory.proofs.Rows.{in_heads, in_row_i, next_row}
use Rattle.turns.specs.Edges.{Stretch}
use Rattle.turns.specs.Waiting.{Turn}

-- from a place of a row to the row's end
pub stretch_row : {G : Graph} {z i : ℕ} → Turn G z → InRow G z i → Stretch G.heads i (get_or G.first (z + 1) 0)
stretch_row {G} {z} {i} U r =
    record {
      listed =
          let last = get_or G.first (z + 1) 0 - 1 in
          omega (arith, in_heads U.rows z last U.under (row last (omega (arith, r.high, next_row G z)) (omega (arith, r.high, next_row G z))));
      seat = λ k a b. omega (arith, U.few, U.rows.below z k U.under (row k a b));
      climb = λ k l a b c. U.rows.climb z k l U.under (row k a (omega arith)) (row l (omega arith) c) b;
    }
  where
    row : (k : ℕ) → i ≤ k → k < get_or G.first (z + 1) 0 → InRow G z k
    row k a b = in_row_i G z k (omega (arith, r.low)) b

-- a part of a stretch
pub stretch_part : {heads : List ℕ} {a b c d : ℕ} → Stretch heads a b → a ≤ c → d ≤ b → Stretch heads c d
stretch_part S l h =
    record {
      listed = omega (arith, S.listed);
      seat = λ k i j. S.seat k (omega arith) (omega arith);
      climb = λ k m i j n. S.climb k m (omega arith) j (omega arith);
    }
