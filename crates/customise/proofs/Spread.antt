-- A row spread out, one place after the other. Assumes nothing.
use Prim.Native.Nat.{ℕ, ◌+◌, ◌≤◌, ◌<◌}
use mathlib.Core.Path.{◌≡◌, ◌∙◌}
use mathlib.Core.List.{List}
use native.Mathlib.Omega.{arith}
use lib.ListN.{length, get_or, set}
use Rattle.rules.specs.Graph.{Graph}
use Rattle.theory.specs.Rows.{InRow}
use Rattle.theory.proofs.Words.{either, same_or_not}
use Rattle.theory.proofs.EdgesFew.{edges_few}
use Rattle.theory.proofs.Rows.{in_heads, in_row_i, once}
use Rattle.turns.specs.Waiting.{Turn, SameBelow}
use Rattle.customise.specs.Turns.{Spread}
use Rattle.turns.proofs.Stored.{Stored, stored}

-- the places of row x before k have been spread out
pub record Spreading (G : Graph) (x end k : ℕ) (places₀ places : List ℕ) : Type 0 where
  pub end_is : end ≡ get_or G.first (x + 1) 0
  pub from : get_or G.first x 0 ≤ k
  pub long : length places ≡ 4096
  pub there : (q : ℕ) → InRow G x q → q < k → get_or places (get_or G.heads q 0) 0 ≡ q
  pub same : SameBelow x places₀ places

module _ {G : Graph} {x : ℕ} (U : Turn G x) {end k : ℕ} {places₀ places : List ℕ} (S : Spreading G x end k places₀ places) where
  -- the next place is one of the row, and its entry a position
  spreading_in : k < end → InRow G x k
  spreading_in l = in_row_i G x k S.from (omega (arith, S.end_is))

  pub spreading_seat : k < end → get_or G.heads k 0 < 4096
  spreading_seat l = omega (arith, U.few, U.rows.below x k U.under (spreading_in l))

  pub spreading_place : k < end → (k < length G.heads) × (k < 4294967296)
  spreading_place l = let (h, p) = in_heads U.rows x k U.under (spreading_in l) in (p, omega (arith, edges_few U.rows U.few))

  -- one more
  pub spreading_more : {places' : List ℕ} → k < end → places' ≡ set places (get_or G.heads k 0) k → Spreading G x end (k + 1) places₀ places'
  spreading_more {places'} l e =
      let s = stored places places' (get_or G.heads k 0) k e (omega (arith, S.long, spreading_seat l)) in
      record {
        end_is = S.end_is;
        from = omega (arith, S.from);
        long = s.long ∙ S.long;
        there = λ q r h.
            either (same_or_not q k)
            (λ d. rw d s.here)
            (λ d. s.off (get_or G.heads q 0) (λ g. d (once U.rows x q k U.under r (spreading_in l) g)) ∙ S.there q r (omega arith));
        same = record {
          below = λ q h. s.off q (λ d. omega (arith, U.rows.above x k U.under (spreading_in l))) ∙ S.same.below q h;
        };
      }

-- a row spread out stays so where a lower position's place moves
pub spread_still : {G : Graph} {x z v : ℕ} {places places' : List ℕ} → Turn G x → z < x → Stored places z v places' → Spread G x places → Spread G x places'
spread_still {G} {x} U l s P =
    record {
      long = s.long ∙ P.long;
      there = λ q r. s.off (get_or G.heads q 0) (λ d. omega (arith, U.rows.above x q U.under r)) ∙ P.there q r;
    }
