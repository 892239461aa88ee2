-- A flag for each place of the edges, sixty-four to a word. Assumes nothing.
use Rattle.std.specs.Prelude.{ℕ, ◌/◌, ◌%◌, ◌^◌, ◌≡◌, ◌≢◌, Bool, List, T, eqb, length, get_or}

-- place k is flagged
unfoldable pub flagged : (flags : List ℕ) (k : ℕ) → Bool
flagged flags k = eqb (get_or flags (k / 64) 0 / 2 ^ (k % 64) % 2) 1

-- place k has been flagged, and no other
pub record Flagged (k : ℕ) (flags flags' : List ℕ) : Type 0 where
  pub long : length flags' ≡ length flags
  pub here : T (flagged flags' k)
  pub off : (q : ℕ) → q ≢ k → flagged flags' q ≡ flagged flags q
