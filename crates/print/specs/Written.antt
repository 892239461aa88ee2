-- What a reply that found a walk says, and that it is short. Assumes nothing.
use Rattle.std.specs.Prelude.{Option, Some, None, Result, Ok, Err, ℕ, suc, ◌≤◌, ◌<◌, List, [], ◌∷◌, ◌++◌, map, length, get_or, take}
use Rattle.rules.specs.declared.Drive.{Drive}
use Rattle.rules.specs.declared.Refusal.{Refusal}
use Rattle.text.specs.Bytes.{lf}
use Rattle.text.specs.Program.{spaced}

-- the arcs of a route are few, and their numbers counted from 1 have at most four digits
pub record ArcsShort (arcs : List ℕ) : Type 0 where
  pub few : length arcs ≤ 256
  pub low : (i : ℕ) → i < length arcs → get_or arcs i 0 < 1024

-- a route's arcs stand at the start of the list
abbrev pub ReplyShort : (answer : Result (Option Drive) Refusal) (route : List ℕ) → Type 0
ReplyShort (Ok (Some found)) route = (found.arcs ≤ length route) × ArcsShort (take found.arcs route)
ReplyShort (Ok None) route = Unit {0}
ReplyShort (Err r) route = Unit {0}

-- what follows from and to in a reply that found a walk: the distance, how many arcs, and their numbers, counted from 1
unfoldable pub drive_written : (d : ℕ) (arcs : List ℕ) → List ℕ
unfolding spaced
drive_written d arcs = spaced (d ∷ length arcs ∷ map suc arcs) ++ (lf ∷ [])
