-- What has been read, and whether it has its room. Assumes nothing.
use Rattle.std.specs.Prelude.{ℕ, ◌≤◌, cond, Option, Some, None, eqb}
use Rattle.reader.specs.declared.lists.Sizes.{Sizes}
use Rattle.reader.specs.declared.lists.State.{State}
use Rattle.reader.specs.declared.Counts.{Counts}
use Rattle.text.specs.Program.{Line, comment, problem, arc, seat, question, other}

-- nothing has been read
abbrev pub nothing_yet : State
nothing_yet = record { sizes = None; listed = 0; seated = 0; asked = 0 }

-- ---- what the `p` line told

abbrev pub junctions_told : Option Sizes → ℕ
junctions_told (Some p) = p.junctions
junctions_told None = 0

abbrev pub arcs_told : Option Sizes → ℕ
arcs_told (Some p) = p.arcs
arcs_told None = 0

-- it, once all arcs are there; once the order is there too
abbrev pub if_listed : (listed : ℕ) → Option Sizes → Option Sizes
if_listed listed (Some p) = cond (eqb listed p.arcs) (Some p) None
if_listed listed None = None

abbrev pub arcs_there : State → Option Sizes
arcs_there s = if_listed s.listed s.sizes

abbrev pub if_seated : (seated : ℕ) → Option Sizes → Option Sizes
if_seated seated (Some p) = cond (eqb seated p.junctions) (Some p) None
if_seated seated None = None

abbrev pub all_there : State → Option Sizes
all_there s = if_seated s.seated (arcs_there s)

-- what has been read has its room
pub record Within (s : State) : Type 0 where
  pub arcs_fit : arcs_told s.sizes ≤ 1024
  pub junctions_fit : junctions_told s.sizes ≤ 256
  pub arcs_so_far : s.listed ≤ arcs_told s.sizes
  pub seats_so_far : s.seated ≤ junctions_told s.sizes
  pub questions_fit : s.asked ≤ 64

-- a line after which what has been read still has its room
abbrev pub LineFits : Line → Type 0
LineFits comment = Unit {0}
LineFits (problem n m) = (n ≤ 256) × (m ≤ 1024)
LineFits (arc t h c) = Unit {0}
LineFits (seat j) = Unit {0}
LineFits (question u v) = Unit {0}
LineFits other = Unit {0}

-- the counts stay within the lists
pub record CountsWithin (c : Counts) : Type 0 where
  pub junctions_fit : c.junctions ≤ 256
  pub arcs_fit : c.arcs ≤ 1024
  pub questions_fit : c.questions ≤ 64
