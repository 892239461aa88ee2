-- What the sweep's steps ask and promise. Assumes nothing.
use Rattle.std.specs.Prelude.{ℕ, ◌≤◌, ◌<◌, min, ◌≡◌, cond, List, eqb, length, get_or}
use Rattle.rules.specs.Costs.{closed, none, label_over}
use Rattle.rules.specs.Distance.{label}
use Rattle.rules.specs.Graph.{Graph}
use Rattle.rules.specs.Hierarchy.{EdgeCosts, linked, held, along}
use Rattle.rules.specs.Sweep.{reach}
use Rattle.rules.specs.declared.Direction.{Direction}
use Rattle.theory.specs.Rows.{count}

-- ---- numbers that can be added

-- what stands for none while costs are added, past all sums of them
abbrev pub far : ℕ
far = 4611686018427387903

-- a label so, and back
abbrev pub cap : (label : ℕ) → ℕ
cap label = min label far

abbrev pub uncap : (known : ℕ) → ℕ
uncap known = cond (eqb known far) none known

-- what an edge's cost adds
abbrev pub step_of : (cost : ℕ) → ℕ
step_of cost = cond (eqb cost closed) far cost

-- ---- one row

-- what place i of a row hands down: what is known of the position there, over the edge's cost
abbrev pub place_gives : (row costs known : List ℕ) (i : ℕ) → ℕ
place_gives row costs known i = cap (label_over (get_or known (get_or row i 0) 0) (get_or costs i 0))

-- a row, the costs down its edges, and what is known of the positions in it
pub record RowDown (row costs known : List ℕ) : Type 0 where
  pub same : length row ≡ length costs
  pub within : (i : ℕ) → i < length row → get_or row i 0 < 4096
  pub small : (i : ℕ) → i < length row → get_or known (get_or row i 0) 0 ≤ far

-- ---- all rows, from the highest down

-- positions below k have their labels from s, and from k on what the sweep finds for them, as numbers that can be added
pub record Reached (G : Graph) (C : EdgeCosts) (d : Direction) (s k : ℕ) (known : List ℕ) : Type 0 where
  pub long : length known ≡ 4096
  pub labels : (p : ℕ) → p < k → get_or known p 0 ≡ label (linked G) (along d (held G C)) s p
  pub reaches : (p : ℕ) → k ≤ p → p < count G.first → get_or known p 0 ≡ cap (reach (count G.first) (linked G) (along d (held G C)) s p)

-- all are labels, from some position
abbrev pub Labelled : (G : Graph) (C : EdgeCosts) (d : Direction) (known : List ℕ) → Type 0
Labelled G C d known = (s : ℕ) × Reached G C d s (count G.first) known

-- from whichever position they were labels, from k on they are now what the sweep from it finds
abbrev pub SweptDown : (G : Graph) (C : EdgeCosts) (d : Direction) (k : ℕ) (labels known : List ℕ) → Type 0
SweptDown G C d k labels known = (s : ℕ) → Reached G C d s (count G.first) labels → Reached G C d s k known

-- ---- the list

-- the positions of at most 4,096 junctions, and a place for each junction
pub record Places (rank distances : List ℕ) : Type 0 where
  pub few : length rank ≤ 4096
  pub as_many : length distances ≡ length rank
  pub position : (j : ℕ) → j < length rank → get_or rank j 0 < length rank

-- what is known of each junction's position is a number that can be added
abbrev pub AllCapped : (rank known : List ℕ) → Type 0
AllCapped rank known = (j : ℕ) → j < length rank → get_or known (get_or rank j 0) 0 ≤ far
