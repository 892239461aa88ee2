-- Arcs threaded by their tails, so that what a road costs is found without a search of all arcs. Assumes nothing.
use Rattle.std.specs.Prelude.{ℕ, zero, suc, ◌≤◌, ◌<◌, ◌≡◌, ◌&&◌, List, eqb, length, get_or, Option, Some, None}
use Rattle.rules.specs.Net.{Net, net}
use Rattle.theory.specs.Orders.{Ordered}
use Rattle.theory.specs.Threads.{last_below, Threaded}
use Rattle.roads.specs.declared.Roads.{Roads}

-- walking the threads stays among m arcs and ends
pub record Falls (m : ℕ) (R : Roads) : Type 0 where
  pub at_long : length R.at ≡ 4096
  pub next_long : length R.next ≡ 16384
  pub starts : (u : ℕ) → u < 4096 → get_or R.at u 0 ≤ m
  pub falls : (i : ℕ) → i < m → get_or R.next i 0 ≤ i

-- the arcs of these tails are threaded by them
abbrev pub Laid : (tails : List ℕ) (m : ℕ) (R : Roads) → Type 0
Laid tails m R = Threaded (λ i. get_or tails i 0) 4096 16384 m R.at R.next

-- the arcs are threaded by their tails
abbrev pub ByTail : (tails heads : List ℕ) (R : Roads) → Type 0
ByTail tails heads R = (length tails ≡ length heads) × Laid tails (length heads) R

-- the arc of which one more is told; none for 0
abbrev pub one_less : (k : ℕ) → Option ℕ
one_less zero = None
one_less (suc i) = Some i

-- the last arc listed from junction u to junction v
abbrev pub last_arc : (tails heads : List ℕ) (u v : ℕ) → Option ℕ
last_arc tails heads u v = one_less (last_below (λ i. eqb (get_or tails i 0) u && eqb (get_or heads i 0) v) (length heads))

-- an arc that is found is one of m
abbrev pub Within : (m : ℕ) (found : Option ℕ) → Type 0
Within m (Some i) = i < m
Within m None = Unit {0}

-- the net with other tails
abbrev pub with_tails : (N : Net) (tails : List ℕ) → Net
with_tails N tails = net tails N.heads N.costs N.order

-- what the search for the road between two positions of the net N reads
pub record RoadsIn (N : Net) (R : Roads) : Type 0 where
  pub few : length N.order ≤ 4096
  pub seats : Ordered N.order
  pub costs_long : length N.costs ≡ length N.heads
  pub fit : length N.heads ≤ 16384
  pub falls : Falls (length N.heads) R

-- the arcs of the net N, few enough, are threaded by their tails
pub record RoadsOf (N : Net) (R : Roads) : Type 0 where
  pub few : length N.order ≤ 4096
  pub seats : Ordered N.order
  pub costs_long : length N.costs ≡ length N.heads
  pub fit : length N.heads ≤ 16384
  pub falls : Falls (length N.heads) R
  pub by_tail : ByTail N.tails N.heads R
