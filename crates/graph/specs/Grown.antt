-- The rows as they are written, from position 0 upward. Assumes nothing.
use Rattle.std.specs.Prelude.{ℕ, suc, ◌≤◌, ◌<◌, ◌≡◌, Bool, List, [], ◌++◌, length, get_or, take, Option, Some, None}
use Rattle.rules.specs.Net.{Net, net, size}
use Rattle.rules.specs.Graph.{Graph, rows_below, first_list, heads_list, edge_count, parent_of}
use Rattle.theory.specs.Orders.{Inverse}
use Rattle.theory.specs.Threads.{Threaded}
use Rattle.gather.specs.declared.ArcThreads.{ArcThreads}
use Rattle.gather.specs.declared.ChildThreads.{ChildThreads}
use Rattle.gather.specs.NextMembers.{members}
use Rattle.gather.specs.Arcs.{arcs_of, ThreadsOf}

-- ---- a row written

-- the members of the set of p have been written behind the first `at` entries, up to the place told; or there was not room for them
abbrev pub Writes : (S : ℕ → Bool) (n p at : ℕ) (before heads : List ℕ) (r : Option ℕ) → Type 0
Writes S n p at before heads (Some e) = (e ≤ length heads) × (take e heads ≡ take at before ++ members S n p)
Writes S n p at before heads None = length before < length (take at before ++ members S n p)

-- ---- all rows below p written

-- the arcs of some roads are threaded by the positions of their lower ends, and their higher ends kept
pub record Laid {M : ℕ} (order : List ℕ) (arcs : ArcThreads M) : Type 0 where
  pub tails : List ℕ
  pub heads : List ℕ
  pub rank : List ℕ
  pub few : length order ≤ 4096
  pub ranks : Inverse order rank
  pub ends_in : (i : ℕ) → i < length tails → (get_or tails i 0 < length order) × (get_or heads i 0 < length order)
  pub threads : ThreadsOf (arcs_of tails heads rank) (length order) arcs

-- the net of those roads
abbrev pub roads : {M : ℕ} {order : List ℕ} {arcs : ArcThreads M} (L : Laid order arcs) → Net
roads {M} {order} L = net L.tails L.heads [] order

-- the rows below p are written, first says where, and the positions below p are threaded by their parents
pub record Grown (N : Net) (G : Graph) (children : ChildThreads) (p : ℕ) : Type 0 where
  pub within : p ≤ size N
  pub first_long : length G.first ≡ suc (size N)
  pub room : length (rows_below N p) ≤ length G.heads
  pub written : take (length (rows_below N p)) G.heads ≡ rows_below N p
  pub starts : (k : ℕ) → k ≤ p → get_or G.first k 0 ≡ length (rows_below N k)
  pub threads : Threaded (parent_of N) (size N) 4096 p children.at children.next

-- the row of p can be written
pub record Ready {M : ℕ} (order : List ℕ) (G : Graph) (arcs : ArcThreads M) (children : ChildThreads) (p : ℕ) : Type 0 where
  pub laid : Laid order arcs
  pub inside : p < length order
  pub grown : Grown (roads laid) G children p

-- what the row of p leaves: one row more, or the finding that the rows have more entries than there is room for
abbrev pub Grows : (N : Net) (G : Graph) (children : ChildThreads) (p room : ℕ) (r : Option ℕ) → Type 0
Grows N G children p room (Some e) = Grown N G children (suc p)
Grows N G children p room None = room < length (rows_below N (suc p))

-- what all rows leave: their lists, and the next free place; or the finding that there is not room for E entries
abbrev pub Fills : (N : Net) (G : Graph) (room : ℕ) (r : Option ℕ) → Type 0
Fills N G room (Some e) = (e ≤ length G.heads) × (take e G.heads ≡ heads_list N) × (G.first ≡ first_list N)
Fills N G room None = room < edge_count N
