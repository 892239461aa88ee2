-- The turn of one position: what the lists hold before it and after it, and which edges are flagged. Assumes nothing.
use Rattle.std.specs.Prelude.{ℕ, ◌+◌, ◌*◌, ◌/◌, ◌≤◌, ◌<◌, ◌≡◌, ◌⊎◌, ◌≢◌, Bool, true, false, List, T, length, get_or, set}
use Rattle.rules.specs.declared.Direction.{Direction}
use Rattle.rules.specs.Costs.{closed}
use Rattle.rules.specs.Net.{Net, road_between}
use Rattle.rules.specs.Graph.{Graph}
use Rattle.rules.specs.Hierarchy.{EdgeCosts, edge_costs, linked, held, along}
use Rattle.rules.specs.Changed.{differs, reconsidered, new_cost, triangles_from}
use Rattle.theory.specs.Rows.{InRow, Lists, count}
use Rattle.rules.specs.Lent.{lent_net, lent_graph, chosen}
use Rattle.turns.specs.Edges.{edges_of, At, Kept}
use Rattle.roads.specs.declared.Roads.{Roads}
use Rattle.roads.specs.Roads.{RoadsOf}
use Rattle.reconsider.specs.Flags.{flagged, Flagged}
use Rattle.reconsider.specs.Marks.{says, Clear, Dirty}
use Rattle.look.specs.Looking.{gathered, Seats}
use Rattle.change.specs.declared.Shift.{Shift}
use Rattle.change.specs.declared.Scratch.{Scratch}

-- ---- the definition over lists

-- the costs after the change, where C₀ held those before it
abbrev pub new_of : (G : Graph) (before after : ℕ → ℕ → ℕ) (C₀ : EdgeCosts) (a b : ℕ) → ℕ
new_of G before after C₀ = new_cost (linked G) before after (held G C₀)

-- which edges are reconsidered
abbrev pub again : (G : Graph) (before after : ℕ → ℕ → ℕ) (C₀ : EdgeCosts) (a b : ℕ) → Bool
again G before after C₀ = reconsidered (linked G) before after (held G C₀) (new_of G before after C₀)

-- no road costs more than CLOSED, and only the pair (lo, hi) has another road than before
pub record Ways (N : Net) (lo hi : ℕ) (before : ℕ → ℕ → ℕ) : Type 0 where
  pub shut : (a b : ℕ) → road_between N a b ≤ closed
  pub only : (a b : ℕ) → a < b → T (differs before (road_between N) a b) → (a ≡ lo) × (b ≡ hi)
  pub there : T (differs before (road_between N) lo hi)

-- before the turn of x: lower rows have their new costs, the others stand as they did, and the edges that changed are flagged
pub record Standing (G : Graph) (before after : ℕ → ℕ → ℕ) (C₀ : EdgeCosts) (x : ℕ) (C : EdgeCosts) (flags : List ℕ) : Type 0 where
  pub kept : Kept G C₀ C
  pub lower : (p k : ℕ) → p < x → p < count G.first → InRow G p k → At G C (new_of G before after C₀) p k
  pub higher : (d : Direction) (p k : ℕ) → x ≤ p → p < count G.first → InRow G p k → get_or (chosen d C) k 0 ≡ get_or (chosen d C₀) k 0
  pub flag_e : (p k : ℕ) → p < count G.first → InRow G p k → T (flagged flags k)
      → (p < x) × T (differs (held G C₀) (new_of G before after C₀) p (get_or G.heads k 0))
  pub flag_i : (p k : ℕ) → p < x → p < count G.first → InRow G p k
      → T (differs (held G C₀) (new_of G before after C₀) p (get_or G.heads k 0)) → T (flagged flags k)

-- ---- roads of the marked edges

-- the first c of a list are the marked edges of the row of x, each once, by their places
pub record Listed (G : Graph) (marks : List Bool) (x : ℕ) (todo : List ℕ) (c : ℕ) : Type 0 where
  pub long : length todo ≡ 4096
  pub few : c ≤ 4096
  pub row : (t : ℕ) → t < c → InRow G x (get_or todo t 0)
  pub marked : (t : ℕ) → t < c → T (says marks (get_or G.heads (get_or todo t 0) 0))
  pub once : (s t : ℕ) → s < t → t < c → get_or todo s 0 < get_or todo t 0
  pub all : (k : ℕ) → InRow G x k → T (says marks (get_or G.heads k 0)) → (t : ℕ) × (t < c) × (get_or todo t 0 ≡ k)

-- and their roads stand at their higher ends
pub record LaidRow (N : Net) (G : Graph) (marks : List Bool) (x : ℕ) (D : EdgeCosts) (todo : List ℕ) (c : ℕ) : Type 0 where
  pub listed : Listed G marks x todo c
  pub seats : Seats D
  pub there : (d : Direction) (k : ℕ) → InRow G x k → T (says marks (get_or G.heads k 0))
      → get_or (chosen d D) (get_or G.heads k 0) 0 ≡ along d (road_between N) x (get_or G.heads k 0)

-- ---- new costs

-- both lists and the flags have a place k, and y is a position
pub record Spot (C : EdgeCosts) (words k y : ℕ) : Type 0 where
  pub up_in : k < length C.up
  pub down_in : k < length C.down
  pub word : k / 64 < words
  pub seat : y < 4096

-- the edge at place k of the row of x, to y: as it was, or new, and then flagged, and its row said to have such an edge; it is marked no more
pub data SettledAt (D : EdgeCosts) (x k y : ℕ) (C : EdgeCosts) (flags : List ℕ) (dirty marks : List Bool) (C' : EdgeCosts) (flags' : List ℕ) (dirty' marks' : List Bool)
    : Type 0 where
  as_before : ((d : Direction) → get_or (chosen d C) k 0 ≡ get_or (chosen d D) y 0) → C' ≡ C → flags' ≡ flags → dirty' ≡ dirty → marks' ≡ set marks y false
      → SettledAt D x k y C flags dirty marks C' flags' dirty' marks'
  made_new : (d : Direction) → get_or (chosen d C) k 0 ≢ get_or (chosen d D) y 0
      → C' ≡ edge_costs (set C.up k (get_or D.up y 0)) (set C.down k (get_or D.down y 0)) → Flagged k flags flags' → dirty' ≡ set dirty x true
      → marks' ≡ set marks y false → SettledAt D x k y C flags dirty marks C' flags' dirty' marks'

-- the marked edges of the row of x get the costs that stand at their higher ends, and are flagged where one of the two differs; no other changes
pub record Settled (G : Graph) (marks : List Bool) (D : EdgeCosts) (x : ℕ) (C : EdgeCosts) (flags : List ℕ) (C' : EdgeCosts) (flags' : List ℕ) : Type 0 where
  pub up_long : length C'.up ≡ length C.up
  pub down_long : length C'.down ≡ length C.down
  pub words : length flags' ≡ length flags
  pub others : (k : ℕ) → (InRow G x k → T (says marks (get_or G.heads k 0)) → ⊥)
      → ((d : Direction) → get_or (chosen d C') k 0 ≡ get_or (chosen d C) k 0) × (flagged flags' k ≡ flagged flags k)
  pub here : (d : Direction) (k : ℕ) → InRow G x k → T (says marks (get_or G.heads k 0))
      → get_or (chosen d C') k 0 ≡ get_or (chosen d D) (get_or G.heads k 0) 0
  pub flag_i : (d : Direction) (k : ℕ) → InRow G x k → T (says marks (get_or G.heads k 0))
      → get_or (chosen d C) k 0 ≢ get_or (chosen d D) (get_or G.heads k 0) 0 → T (flagged flags' k)
  pub flag_e : (k : ℕ) → InRow G x k → T (says marks (get_or G.heads k 0)) → T (flagged flags' k)
      → T (flagged flags k) ⊎ ((d : Direction) × (get_or (chosen d C) k 0 ≢ get_or (chosen d D) (get_or G.heads k 0) 0))

-- what the row of x has is no longer marked, and nothing is marked anew
pub record Cleared (G : Graph) (x : ℕ) (marks marks' : List Bool) : Type 0 where
  pub long : length marks' ≡ length marks
  pub gone : (k : ℕ) → InRow G x k → T (says marks' (get_or G.heads k 0)) → ⊥
  pub less : (y : ℕ) → T (says marks' y) → T (says marks y)

-- where an edge of the row of x was flagged, the row is said to have such an edge, and only a row with edges is; what is said of the others stays
pub record Noted (G : Graph) (x : ℕ) (flags flags' : List ℕ) (dirty dirty' : List Bool) : Type 0 where
  pub long : length dirty' ≡ length dirty
  pub here : (k : ℕ) → InRow G x k → T (flagged flags' k) → T (flagged flags k) ⊎ T (says dirty' x)
  pub full : T (says dirty' x) → T (says dirty x) ⊎ (get_or G.first x 0 < get_or G.first (x + 1) 0)
  pub stay : T (says dirty x) → T (says dirty' x)
  pub off : (z : ℕ) → z ≢ x → get_or dirty' z false ≡ get_or dirty z false

-- ---- the turn

-- all that the turns read and write: lists, threads, flags, the edge (lo, hi) whose road changed, and what it can reach
pub record Carriage (N : Net) (threads : Roads) (G : Graph) (C : EdgeCosts) (words lo hi : ℕ) : Type 0 where
  pub lists : Lists G C
  pub size_is : length N.order ≡ count G.first
  pub roads : RoadsOf N threads
  pub flags_long : edges_of G ≤ words * 64
  pub rising : lo < hi
  pub edge : T (linked G lo hi)

-- what the turns write beside the lists: the rows with a flagged edge are said to be so, no mark is left over, and there is a place for each position
pub record Ready (G : Graph) (flags : List ℕ) (dirty marks : List Bool) (D : EdgeCosts) (todo : List ℕ) : Type 0 where
  pub dirt : Dirty G flags dirty
  pub clear : Clear marks
  pub seats : Seats D
  pub todo_long : length todo ≡ 4096

-- the turn of x, whatever the roads were before: it leads from what stands before it to what stands after it, and the lower
-- triangles of the row of x that are to be looked at make r, with the s before
pub record Stepped (N : Net) (G : Graph) (lo hi x : ℕ) (C : EdgeCosts) (flags : List ℕ) (dirty : List Bool) (C' : EdgeCosts) (flags' : List ℕ) (dirty' : List Bool)
    (s r : ℕ) : Type 0 where
  pub kept : Kept G C C'
  pub words : length flags' ≡ length flags
  pub few : r ≤ s + 16777216
  pub dirty_off : (z : ℕ) → z ≢ x → get_or dirty' z false ≡ get_or dirty z false
  pub dirty_full : T (says dirty' x) → T (says dirty x) ⊎ (get_or G.first x 0 < get_or G.first (x + 1) 0)
  pub turned : (before : ℕ → ℕ → ℕ) (C₀ : EdgeCosts) → Ways N lo hi before
      → Standing G before (road_between N) C₀ x C flags
      → Standing G before (road_between N) C₀ (x + 1) C' flags'
      × (r ≡ s + triangles_from (linked G) (again G before (road_between N) C₀) (count G.first) x)

-- ---- as they come in

-- all that the turns read and write, of a road that has changed
abbrev pub ShiftIn : (s : Shift) (C : EdgeCosts) (words : ℕ) → Type 0
ShiftIn s C words = Carriage (lent_net s.net) s.roads.now (lent_graph s.graph) C words s.lo s.hi

-- what the turns write beside the lists and the flags
abbrev pub ScratchReady : (G : Graph) (flags : List ℕ) (w : Scratch) → Type 0
ScratchReady G flags w = Ready G flags w.dirty w.marks (gathered w.row) w.todo.places
