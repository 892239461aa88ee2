-- The row of one position, brought together from its arcs and from the rows of its children. Assumes nothing.
use Rattle.std.specs.Prelude.{ℕ, suc, ◌≤◌, ◌<◌, ◌≡◌, Bool, T, eqb, length, get_or, drop}
use Rattle.rules.specs.Graph.{Graph}
use Rattle.rules.specs.Hierarchy.{row_at, row_ascends}
use Rattle.theory.specs.Threads.{Threaded, downward}
use Rattle.gather.specs.NextMembers.{nobody, also_all}
use Rattle.gather.specs.declared.ArcThreads.{ArcThreads}
use Rattle.gather.specs.declared.ChildThreads.{ChildThreads}
use Rattle.gather.specs.Arcs.{Arcs, ThreadsOf, with_arcs}

-- the parent of c as the lists have it, the lowest entry of its row; n if the row is empty
abbrev pub parent_in : (G : Graph) (n c : ℕ) → ℕ
parent_in G n c = get_or (row_at G c) 0 n

-- the set of p with the rows of p's children but for their first entry, which is p
abbrev pub with_children : (G : Graph) (n p : ℕ) (S : ℕ → Bool) → ℕ → Bool
with_children G n p = downward (λ c. eqb (parent_in G n c) p) (λ c. also_all (drop 1 (row_at G c))) p

-- the rows below p are in place
pub record RowsIn (G : Graph) (n p : ℕ) : Type 0 where
  pub few : n ≤ 4096
  pub first_long : length G.first ≡ suc n
  pub within : (c : ℕ) → c < p → (get_or G.first c 0 ≤ get_or G.first (suc c) 0) × (get_or G.first (suc c) 0 ≤ length G.heads)
  pub ascend : (c : ℕ) → c < p → T (row_ascends n G c)

-- the arcs and the rows below p from which the row of p is brought together
pub record Gatherable {N : ℕ} (R : Arcs) (G : Graph) (arcs : ArcThreads N) (children : ChildThreads) (n p : ℕ) : Type 0 where
  pub inside : p < n
  pub arcs_threaded : ThreadsOf R n arcs
  pub rows : RowsIn G n p
  pub children_threaded : Threaded (parent_in G n) n 4096 p children.at children.next

-- what they bring
abbrev pub gathered : (R : Arcs) (G : Graph) (n p : ℕ) → ℕ → Bool
gathered R G n p = with_children G n p (with_arcs R p nobody)
