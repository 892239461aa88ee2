-- What the walks up the chains of parents ask and promise. Assumes nothing.
use Rattle.std.specs.Prelude.{ℕ, ◌+◌, ◌≤◌, ◌<◌, min, ◌≡◌, ◌≢◌, Bool, List, T, eqb, length, get_or}
use Rattle.rules.specs.Calls.{listed_distance}
use Rattle.rules.specs.Costs.{closed, none, label_over}
use Rattle.rules.specs.Distance.{label, label_from, meeting}
use Rattle.rules.specs.Graph.{Graph}
use Rattle.rules.specs.Hierarchy.{EdgeCosts, linked, held, along}
use Rattle.rules.specs.Words.{least, lowest, sum_to}
use Rattle.rules.specs.declared.Direction.TheVariants.{Up, Down}
use Rattle.rules.specs.declared.Direction.{Direction}
use Rattle.theory.specs.Parents.{Chain}
use Rattle.theory.specs.Rows.{Rows, count}

-- the labels from s, all on its chain of parents, and where each label above s came from: the lowest such position; no step is over CLOSED
pub record Climbed (n : ℕ) (joined : ℕ → ℕ → Bool) (step : ℕ → ℕ → ℕ) (s : ℕ) (labels came : List ℕ) : Type 0 where
  pub long : length labels ≡ 4096
  pub came_long : length came ≡ 4096
  pub labelled : (p : ℕ) → p < n → get_or labels p 0 ≡ label joined step s p
  pub source : (p : ℕ) → s < p → p < n → label joined step s p < none → get_or came p 0 ≡ label_from joined step s p
  pub on_chain : (p : ℕ) → label joined step s p < none → Chain (λ a b. T (joined a b)) p s
  pub small : (a b : ℕ) → step a b ≤ closed

-- ---- one offer

-- a number b that came from a, once o is offered from q: only a smaller one is taken, and no offer is over the number for none
pub data Offered (q o b a b' a' : ℕ) : Type 0 where
  taken : o < b → b' ≡ o → a' ≡ q → Offered q o b a b' a'
  kept : min b none ≤ o → b' ≡ b → a' ≡ a → Offered q o b a b' a'

-- o offered from q to position p, and to no other
pub record OfferedTo (p q o : ℕ) (labels came labels' came' : List ℕ) : Type 0 where
  pub there : Offered q o (get_or labels p 0) (get_or came p 0) (get_or labels' p 0) (get_or came' p 0)
  pub long : length labels' ≡ length labels
  pub came_long : length came' ≡ length came
  pub labels_kept : (x : ℕ) → x ≢ p → get_or labels' x 0 ≡ get_or labels x 0
  pub came_kept : (x : ℕ) → x ≢ p → get_or came' x 0 ≡ get_or came x 0

-- ---- one row

-- what is known of a position is none, or leaves room for a cost
abbrev pub Small : (known : ℕ) → Type 0
Small known = known ≢ none → known + closed < none

-- the row of q and its costs, and the labels so far
pub record RowOf (q : ℕ) (row costs labels : List ℕ) : Type 0 where
  pub same : length row ≡ length costs
  pub own : q < 4096
  pub within : (i : ℕ) → i < length row → get_or row i 0 < 4096
  pub climbs : (i j : ℕ) → i < j → j < length row → get_or row i 0 < get_or row j 0
  pub small : Small (get_or labels q 0)

-- the label `mine` of q has been handed on along the first i edges of its row, and nothing else has changed
pub record HandedOn (q mine : ℕ) (row costs : List ℕ) (i : ℕ) (labels came labels' came' : List ℕ) : Type 0 where
  pub within : i ≤ length row
  pub long : length labels' ≡ length labels
  pub came_long : length came' ≡ length came
  pub here : (j : ℕ) → j < i
      → Offered q (label_over mine (get_or costs j 0)) (get_or labels (get_or row j 0) 0) (get_or came (get_or row j 0) 0)
      (get_or labels' (get_or row j 0) 0) (get_or came' (get_or row j 0) 0)
  pub labels_kept : (p : ℕ) → ((j : ℕ) → j < i → get_or row j 0 ≢ p) → get_or labels' p 0 ≡ get_or labels p 0
  pub came_kept : (p : ℕ) → ((j : ℕ) → j < i → get_or row j 0 ≢ p) → get_or came' p 0 ≡ get_or came p 0

-- ---- where two lists of labels meet

-- "sum of both labels at one position"
abbrev pub sums_at : (a b : List ℕ) (p : ℕ) → ℕ
sums_at a b p = sum_to none (get_or a p 0) (get_or b p 0)

-- labels that all stand on the chain of parents of t
pub record Chained (G : Graph) (t : ℕ) (labels : List ℕ) : Type 0 where
  pub rows : Rows (count G.first) G
  pub few : count G.first ≤ 4096
  pub start : t < count G.first
  pub on_chain : (p : ℕ) → p < count G.first → get_or labels p 0 < none → Chain (λ a b. T (linked G a b)) p t

-- the least sum, and where there is one, the lowest position that has it
pub record Met (n : ℕ) (a b : List ℕ) (sum at : ℕ) : Type 0 where
  pub is_least : sum ≡ least (sums_at a b) none n
  pub is_lowest : sum < none → at ≡ lowest (λ p. eqb (sums_at a b p) sum) 0 n

-- where labels from s came from: for each position above s that has one "the lowest q"
pub record Sources (G : Graph) (C : EdgeCosts) (d : Direction) (s : ℕ) (came : List ℕ) : Type 0 where
  pub source : (p : ℕ) → s < p → p < count G.first → label (linked G) (along d (held G C)) s p < none
      → get_or came p 0 ≡ label_from (linked G) (along d (held G C)) s p

-- the distance from s to t by the lists as they are, "the lowest meeting position" where there is one, and where the labels came from
pub record MetBetween (G : Graph) (C : EdgeCosts) (s t sum at : ℕ) (came_up came_down : List ℕ) : Type 0 where
  pub is_distance : sum ≡ listed_distance (count G.first) G C s t
  pub is_meeting : sum < none → at ≡ meeting (count G.first) (linked G) (held G C) s t
  pub up_sources : Sources G C Up s came_up
  pub down_sources : Sources G C Down t came_down
