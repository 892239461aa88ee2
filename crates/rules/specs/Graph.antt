-- "The shortcut graph": which positions are joined, and the lists that hold its rows. Assumes nothing.
use Rattle.std.specs.Prelude.{ℕ, zero, suc, ◌-◌, Bool, not, ◌&&◌, ◌||◌, List, [], ◌++◌, eqb, ltb, length, get_or}
use Rattle.rules.specs.Words.{some, those, tabulate}
use Rattle.rules.specs.Net.{Net, size, arcs, junction, runs, two_positions}

-- "Layout: the row of position p lists its higher neighbours in ascending order; "first" has n + 1 entries, row p occupying places first[p]
-- up to but not including first[p + 1] of "heads"": any two lists may be asked what they say as a graph
pub record Graph : Type 0 where
  pub first : List ℕ
  pub heads : List ℕ

abbrev pub graph : (first heads : List ℕ) → Graph
graph first heads = record { first = first; heads = heads }

-- "some arc, of any cost, runs between their junctions either way"
unfoldable pub arc_joins : (N : Net) (a b : ℕ) → Bool
unfolding some
arc_joins N a b =
    some (λ i. runs N (junction N a) (junction N b) i || runs N (junction N b) (junction N a) i) (arcs N)

-- "Join two positions if some arc, of any cost, runs between their junctions either way. Then, for each position from 0 upward, join all
-- its higher neighbours to one another": what is joined once the positions below k have had their turn
unfoldable pub joined_after : (N : Net) (k a b : ℕ) → Bool
unfolding arc_joins
joined_after N zero a b = two_positions N a b && arc_joins N a b
joined_after N (suc z) a b =
    joined_after N z a b
    || (ltb z a && ltb z b && not (eqb a b) && joined_after N z z a && joined_after N z z b)

-- every position has had its turn
unfoldable pub joined : (N : Net) (a b : ℕ) → Bool
unfolding joined_after
joined N a b = joined_after N (size N) a b

-- "the row of position p lists its higher neighbours in ascending order"
unfoldable pub row : (N : Net) (p : ℕ) → List ℕ
unfolding those joined
row N p = those (joined N p) (suc p) (size N - suc p)

-- "A position's parent is the lowest entry of its row"; the number of positions if the row is empty
unfoldable pub parent_of : (N : Net) (p : ℕ) → ℕ
unfolding row
parent_of N p = get_or (row N p) 0 (size N)

-- the rows of the positions below p, one after the other
unfoldable pub rows_below : (N : Net) (p : ℕ) → List ℕ
unfolding row
rows_below N zero = []
rows_below N (suc p) = rows_below N p ++ row N p

-- ""first" has n + 1 entries, row p occupying places first[p] up to but not including first[p + 1] of "heads""
unfoldable pub first_list : Net → List ℕ
unfolding tabulate rows_below
first_list N = tabulate (λ p. length (rows_below N p)) 0 (suc (size N))

unfoldable pub heads_list : Net → List ℕ
unfolding rows_below
heads_list N = rows_below N (size N)

-- "E counts the joined pairs": each stands once, in the row of its lower end; "first[n] = E"
unfoldable pub edge_count : Net → ℕ
unfolding heads_list
edge_count N = length (heads_list N)
