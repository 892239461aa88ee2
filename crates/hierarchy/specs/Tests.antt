-- The tests that the checks of a graph's lists make: the order and the rank list by one, the rows by the parent's row.
-- Assumes nothing.
use Rattle.std.specs.Prelude.{ℕ, suc, ◌≤◌, ◌<◌, Bool, true, false, cond, ◌&&◌, List, [], ◌∷◌, eqb, ltb, leb, length, get_or}
use Rattle.rules.specs.Words.{each}
use Rattle.rules.specs.Graph.{Graph}
use Rattle.rules.specs.Hierarchy.{row_at, first_rises, heads_reach, row_ascends, rest_in_parent}

-- the junction at position p is one of the net, and the rank list gives p back
abbrev pub seat_agrees : (order rank : List ℕ) (p : ℕ) → Bool
seat_agrees order rank p = ltb (get_or order p 0) (length order) && eqb (get_or rank (get_or order p 0) 0) p

-- the rank list is as long as the order and gives back every position
unfoldable pub seats_agree : (order rank : List ℕ) → Bool
unfolding each
seats_agree order rank = eqb (length rank) (length order) && each (seat_agrees order rank) (length order)

-- what the definition of a hierarchy asks of first and heads
unfoldable pub rows_hold : (n : ℕ) (G : Graph) → Bool
unfolding each first_rises row_ascends rest_in_parent
rows_hold n G =
    first_rises n G.first
    && heads_reach n G
    && each (row_ascends n G) n
    && each (λ p. rest_in_parent G (row_at G p)) n

-- the first list comes in order in the second
unfoldable pub in_order : (entries row : List ℕ) → Bool
in_order [] ys = true
in_order (x ∷ xs) [] = false
in_order (x ∷ xs) (y ∷ ys) = cond (eqb y x) (in_order xs ys) (in_order (x ∷ xs) ys)

-- a row of position p: none, or the parent lies above p and below n and the rest comes in order in the parent's row
unfoldable pub under_parent : (n : ℕ) (G : Graph) (p : ℕ) (row : List ℕ) → Bool
unfolding in_order
under_parent n G p [] = true
under_parent n G p (parent ∷ rest) = ltb p parent && ltb parent n && in_order rest (row_at G parent)

-- row p does not end before it starts, and is so
unfoldable pub row_holds : (n : ℕ) (G : Graph) (p : ℕ) → Bool
unfolding under_parent
row_holds n G p = leb (get_or G.first p 0) (get_or G.first (suc p) 0) && under_parent n G p (row_at G p)

-- the rows from p on lie within heads, and so does what stands before them
pub record RowsFrom (n : ℕ) (G : Graph) (p : ℕ) : Type 0 where
  pub fits : get_or G.first p 0 ≤ length G.heads
  pub rise : (q : ℕ) → p ≤ q → q < n → (get_or G.first q 0 ≤ get_or G.first (suc q) 0) × (get_or G.first (suc q) 0 ≤ length G.heads)
