-- "A set of lists is a hierarchy when ..", and what such lists say: rows, joined pairs, an edge's place, the costs held there.
-- Any lists may be asked. Assumes nothing.
use Rattle.std.specs.Prelude.{ℕ, suc, ◌-◌, min, max, Bool, true, cond, ◌&&◌, List, [], ◌∷◌, eqb, ltb, leb, length, get_or}
use Rattle.std.proofs.Math.Seq.{slice}
use Rattle.rules.specs.declared.Direction.{Direction}
use Rattle.rules.specs.declared.Direction.TheVariants.{Up, Down}
use Rattle.rules.specs.Words.{each, lowest, has}
use Rattle.rules.specs.Graph.{Graph}
use Rattle.rules.specs.Costs.{closed}

-- "row p occupying places first[p] up to but not including first[p + 1] of "heads""
abbrev pub row_at : (G : Graph) (p : ℕ) → List ℕ
row_at G p = slice (get_or G.first p 0) (get_or G.first (suc p) 0) G.heads

-- "the rank list has length n and inverts the order"
unfoldable pub inverts : (order rank : List ℕ) → Bool
unfolding each
inverts order rank =
    eqb (length rank) (length order) && each (λ p. eqb (get_or rank (get_or order p 0) 0) p) (length order)

-- "first has length n + 1, starts with 0 and never falls"
unfoldable pub first_rises : (n : ℕ) (first : List ℕ) → Bool
unfolding each
first_rises n first =
    eqb (length first) (suc n)
    && eqb (get_or first 0 0) 0
    && each (λ p. leb (get_or first p 0) (get_or first (suc p) 0)) n

-- "first[n] is at most the length of heads"
abbrev pub heads_reach : (n : ℕ) (G : Graph) → Bool
heads_reach n G = leb (get_or G.first n 0) (length G.heads)

-- "strictly ascending", from lo on, "and below n"
unfoldable pub ascends : (lo n : ℕ) (row : List ℕ) → Bool
ascends lo n [] = true
ascends lo n (q ∷ qs) = leb lo q && ltb q n && ascends (suc q) n qs

-- "each row is strictly ascending, above its position and below n"
unfoldable pub row_ascends : (n : ℕ) (G : Graph) (p : ℕ) → Bool
unfolding ascends
row_ascends n G p = ascends (suc p) n (row_at G p)

-- each entry stands in the row
unfoldable pub all_in : (entries row : List ℕ) → Bool
unfolding has
all_in [] row = true
all_in (q ∷ qs) row = has row q && all_in qs row

-- "every entry of a row but its first stands in the parent's row too"; "A position's parent is the lowest entry of its row"
unfoldable pub rest_in_parent : (G : Graph) (row : List ℕ) → Bool
unfolding all_in
rest_in_parent G [] = true
rest_in_parent G (parent ∷ rest) = all_in rest (row_at G parent)

-- "A set of lists is a hierarchy when" all of that holds
unfoldable pub is_hierarchy : (order rank : List ℕ) (G : Graph) → Bool
unfolding inverts first_rises row_ascends rest_in_parent each
is_hierarchy order rank G =
    inverts order rank
    && first_rises (length order) G.first
    && heads_reach (length order) G
    && each (row_ascends (length order) G) (length order)
    && each (λ p. rest_in_parent G (row_at G p)) (length order)

-- "Its E is first[n]"
abbrev pub its_e : (order : List ℕ) (G : Graph) → ℕ
its_e order G = get_or G.first (length order) 0

-- two positions are joined: the row of the lower has the higher
unfoldable pub linked : (G : Graph) (a b : ℕ) → Bool
unfolding has
linked G a b = has (row_at G (min a b)) (max a b)

-- the place of the edge (x, y), x below y: the lowest of row x that holds y; the end of the row if none does
unfoldable pub place : (G : Graph) (x y : ℕ) → ℕ
unfolding lowest
place G x y =
    lowest (λ i. eqb (get_or G.heads i 0) y) (get_or G.first x 0) (get_or G.first (suc x) 0 - get_or G.first x 0)

-- the row in which a place lies: the lower end of the edge there
unfoldable pub row_of : (n : ℕ) (G : Graph) (k : ℕ) → ℕ
unfolding lowest
row_of n G k = lowest (λ p. ltb k (get_or G.first (suc p) 0)) 0 n

-- "Each edge (x, y), x below y, has an up cost, x to y, and a down cost, y to x, held in two lists at the edge's place"
pub record EdgeCosts : Type 0 where
  pub up : List ℕ
  pub down : List ℕ

abbrev pub edge_costs : (up down : List ℕ) → EdgeCosts
edge_costs up down = record { up = up; down = down }

-- the cost held from a to b
unfoldable pub held : (G : Graph) (C : EdgeCosts) (a b : ℕ) → ℕ
unfolding place
held G C a b = cond (ltb a b) (get_or C.up (place G a b) closed) (get_or C.down (place G b a) closed)

-- what goes from x to y where x is the lower end: along an edge upward it is x to y, downward y to x
abbrev pub along : {A : Type 0} (d : Direction) (f : ℕ → ℕ → A) (x y : ℕ) → A
along Up f x y = f x y
along Down f x y = f y x

-- the other way along the same edge
abbrev pub opposite : (d : Direction) → Direction
opposite Up = Down
opposite Down = Up
