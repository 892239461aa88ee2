-- "Route", over any joined pairs and any costs; road and arc say what the arc in force between two positions costs and which it is.
-- Assumes nothing.
use Rattle.std.specs.Prelude.{ℕ, zero, suc, ◌-◌, min, Bool, cond, not, ◌&&◌, List, [], ◌∷◌, ◌++◌, reverse, eqb, ltb, length, replicate}
use Rattle.rules.specs.declared.Direction.{Direction}
use Rattle.rules.specs.declared.Direction.TheVariants.{Up, Down}
use Rattle.rules.specs.Words.{lowest}
use Rattle.rules.specs.Costs.{closed, add_up}
use Rattle.rules.specs.Hierarchy.{along}
use Rattle.rules.specs.Distance.{label_from, meeting}

-- a piece: an edge driven from one of its ends to the other
pub record Piece : Type 0 where
  pub from : ℕ
  pub to : ℕ

abbrev pub piece : (from to : ℕ) → Piece
piece a b = record { from = a; to = b }

-- "the edges from s up to the meeting position": those to p, by where each label comes from, each driven in a direction;
-- k bounds how often p falls
unfoldable pub edges_within : (joined : ℕ → ℕ → Bool) (cost : ℕ → ℕ → ℕ) (d : Direction) (s k p : ℕ) → List Piece
unfolding label_from
edges_within joined cost d s zero p = []
edges_within joined cost d s (suc k) p =
    cond (eqb p s) []
    (let q = label_from joined (along d cost) s p in
    edges_within joined cost d s k q ++ (along d piece q p ∷ []))

-- "The pieces are the edges from s up to the meeting position, then those down to t"
unfoldable pub pieces : (n : ℕ) (joined : ℕ → ℕ → Bool) (cost : ℕ → ℕ → ℕ) (s t : ℕ) → List Piece
unfolding edges_within meeting
pieces n joined cost s t =
    let m = meeting n joined cost s t in
    edges_within joined cost Up s (suc m) m ++ reverse (edges_within joined cost Down t (suc m) m)

-- what is met on the way: an arc to drive, or a piece that has "neither a fitting arc nor a fitting z"
pub data Event : Type 0 where
  drives : ℕ → Event
  misfits : Event

-- "A piece with cost w is taken as the arc in force in its direction if that arc's cost is w"
abbrev pub arc_fits : (cost road : ℕ → ℕ → ℕ) (a b : ℕ) → Bool
arc_fits cost road a b = not (eqb (road a b) closed) && eqb (road a b) (cost a b)

-- "z, below both ends and joined to both, whose costs are finite and add up to w"
abbrev pub z_fits : (joined : ℕ → ℕ → Bool) (cost : ℕ → ℕ → ℕ) (a b z : ℕ) → Bool
z_fits joined cost a b z = joined z a && joined z b && add_up (cost a z) (cost z b) (cost a b)

-- "the lowest z"; the lower end if none fits
unfoldable pub middle : (joined : ℕ → ℕ → Bool) (cost : ℕ → ℕ → ℕ) (a b : ℕ) → ℕ
unfolding lowest
middle joined cost a b = lowest (z_fits joined cost a b) 0 (min a b)

-- "otherwise as its two parts over the lowest z"; "Either kind opens into a downward piece and then an upward piece, each with a lower low
-- end, until only arcs are left": what is met from a to b; k bounds how often the low end falls
unfoldable pub opened : (joined : ℕ → ℕ → Bool) (cost road arc : ℕ → ℕ → ℕ) (k a b : ℕ) → List Event
unfolding middle
opened joined cost road arc zero a b = misfits ∷ []
opened joined cost road arc (suc k) a b =
    cond (arc_fits cost road a b) (drives (arc a b) ∷ [])
    (cond (ltb (middle joined cost a b) (min a b))
    (opened joined cost road arc k a (middle joined cost a b)
    ++ opened joined cost road arc k (middle joined cost a b) b)
    (misfits ∷ []))

-- "pieces are opened from the start of the route, each down to its arcs before the next"
unfoldable pub opened_all : (joined : ℕ → ℕ → Bool) (cost road arc : ℕ → ℕ → ℕ) (way : List Piece) → List Event
unfolding opened
opened_all joined cost road arc [] = []
opened_all joined cost road arc (x ∷ xs) =
    opened joined cost road arc (suc (min x.from x.to)) x.from x.to ++ opened_all joined cost road arc xs

-- all that is met from s to t
unfoldable pub met : (n : ℕ) (joined : ℕ → ℕ → Bool) (cost road arc : ℕ → ℕ → ℕ) (s t : ℕ) → List Event
unfolding opened_all pieces
met n joined cost road arc s t = opened_all joined cost road arc (pieces n joined cost s t)

-- "the first trouble met is the one given", with so many places left: 12 "an arc of the route has no place left", 13 "a piece has neither
-- a fitting arc nor a fitting z"; 0 for none
unfoldable pub trouble : (room : ℕ) (way : List Event) → ℕ
trouble room [] = 0
trouble room (misfits ∷ es) = 13
trouble zero (drives i ∷ es) = 12
trouble (suc room) (drives i ∷ es) = trouble room es

-- the arcs met, in driving order
unfoldable pub driven : List Event → List ℕ
driven [] = []
driven (drives i ∷ es) = i ∷ driven es
driven (misfits ∷ es) = driven es

-- "the route list holds arc numbers in driving order, and 4,294,967,295 in all other places"
unfoldable pub route_list : (arcs : List ℕ) (room : ℕ) → List ℕ
route_list arcs room = arcs ++ replicate (room - length arcs) closed
