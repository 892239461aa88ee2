-- What the functions over lent lists promise: a check's verdict, the row search's answer, a row's part of one of the two cost lists, a list
-- filled.
-- Assumes nothing.
use Rattle.std.specs.Prelude.{ℕ, ◌+◌, ◌-◌, ◌≤◌, ◌<◌, ◌≡◌, cond, List, ◌++◌, eqb, ltb, length, get_or, take, drop, replicate, Option, Some, None, Result, Ok, Err, ⊤}
use Rattle.rules.specs.declared.Refusal.{Refusal}
use Rattle.rules.specs.Words.{lowest}
use Rattle.rules.specs.Graph.{Graph}
use Rattle.rules.specs.Replies.{refusal_number, refusal_place}
use Rattle.rules.specs.Refusals.{Verdict, passes, fails}

-- what a check answers, in the paper's numbers
abbrev pub verdict : Result ⊤ Refusal → Verdict
verdict (Ok x) = passes
verdict (Err r) = fails (refusal_number r) (refusal_place r)

-- "Rows ascend": from `from` up to `to`, what stands at a later place is higher
abbrev pub Ascending : (heads : List ℕ) (from to : ℕ) → Type 0
Ascending heads from to = (i j : ℕ) → from ≤ i → i < j → j < to → get_or heads i 0 < get_or heads j 0

-- "A row that has no edge to the wanted position says so": the lowest place from `from` up to `to` that holds y, or nothing
unfoldable pub found_in : (heads : List ℕ) (from to y : ℕ) → Option ℕ
unfolding lowest
found_in heads from to y =
    let k = lowest (λ i. eqb (get_or heads i 0) y) from (to - from) in
    cond (ltb k to) (Some k) None

-- y stands at place k, one of those from `from` up to `to`
pub record Placed (heads : List ℕ) (from to y k : ℕ) : Type 0 where
  pub low : from ≤ k
  pub high : k < to
  pub there : get_or heads k 0 ≡ y

-- the place of the edge from x to the higher y, or nothing
abbrev pub edge_found : (G : Graph) (x y : ℕ) → Option ℕ
edge_found G x y = found_in G.heads (get_or G.first x 0) (get_or G.first (x + 1) 0) y

-- the list with a value at every place from `from` on
abbrev pub filled : (l : List ℕ) (from value : ℕ) → List ℕ
filled l from value = take from l ++ replicate (length l - from) value

-- the elements from place `from` up to but not including `to`
abbrev pub part : (from to : ℕ) (l : List ℕ) → List ℕ
part from to l = take (to - from) (drop from l)
