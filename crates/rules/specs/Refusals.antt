-- "Numbers of refusal": each number's test and its place. Assumes nothing.
use Rattle.std.specs.Prelude.{ℕ, suc, Bool, false, cond, not, ◌&&◌, ◌||◌, List, [], ◌∷◌, eqb, ltb, leb, length, get_or}
use Rattle.rules.specs.Words.{some, lowest}
use Rattle.rules.specs.Costs.{closed, greatest, none}
use Rattle.rules.specs.Graph.{Graph}
use Rattle.rules.specs.Hierarchy.{EdgeCosts, is_hierarchy, linked}

-- what a check says: it passes, or gives its number and a place
pub data Verdict : Type 0 where
  passes : Verdict
  fails : (number place : ℕ) → Verdict

-- "Checks run in the order shown for each call": the first that fails decides
abbrev pub first_failure : List Verdict → Verdict
first_failure [] = passes
first_failure (passes ∷ vs) = first_failure vs
first_failure (fails k p ∷ vs) = fails k p

-- place 0
abbrev pub fails_if : (number : ℕ) (faulty : Bool) → Verdict
fails_if number faulty = cond faulty (fails number 0) passes

-- "the lowest fault of a kind gives the place", of count places
abbrev pub fails_at : (number : ℕ) (faulty : ℕ → Bool) (count : ℕ) → Verdict
fails_at number faulty count =
    cond (ltb (lowest faulty 0 count) count) (fails number (lowest faulty 0 count)) passes

-- 1: "n is 0 or over 4,096"
unfoldable pub check1 : (n : ℕ) → Verdict
check1 n = fails_if 1 (eqb n 0 || ltb 4096 n)

-- 2: "arc lists differ in length or exceed 16,384": one list is m long, the others as long as lengths says
unfoldable pub differ : (m : ℕ) (lengths : List ℕ) → Bool
differ m [] = false
differ m (k ∷ ks) = not (eqb k m) || differ m ks

unfoldable pub check2 : (m : ℕ) (lengths : List ℕ) → Verdict
unfolding differ
check2 m lengths = fails_if 2 (differ m lengths || ltb 16384 m)

-- 3: "an arc end is n or more"
abbrev pub end_fault : (n : ℕ) (tails heads : List ℕ) (i : ℕ) → Bool
end_fault n tails heads i = leb n (get_or tails i 0) || leb n (get_or heads i 0)

unfoldable pub check3 : (n : ℕ) (tails heads : List ℕ) → Verdict
unfolding lowest
check3 n tails heads = fails_at 3 (end_fault n tails heads) (length tails)

-- 4: "an order entry is n or more, or was seen earlier"
abbrev pub order_fault : (order : List ℕ) (p : ℕ) → Bool
order_fault order p = leb (length order) (get_or order p 0) || some (λ q. eqb (get_or order q 0) (get_or order p 0)) p

unfoldable pub check4 : (order : List ℕ) → Verdict
unfolding lowest some
check4 order = fails_at 4 (order_fault order) (length order)

-- 5: "rank room isn't n long or first room isn't n + 1"
unfoldable pub check5 : (n : ℕ) (rank first : List ℕ) → Verdict
check5 n rank first = fails_if 5 (not (eqb (length rank) n) || not (eqb (length first) (suc n)))

-- 6: "heads room is shorter than E"
unfoldable pub check6 : (e : ℕ) (row_heads : List ℕ) → Verdict
check6 e row_heads = fails_if 6 (ltb (length row_heads) e)

-- 7: "the lists aren't a hierarchy"
unfoldable pub check7 : (order rank : List ℕ) (G : Graph) → Verdict
unfolding is_hierarchy
check7 order rank G = fails_if 7 (not (is_hierarchy order rank G))

-- 8: "an arc with unequal ends has no edge"
abbrev pub lacks_edge : (tails heads rank : List ℕ) (G : Graph) (i : ℕ) → Bool
lacks_edge tails heads rank G i =
    not (eqb (get_or tails i 0) (get_or heads i 0))
    && not (linked G (get_or rank (get_or tails i 0) 0) (get_or rank (get_or heads i 0) 0))

unfoldable pub check8 : (tails heads rank : List ℕ) (G : Graph) → Verdict
unfolding lowest linked
check8 tails heads rank G = fails_at 8 (lacks_edge tails heads rank G) (length tails)

-- 9: "an arc cost is 0, or over 500,000 and not CLOSED"
abbrev pub unlawful : (cost : ℕ) → Bool
unlawful cost = eqb cost 0 || (ltb greatest cost && not (eqb cost closed))

unfoldable pub check9 : (costs : List ℕ) → Verdict
unfolding lowest
check9 costs = fails_at 9 (λ i. unlawful (get_or costs i 0)) (length costs)

-- 10: "up or down list is shorter than E"
unfoldable pub check10 : (e : ℕ) (C : EdgeCosts) → Verdict
check10 e C = fails_if 10 (ltb (length C.up) e || ltb (length C.down) e)

-- 11: "start or target is n or more"
unfoldable pub check11 : (n from to : ℕ) → Verdict
check11 n from to = fails_if 11 (leb n from || leb n to)

-- 15: "the distance list isn't n long"
unfoldable pub check15 : (n : ℕ) (distances : List ℕ) → Verdict
check15 n distances = fails_if 15 (not (eqb (length distances) n))

-- 16: "for the lowest junction whose distance isn't below CLOSED": "none" is no distance
abbrev pub too_far : (distance : ℕ) → Bool
too_far distance = leb closed distance && not (eqb distance none)

unfoldable pub check16 : (n : ℕ) (distance_of : ℕ → ℕ) → Verdict
unfolding lowest
check16 n distance_of = fails_at 16 (λ j. too_far (distance_of j)) n

-- 17: "an unlisted arc number"
unfoldable pub check17 : (arcs arc : ℕ) → Verdict
check17 arcs arc = fails_if 17 (leb arcs arc)

-- "9 for the new cost (place the arc)"
unfoldable pub check_new_cost : (arc cost : ℕ) → Verdict
check_new_cost arc cost = cond (unlawful cost) (fails 9 arc) passes
