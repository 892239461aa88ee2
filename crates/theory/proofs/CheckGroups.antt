-- Some checks of a call taken together as one: so a function that makes a few checks serves each call that makes them. Assumes nothing.
use Prim.Native.Nat.{ℕ}
use mathlib.Core.Path.{◌≡◌, refl, ◌∙◌}
use mathlib.Core.List.{List, [], ◌∷◌, ◌++◌}
use lib.ListN.{length}
use Rattle.rules.specs.Net.{Net, size}
use Rattle.rules.specs.Hierarchy.{EdgeCosts, its_e}
use Rattle.rules.specs.Refusals.{Verdict, passes, fails, first_failure, check1, check2, check3, check4, check7, check8, check9, check10, check11}
use Rattle.theory.proofs.Verdicts.{alone}
use Rattle.rules.specs.Calls.{customise_checks, distance_checks}
use Rattle.rules.specs.Graph.{Graph}

-- what the last check says is what is left
pub first_last : {w v : Verdict} → w ≡ v → w ≡ first_failure (v ∷ [])
first_last {v} e = e ∙ alone v

-- the first failure of checks is that of the first few taken together and the rest
first_group : (vs ws : List Verdict) → first_failure (vs ++ ws) ≡ first_failure (first_failure vs ∷ ws)
first_group [] ws = refl
first_group (passes ∷ vs) ws = first_group vs ws
first_group (fails k p ∷ vs) ws = refl

-- the same after a check
first_after : (v : Verdict) (vs ws : List Verdict) → first_failure vs ≡ first_failure ws → first_failure (v ∷ vs) ≡ first_failure (v ∷ ws)
first_after passes vs ws e = e
first_after (fails k p) vs ws e = refl

-- customise's checks: those of the arcs, those of the graph, and the rest
pub customise_groups : (N : Net) (rank : List ℕ) (G : Graph) (C : EdgeCosts) → customise_checks N rank G C
    ≡ first_failure
    (first_failure (check1 (size N) ∷ check2 (length N.tails) (length N.heads ∷ length N.costs ∷ []) ∷ check3 (size N) N.tails N.heads ∷ [])
    ∷ first_failure (check4 N.order ∷ check7 N.order rank G ∷ [])
    ∷ check8 N.tails N.heads rank G
    ∷ check9 N.costs
    ∷ check10 (its_e N.order G) C
    ∷ [])
unfolding customise_checks
customise_groups N rank G C =
    let roads = check1 (size N) ∷ check2 (length N.tails) (length N.heads ∷ length N.costs ∷ []) ∷ check3 (size N) N.tails N.heads ∷ [] in
    let graph = check4 N.order ∷ check7 N.order rank G ∷ [] in
    let rest = check8 N.tails N.heads rank G ∷ check9 N.costs ∷ check10 (its_e N.order G) C ∷ [] in
    first_group roads (graph ++ rest) ∙ first_after (first_failure roads) (graph ++ rest) (first_failure graph ∷ rest) (first_group graph rest)

-- distance's checks: only the last is about the junctions
pub distance_last : (order rank : List ℕ) (G : Graph) (C : EdgeCosts) (from to : ℕ) → distance_checks order rank G C from to
    ≡ first_failure
    (first_failure (check1 (length order) ∷ check4 order ∷ check7 order rank G ∷ check10 (its_e order G) C ∷ [])
    ∷ check11 (length order) from to
    ∷ [])
unfolding distance_checks
distance_last order rank G C from to =
    first_group (check1 (length order) ∷ check4 order ∷ check7 order rank G ∷ check10 (its_e order G) C ∷ []) (check11 (length order) from to ∷ [])

-- distance's checks: those of the graph are the same
pub distance_groups : (order rank : List ℕ) (G : Graph) (C : EdgeCosts) (from to : ℕ) → distance_checks order rank G C from to
    ≡ first_failure
    (check1 (length order)
    ∷ first_failure (check4 order ∷ check7 order rank G ∷ [])
    ∷ check10 (its_e order G) C
    ∷ check11 (length order) from to
    ∷ [])
unfolding distance_checks
distance_groups order rank G C from to =
    let graph = check4 order ∷ check7 order rank G ∷ [] in
    let rest = check10 (its_e order G) C ∷ check11 (length order) from to ∷ [] in
    first_after (check1 (length order)) (graph ++ rest) (first_failure graph ∷ rest) (first_group graph rest)
