-- The list, junction by junction: no distance so far is too far, and each stands in its place. Assumes nothing.
use Prim.Native.Nat.{ℕ, ◌≤◌, ◌<◌}
use mathlib.Core.Path.{◌≡◌, refl, ap, ◌∙◌}
use mathlib.Core.Logic.{◌≢◌}
use mathlib.Core.List.{List}
use native.Mathlib.Omega.{arith}
use lib.Dec.{T, ltb}
use lib.ListN.{length, get_or, replicate}
use borrow.Author.Tests.{ne_eqb, ltb-true, ltb-false}
use Rattle.rules.specs.Costs.{closed, none}
use Rattle.rules.specs.Replies.{refused, done}
use Rattle.rules.specs.Refusals.{too_far, check16}
use Rattle.rules.specs.Calls.{listed_distance, distance_between, or_closed, sweep_left, swept_leaves}
use Rattle.rules.specs.Graph.{Graph}
use Rattle.rules.specs.Hierarchy.{EdgeCosts, linked, held, along}
use Rattle.rules.specs.Sweep.{reach}
use Rattle.theory.proofs.Rows.{linked_turn}
use Rattle.theory.proofs.Sweep.{reach_small, reach_top}
use Rattle.rules.specs.Words.{tabulate}
use Rattle.rules.specs.declared.Direction.TheVariants.{Up, Down}
use Rattle.rules.specs.declared.Direction.{Direction}
use Rattle.theory.specs.Rows.{count}
use Rattle.theory.proofs.AnyLists.{sweep_on_any_lists}
use Rattle.theory.proofs.Words.{either, split, lowest_same, length_tabulate, tabulate_at, is_tabulate}
use Rattle.theory.proofs.Verdicts.{Faultless, faultless_fails, faultless_passes}
use Rattle.sweep.specs.Swept.{far, cap, uncap, Reached, Places, AllCapped}

-- below FAR a number is what it stands for, and FAR stands for none
pub uncap_below : (known : ℕ) → known ≢ far → uncap known ≡ known
uncap_below known n = rw (ne_eqb known far n) refl

-- a label with room above it comes back
uncap_cap : (label : ℕ) → (label < none → label < far) → label ≤ none → uncap (cap label) ≡ label
uncap_cap label small top =
    either (split (ltb label none))
    (λ e.
    let l = small (ltb-true label none e) in
    let c : cap label ≡ label = omega arith in
    rw c (uncap_below label (λ x. omega arith)))
    (λ e.
    let l : label ≡ none = omega (arith, ltb-false label none e) in
    rw l refl)

-- the junctions before j, of n, are told
pub record Telling (far : ℕ → ℕ) (n j : ℕ) (distances : List ℕ) : Type 0 where
  pub near : Faultless (λ x. too_far (far x)) n j
  pub long : length distances ≡ n
  pub told : (x : ℕ) → x < j → get_or distances x 0 ≡ or_closed (far x)

module _ {far : ℕ → ℕ} {n j : ℕ} {distances : List ℕ} (L : Telling far n j distances) where
  -- "for the lowest junction whose distance isn't below CLOSED"; "after 16 the list is all CLOSED"
  pub told_far : (list : List ℕ) → j < n → T (too_far (far j)) → list ≡ replicate (length distances) closed
      → sweep_left list (refused 16 j) ≡ swept_leaves n far
  unfolding swept_leaves check16
  told_far list h t f =
      let e : list ≡ replicate n closed = f ∙ ap (λ k. replicate k closed) L.long in
      rw (← faultless_fails 16 L.near h t, e) refl

  -- every junction is told
  pub told_all : n ≤ j → sweep_left distances done ≡ swept_leaves n far
  unfolding swept_leaves check16
  told_all h =
      let e = is_tabulate (λ x. or_closed (far x)) distances (λ x l. L.told x (omega (arith, L.long))) in
      rw (← faultless_passes 16 L.near h, ← L.long, ← e) refl

-- ---- what the list holds

-- costs small one way are small the other way
either_way : (d : Direction) (cost : ℕ → ℕ → ℕ) → ((a b : ℕ) → along d cost a b ≤ closed) → (a b : ℕ) → cost a b ≤ closed
either_way Up cost small a b = small a b
either_way Down cost small a b = small b a

-- only what is told of the junctions of the net matters
swept_same : (n : ℕ) (f g : ℕ → ℕ) → ((x : ℕ) → x < n → f x ≡ g x) → swept_leaves n f ≡ swept_leaves n g
unfolding swept_leaves check16
swept_same n f g same =
    let low = lowest_same (λ x. too_far (f x)) (λ x. too_far (g x)) 0 n (λ q a b. ap too_far (same q (omega arith))) in
    let long = length_tabulate (λ x. or_closed (f x)) 0 n in
    let list : tabulate (λ x. or_closed (f x)) 0 n ≡ tabulate (λ x. or_closed (g x)) 0 n =
    is_tabulate (λ x. or_closed (g x)) (tabulate (λ x. or_closed (f x)) 0 n)
    (λ k h. let l : k < n = omega (arith, long) in tabulate_at (λ x. or_closed (f x)) n k 0 l ∙ ap or_closed (same k l))
    ∙ ap (tabulate (λ x. or_closed (g x)) 0) long in
    rw (low, list) refl

module _ {G : Graph} {C : EdgeCosts} (few : count G.first ≤ 4096) {d : Direction} (small : (a b : ℕ) → along d (held G C) a b ≤ closed) {s : ℕ} {rank known distances : List ℕ} (P : Places rank distances) (e : length rank ≡ count G.first) (R : Reached G C d s 0 known) where
  abbrev n : ℕ
  n = count G.first

  -- what the array knows of a junction's position
  known_is : (x : ℕ) → x < length rank → get_or known (get_or rank x 0) 0 ≡ cap (reach n (linked G) (along d (held G C)) s (get_or rank x 0))
  known_is x h = R.reaches (get_or rank x 0) (omega arith) (omega (arith, P.position x h))

  -- what `tell` asks
  pub all_capped : AllCapped rank known
  all_capped x h = omega (arith, known_is x h)

  -- stands for the distance from j to it, or from it to j
  pub list_is : (j : ℕ) → s ≡ get_or rank j 0
      → swept_leaves (length rank) (λ x. uncap (get_or known (get_or rank x 0) 0)) ≡ swept_leaves n (along d (distance_between n rank G C) j)
  list_is j es =
      ap (λ m. swept_leaves m (λ x. uncap (get_or known (get_or rank x 0) 0))) e
      ∙ swept_same n (λ x. uncap (get_or known (get_or rank x 0) 0)) (along d (distance_between n rank G C) j)
      (λ x h.
      let r = reach n (linked G) (along d (held G C)) s (get_or rank x 0) in
      let small : r < none → r < far =
      λ l. omega (arith, few, reach_small n (linked G) (linked_turn G) (held G C) d s (get_or rank x 0) (either_way d (held G C) small) l) in
      ap uncap (known_is x (omega arith))
      ∙ uncap_cap r small (reach_top n (linked G) (linked_turn G) (held G C) d s (get_or rank x 0))
      ∙ sweep_on_any_lists n G C d s (get_or rank x 0)
      ∙ ap (λ p. along d (listed_distance n G C) p (get_or rank x 0)) es ∙ junctions d x)
    where
      junctions : (d : Direction) (x : ℕ)
          → along d (listed_distance n G C) (get_or rank j 0) (get_or rank x 0) ≡ along d (distance_between n rank G C) j x
      junctions Up x = refl
      junctions Down x = refl
