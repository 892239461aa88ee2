-- The proof of what specs/Changes.antt states. Assumes nothing.
use Prim.Native.Nat.{ℕ, ◌≤◌, ◌<◌}
use mathlib.Core.Path.{◌≡◌, refl, sym, ap, ap₂, ◌∙◌}
use mathlib.Core.List.{List, [], ◌∷◌}
use native.Mathlib.Omega.{arith}
use lib.Dec.{T}
use lib.ListN.{length, get_or, length-set}
use Rattle.rules.specs.declared.Direction.{Direction}
use Rattle.rules.specs.declared.Direction.TheVariants.{Up, Down}
use Rattle.rules.specs.Costs.{closed}
use Rattle.rules.specs.Replies.{Reply, looked, triangles_told}
use Rattle.rules.specs.Net.{Net, with_cost, size, road_between}
use Rattle.rules.specs.Graph.{Graph}
use Rattle.rules.specs.Hierarchy.{EdgeCosts, edge_costs, its_e, linked, held, along}
use Rattle.rules.specs.Customised.{cost_list}
use Rattle.rules.specs.Changed.{new_cost}
use Rattle.rules.specs.Refusals.{Verdict, passes, fails}
use Rattle.rules.specs.Calls.{customise_checks, shortcut_cost, customised_costs, customise_leaves, ChangeLeaves, change_left, change_checks, changed_cost, changed_costs, triangles_looked_at, change_leaves}
use Rattle.theory.specs.Rows.{InRow}
use Rattle.theory.specs.Accepted.{Accepted}
use Rattle.theory.specs.Demand3.{AsCustomised}
use Rattle.theory.specs.Changes.{ChangedIsAfresh, Held, holding, Change, changed_once, changed_all, ChangesKeep, DistanceStaysRight, SweepStaysRight, RouteStaysRight, AtMostAllTriangles}
use Rattle.theory.proofs.Words.{clash}
use Rattle.theory.proofs.Verdicts.{unless_e}
use Rattle.theory.proofs.Rows.{in_heads, linked_turn, linked_i}
use Rattle.theory.proofs.Held.{default_same}
use Rattle.theory.proofs.CostLists.{length_list, list_past, list_at, list_of}
use Rattle.theory.proofs.Changed.{new_customised}
use Rattle.theory.proofs.Triangles.{looked_le}
use Rattle.theory.proofs.Accepted.{passed_all, accepted, new_cost_passes, change_passed}
use Rattle.theory.proofs.AnyLists.{Satisfies, satisfied}
use Rattle.theory.proofs.Demand3Holds.{stands, distance_right, sweep_right, route_right}

-- ---- afresh

module _ (N : Net) (rank : List ℕ) (G : Graph) (C : EdgeCosts) (arc cost : ℕ) (A : Accepted N rank G C) (S : Satisfies N G C) where
  abbrev n : ℕ
  n = size N

  abbrev M : Net
  M = with_cost N arc cost

  abbrev new : ℕ → ℕ → ℕ
  new = new_cost (linked G) (road_between N) (road_between M) (held G C)

  -- between joined positions the costs after the change are the customised ones
  new_is_fresh : (a b : ℕ) → T (linked G a b) → new a b ≡ shortcut_cost M G a b
  unfolding shortcut_cost
  new_is_fresh = new_customised (linked G) (road_between N) (road_between M) (held G C) (linked_turn G) S.equation

  -- in either direction
  along_fresh : (d : Direction) (p k : ℕ) → p < n → InRow G p k → along d new p (get_or G.heads k 0) ≡ along d (shortcut_cost M G) p (get_or G.heads k 0)
  along_fresh Up p k l r = new_is_fresh p (get_or G.heads k 0) (linked_i A.rows_of p k (get_or G.heads k 0) l r refl)
  along_fresh Down p k l r =
      let y = get_or G.heads k 0 in
      new_is_fresh y p (linked_turn G p y (linked_i A.rows_of p k y l r refl))

  -- so a list with them at the edges' places, and past E what stood there, is the list that customise fills
  list_fresh : (d : Direction) (l : List ℕ) → its_e N.order G ≤ length l
      → ((k : ℕ) → its_e N.order G ≤ k → k < length l → get_or l k 0 ≡ closed)
      → cost_list n G new d (λ k. get_or l k 0) (length l) ≡ cost_list n G (shortcut_cost M G) d (λ k. closed) (length l)
  list_fresh d l long past =
      let R = A.rows_of in
      let stood : ℕ → ℕ = λ k. get_or l k 0 in
      let filled = cost_list n G new d stood (length l) in
      let e = length_list n G new d stood (length l) in
      list_of R (shortcut_cost M G) d (λ k. closed) (length l) filled e
      (λ p k h r.
      default_same filled k 0 closed (omega (arith, (in_heads R p k h r).0))
      ∙ list_at R new d stood (length l) p k long h r
      ∙ along_fresh d p k h r)
      (λ k h b. list_past n G new d stood (length l) k h (omega arith) ∙ past k h b)

  pub afresh : changed_costs N G C arc cost ≡ customised_costs M G C
  unfolding changed_cost
  afresh = ap₂ edge_costs (list_fresh Up C.up A.up_long S.up_past) (list_fresh Down C.down A.down_long S.down_past)

-- with the new cost in the list, customise accepts as before
changed_passes : (N : Net) (rank : List ℕ) (G : Graph) (C : EdgeCosts) (arc cost : ℕ) → change_checks N rank G C arc cost ≡ passes
    → customise_checks (with_cost N arc cost) rank G C ≡ passes
unfolding customise_checks
changed_passes N rank G C arc cost e =
    let (c, l, f) = change_passed N rank G C arc cost e in
    let P = passed_all N rank G C c in
    let c9 = new_cost_passes N.costs arc cost P.c9 f in
    let c2 = rw (sym (length-set N.costs arc cost)) at P.c2 in
    rw (P.c1, c2, P.c3, P.c4, P.c7, P.c8, c9, P.c10) refl

-- the lists that customise left satisfy the paper's equation
left_satisfy : (N : Net) (rank : List ℕ) (G : Graph) (C : EdgeCosts) → AsCustomised N rank G C → Satisfies N G C
left_satisfy N rank G C h =
    let S = stands N rank G h.before C h.leaves in
    rw S.lists (satisfied N rank G h.before (accepted N rank G h.before S.passing))

pub changed_is_afresh : ChangedIsAfresh
unfolding customise_leaves change_leaves
changed_is_afresh N rank G C h arc cost e =
    let A = accepted N rank G C (change_passed N rank G C arc cost e).0 in
    rw (changed_passes N rank G C arc cost e, e, afresh N rank G C arc cost A (left_satisfy N rank G C h)) refl

-- ---- any number of changes

-- a change leaves its lists as they were, or those that customise leaves afresh
once_keeps : (N : Net) (rank : List ℕ) (G : Graph) (C : EdgeCosts) → AsCustomised N rank G C → (c : Change)
    → let held : Held = changed_once rank G (holding N C) c in AsCustomised held.net rank G held.costs
unfolding changed_once change_leaves
once_keeps N rank G C h c = by (change_checks N rank G C c.arc c.cost) refl
  where
    by : (v : Verdict) → change_checks N rank G C c.arc c.cost ≡ v
        → let held : Held = changed_once rank G (holding N C) c in AsCustomised held.net rank G held.costs
    by passes e = rw e (record { before = C; leaves = rw e at (changed_is_afresh N rank G C h c.arc c.cost e) })
    by (fails k p) e = rw e h

pub changes_keep : ChangesKeep
unfolding changed_all
changes_keep N rank G C h [] = h
changes_keep N rank G C h (c ∷ cs) =
    let held = changed_once rank G (holding N C) c in
    changes_keep held.net rank G held.costs (once_keeps N rank G C h c) cs

pub distance_stays_right : DistanceStaysRight
distance_stays_right N rank G C h cs =
    let held = changed_all rank G (holding N C) cs in
    distance_right held.net rank G held.costs (changes_keep N rank G C h cs)

pub sweep_stays_right : SweepStaysRight
sweep_stays_right N rank G C h cs =
    let held = changed_all rank G (holding N C) cs in
    sweep_right held.net rank G held.costs (changes_keep N rank G C h cs)

pub route_stays_right : RouteStaysRight
route_stays_right N rank G C h cs =
    let held = changed_all rank G (holding N C) cs in
    route_right held.net rank G held.costs (changes_keep N rank G C h cs)

-- ---- whatever the lists hold

pub at_most_all_triangles : AtMostAllTriangles
unfolding change_leaves triangles_looked_at
at_most_all_triangles N rank G C arc cost t e =
    let reply : ChangeLeaves → Reply = λ l. l.reply in
    let left = change_left (with_cost N arc cost).costs (changed_costs N G C arc cost) (looked (triangles_looked_at N G C arc cost)) in
    let p = unless_e reply (change_checks N rank G C arc cost) (change_left N.costs C) left (looked t) (λ k q f. clash (cc)) e in
    let is : triangles_looked_at N G C arc cost ≡ t = ap triangles_told (rw p at e) in
    omega (arith, looked_le (linked G) (road_between N) (road_between (with_cost N arc cost)) (held G C) (size N))
