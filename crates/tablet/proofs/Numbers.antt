-- Each promise to the tablet allows one outcome: every number told and every lent list. Assumes nothing.
use Prim.Native.Nat.{ℕ}
use mathlib.Core.Path.{◌≡◌, sym, ap, ◌∙◌}
use mathlib.Core.List.{List}
use Rattle.rules.specs.Graph.{Graph}
use Rattle.rules.specs.Hierarchy.{EdgeCosts}
use Rattle.tablet.specs.Numbers.{BuildNumbers, build_numbers, CustomiseNumbers, customise_numbers, ChangeNumbers, change_numbers, DistanceNumbers, distance_numbers, SweepNumbers, sweep_numbers, RouteNumbers, route_numbers}

pub build_once : {n n' p p' e e' : ℕ} {rank rank' : List ℕ} {G G' : Graph} (told : BuildNumbers)
    → build_numbers n p e rank G ≡ told → build_numbers n' p' e' rank' G' ≡ told
    → (n ≡ n') × (p ≡ p') × (e ≡ e') × (rank ≡ rank') × (G ≡ G')
build_once told a b =
    let c = a ∙ sym b in (
      ap (λ (t : BuildNumbers). t.number) c,
      ap (λ (t : BuildNumbers). t.place) c,
      ap (λ (t : BuildNumbers). t.edges) c,
      ap (λ (t : BuildNumbers). t.rank) c,
      ap (λ (t : BuildNumbers). t.rows) c,
    )

pub customise_once : {n n' p p' : ℕ} {C C' : EdgeCosts} (told : CustomiseNumbers)
    → customise_numbers n p C ≡ told → customise_numbers n' p' C' ≡ told → (n ≡ n') × (p ≡ p') × (C ≡ C')
customise_once told a b =
    let c = a ∙ sym b in (
      ap (λ (t : CustomiseNumbers). t.number) c,
      ap (λ (t : CustomiseNumbers). t.place) c,
      ap (λ (t : CustomiseNumbers). t.costs) c,
    )

pub change_once : {n n' p p' t t' : ℕ} {costs costs' : List ℕ} {C C' : EdgeCosts} (told : ChangeNumbers)
    → change_numbers n p t costs C ≡ told → change_numbers n' p' t' costs' C' ≡ told
    → (n ≡ n') × (p ≡ p') × (t ≡ t') × (costs ≡ costs') × (C ≡ C')
change_once told a b =
    let c = a ∙ sym b in (
      ap (λ (t : ChangeNumbers). t.number) c,
      ap (λ (t : ChangeNumbers). t.place) c,
      ap (λ (t : ChangeNumbers). t.triangles) c,
      ap (λ (t : ChangeNumbers). t.arc_costs) c,
      ap (λ (t : ChangeNumbers). t.costs) c,
    )

pub distance_once : {n n' p p' d d' : ℕ} (told : DistanceNumbers) → distance_numbers n p d ≡ told → distance_numbers n' p' d' ≡ told
    → (n ≡ n') × (p ≡ p') × (d ≡ d')
distance_once told a b =
    let c = a ∙ sym b in (
      ap (λ (t : DistanceNumbers). t.number) c,
      ap (λ (t : DistanceNumbers). t.place) c,
      ap (λ (t : DistanceNumbers). t.distance) c,
    )

pub sweep_once : {n n' p p' : ℕ} {distances distances' : List ℕ} (told : SweepNumbers)
    → sweep_numbers n p distances ≡ told → sweep_numbers n' p' distances' ≡ told → (n ≡ n') × (p ≡ p') × (distances ≡ distances')
sweep_once told a b =
    let c = a ∙ sym b in (
      ap (λ (t : SweepNumbers). t.number) c,
      ap (λ (t : SweepNumbers). t.place) c,
      ap (λ (t : SweepNumbers). t.distances) c,
    )

pub route_once : {n n' p p' d d' k k' : ℕ} {route route' : List ℕ} (told : RouteNumbers)
    → route_numbers n p d k route ≡ told → route_numbers n' p' d' k' route' ≡ told
    → (n ≡ n') × (p ≡ p') × (d ≡ d') × (k ≡ k') × (route ≡ route')
route_once told a b =
    let c = a ∙ sym b in (
      ap (λ (t : RouteNumbers). t.number) c,
      ap (λ (t : RouteNumbers). t.place) c,
      ap (λ (t : RouteNumbers). t.distance) c,
      ap (λ (t : RouteNumbers). t.arcs) c,
      ap (λ (t : RouteNumbers). t.route) c,
    )
