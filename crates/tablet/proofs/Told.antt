-- From a call's answer to the plain numbers. Assumes nothing.
use Prim.Native.Nat.{ℕ}
use mathlib.Core.Path.{◌≡◌, refl, ap}
use Rattle.std.specs.Prelude.{Option, Some, None, Result, Ok, Err}
use Rattle.std.specs.Result.{result_unwrap_or}
use Rattle.rules.specs.declared.Drive.{Drive}
use Rattle.rules.specs.declared.Refusal.{Refusal}
use mathlib.Core.List.{List}
use Rattle.rules.specs.Replies.{Reply, build_reply, change_reply, distance_found, route_found, number_told, place_told, edges_told, distance_told, arcs_told, triangles_told}
use Rattle.rules.specs.Calls.{BuildLeaves, build_left, CustomiseLeaves, customise_left, ChangeLeaves, change_left, DistanceLeaves, distance_left, SweepLeaves, sweep_left, RouteLeaves, route_left}
use Rattle.tablet.specs.Numbers.{build_numbers, build_told, customise_numbers, customise_told, change_numbers, change_told, distance_numbers, distance_told_of, sweep_numbers, sweep_told, route_numbers, route_told}
use Rattle.rules.specs.Graph.{Graph}
use Rattle.rules.specs.Hierarchy.{EdgeCosts}

pub told_build : (r : Reply) (n p e : ℕ) (rank : List ℕ) (G : Graph) (l : BuildLeaves) → n ≡ number_told r → p ≡ place_told r → e ≡ edges_told r
    → build_left rank G r ≡ l → build_numbers n p e rank G ≡ build_told l
told_build r n p e rank G l en ep ee el = rw (en, ep, ee) (ap build_told el)

pub told_customise : (r : Reply) (n p : ℕ) (C : EdgeCosts) (l : CustomiseLeaves) → n ≡ number_told r → p ≡ place_told r
    → customise_left C r ≡ l → customise_numbers n p C ≡ customise_told l
told_customise r n p C l en ep el = rw (en, ep) (ap customise_told el)

pub told_change : (r : Reply) (n p t : ℕ) (costs : List ℕ) (C : EdgeCosts) (l : ChangeLeaves) → n ≡ number_told r → p ≡ place_told r → t ≡ triangles_told r
    → change_left costs C r ≡ l → change_numbers n p t costs C ≡ change_told l
told_change r n p t costs C l en ep et el = rw (en, ep, et) (ap change_told el)

pub told_distance : (r : Reply) (n p d : ℕ) (l : DistanceLeaves) → n ≡ number_told r → p ≡ place_told r → d ≡ distance_told r
    → distance_left r ≡ l → distance_numbers n p d ≡ distance_told_of l
told_distance r n p d l en ep ed el = rw (en, ep, ed) (ap distance_told_of el)

pub told_sweep : (r : Reply) (n p : ℕ) (distances : List ℕ) (l : SweepLeaves) → n ≡ number_told r → p ≡ place_told r
    → sweep_left distances r ≡ l → sweep_numbers n p distances ≡ sweep_told l
told_sweep r n p distances l en ep el = rw (en, ep) (ap sweep_told el)

pub told_route : (r : Reply) (n p d k : ℕ) (route : List ℕ) (l : RouteLeaves) → n ≡ number_told r → p ≡ place_told r → d ≡ distance_told r → k ≡ arcs_told r
    → route_left route r ≡ l → route_numbers n p d k route ≡ route_told l
told_route r n p d k route l en ep ed ek el = rw (en, ep, ed, ek) (ap route_told el)

-- ---- what an accepted call tells is no refusal

pub distance_number : (found : Option ℕ) → number_told (distance_found found) ≡ 0
distance_number (Some d) = refl
distance_number None = refl

pub distance_place : (found : Option ℕ) → place_told (distance_found found) ≡ 0
distance_place (Some d) = refl
distance_place None = refl

pub route_number : (found : Option Drive) → number_told (route_found found) ≡ 0
route_number (Some r) = refl
route_number None = refl

pub route_place : (found : Option Drive) → place_told (route_found found) ≡ 0
route_place (Some r) = refl
route_place None = refl

-- ---- the number that a call tells, 0 after a refusal

pub edges_or : (a : Result ℕ Refusal) {e : ℕ} → e ≡ result_unwrap_or a 0 → e ≡ edges_told (build_reply a)
edges_or (Ok x) h = h
edges_or (Err r) h = h

pub looked_or : (a : Result ℕ Refusal) {t : ℕ} → t ≡ result_unwrap_or a 0 → t ≡ triangles_told (change_reply a)
looked_or (Ok x) h = h
looked_or (Err r) h = h
