-- What the calls tell a tablet, as plain numbers: the refusal's number, 0 when accepted; its place; the values, 0 after a refusal; "none" is
-- the distance 18,446,744,073,709,551,615. With every lent list this is all that a call leaves. Assumes nothing.
use Rattle.std.specs.Prelude.{ℕ, List}
use Rattle.rules.specs.Graph.{Graph}
use Rattle.rules.specs.Hierarchy.{EdgeCosts}
use Rattle.rules.specs.Replies.{number_told, place_told, edges_told, distance_told, arcs_told, triangles_told}
use Rattle.rules.specs.Calls.{BuildLeaves, CustomiseLeaves, ChangeLeaves, DistanceLeaves, SweepLeaves, RouteLeaves}

pub record BuildNumbers : Type 0 where
  pub number : ℕ
  pub place : ℕ
  pub edges : ℕ
  pub rank : List ℕ
  pub rows : Graph

abbrev pub build_numbers : (number place edges : ℕ) (rank : List ℕ) (G : Graph) → BuildNumbers
build_numbers n p e rank G = record { number = n; place = p; edges = e; rank = rank; rows = G }

abbrev pub build_told : BuildLeaves → BuildNumbers
build_told l = build_numbers (number_told l.reply) (place_told l.reply) (edges_told l.reply) l.rank l.rows

pub record CustomiseNumbers : Type 0 where
  pub number : ℕ
  pub place : ℕ
  pub costs : EdgeCosts

abbrev pub customise_numbers : (number place : ℕ) (C : EdgeCosts) → CustomiseNumbers
customise_numbers n p C = record { number = n; place = p; costs = C }

abbrev pub customise_told : CustomiseLeaves → CustomiseNumbers
customise_told l = customise_numbers (number_told l.reply) (place_told l.reply) l.costs

pub record ChangeNumbers : Type 0 where
  pub number : ℕ
  pub place : ℕ
  pub triangles : ℕ
  pub arc_costs : List ℕ
  pub costs : EdgeCosts

abbrev pub change_numbers : (number place triangles : ℕ) (arc_costs : List ℕ) (C : EdgeCosts) → ChangeNumbers
change_numbers n p t arc_costs C = record { number = n; place = p; triangles = t; arc_costs = arc_costs; costs = C }

abbrev pub change_told : ChangeLeaves → ChangeNumbers
change_told l = change_numbers (number_told l.reply) (place_told l.reply) (triangles_told l.reply) l.arc_costs l.costs

pub record DistanceNumbers : Type 0 where
  pub number : ℕ
  pub place : ℕ
  pub distance : ℕ

abbrev pub distance_numbers : (number place distance : ℕ) → DistanceNumbers
distance_numbers n p d = record { number = n; place = p; distance = d }

abbrev pub distance_told_of : DistanceLeaves → DistanceNumbers
distance_told_of l = distance_numbers (number_told l.reply) (place_told l.reply) (distance_told l.reply)

pub record SweepNumbers : Type 0 where
  pub number : ℕ
  pub place : ℕ
  pub distances : List ℕ

abbrev pub sweep_numbers : (number place : ℕ) (distances : List ℕ) → SweepNumbers
sweep_numbers n p distances = record { number = n; place = p; distances = distances }

abbrev pub sweep_told : SweepLeaves → SweepNumbers
sweep_told l = sweep_numbers (number_told l.reply) (place_told l.reply) l.distances

pub record RouteNumbers : Type 0 where
  pub number : ℕ
  pub place : ℕ
  pub distance : ℕ
  pub arcs : ℕ
  pub route : List ℕ

abbrev pub route_numbers : (number place distance arcs : ℕ) (route : List ℕ) → RouteNumbers
route_numbers n p d k route = record { number = n; place = p; distance = d; arcs = k; route = route }

abbrev pub route_told : RouteLeaves → RouteNumbers
route_told l =
    route_numbers (number_told l.reply) (place_told l.reply) (distance_told l.reply) (arcs_told l.reply) l.route
