-- The roads of a net that customise accepts, and the same after a change of costs. Assumes nothing.
use Prim.Native.Nat.{ℕ, ◌<◌}
use mathlib.Core.Path.{◌≡◌, sym, ◌∙◌, subst}
use mathlib.Core.List.{List}
use native.Mathlib.Omega.{arith}
use lib.ListN.{length, get_or}
use Rattle.rules.specs.Net.{Net, net}
use Rattle.rules.specs.Graph.{Graph}
use Rattle.rules.specs.Hierarchy.{EdgeCosts}
use Rattle.theory.specs.Accepted.{Accepted}
use Rattle.roads.specs.declared.Roads.{Roads}
use Rattle.roads.specs.Roads.{Falls, Laid, RoadsOf, RoadsIn, ByTail, with_tails}
use Rattle.roads.proofs.ByTail.{laid_falls}

module _ {N : Net} {rank : List ℕ} {G : Graph} {C : EdgeCosts} (A : Accepted N rank G C) where
  -- tails are junctions' numbers
  pub tails_in : (i : ℕ) → i < length N.tails → get_or N.tails i 0 < 4096
  tails_in i h = omega (arith, (A.ends_in i h).0, A.few)

  -- arcs threaded by their tails
  pub roads_of : {R : Roads} → Laid N.tails (length N.tails) R → RoadsOf N R
  roads_of {R} T =
      let e = sym A.heads_long in
      record {
        few = A.few;
        seats = A.seats;
        costs_long = A.costs_long ∙ e;
        fit = omega (arith, A.fit, A.heads_long);
        falls = subst (λ m. Falls m R) e (laid_falls N.tails R (length N.tails) T tails_in);
        by_tail = (e, subst (λ m. Laid N.tails m R) e T);
      }

-- what can be read is threaded by the tails that it is threaded by
pub roads_by : {N : Net} {R : Roads} → RoadsIn N R → {tails : List ℕ} → ByTail tails N.heads R → RoadsOf (with_tails N tails) R
roads_by P B = record { few = P.few; seats = P.seats; costs_long = P.costs_long; fit = P.fit; falls = P.falls; by_tail = B }

-- so they can be read
pub roads_in : {N : Net} {R : Roads} → RoadsOf N R → RoadsIn N R
roads_in K = record { few = K.few; seats = K.seats; costs_long = K.costs_long; fit = K.fit; falls = K.falls }

-- other costs leave the threads
pub roads_with : {N : Net} {R : Roads} → RoadsOf N R → {costs : List ℕ} → length costs ≡ length N.costs
    → RoadsOf (net N.tails N.heads costs N.order) R
roads_with K e =
    record { few = K.few; seats = K.seats; costs_long = e ∙ K.costs_long; fit = K.fit; falls = K.falls; by_tail = K.by_tail }
