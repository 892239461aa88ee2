-- What the checks established, in the terms of the functions that drive. Assumes nothing.
use mathlib.Core.Path.{sym, ◌∙◌, subst}
use mathlib.Core.List.{List}
use Prim.Native.Nat.{ℕ}
use native.Mathlib.Omega.{arith}
use lib.ListN.{length}
use Rattle.rules.specs.Graph.{Graph}
use Rattle.rules.specs.Hierarchy.{EdgeCosts}
use Rattle.rules.specs.Net.{Net, arcs}
use Rattle.theory.specs.Accepted.{Accepted}
use Rattle.theory.proofs.Rows.{count_is, lists_of}
use Rattle.roads.specs.declared.Roads.{Roads}
use Rattle.roads.specs.Roads.{Laid, RoadsOf}
use Rattle.roads.proofs.ByTail.{laid_falls}
use Rattle.unpack.specs.Opening.{Lows, Ready}
use Rattle.drive.specs.Driving.{Given}

-- accepted lists are all that is asked
pub given : {N : Net} {rank : List ℕ} {G : Graph} {C : EdgeCosts} → Accepted N rank G C → Given N G C
given {C = C} A =
    record {
      lists = lists_of A.rows_of C A.few A.up_long A.down_long;
      size_is = sym (count_is A.rows_of);
      seats = A.seats;
      heads_long = A.heads_long;
      costs_long = A.costs_long;
      fit = A.fit;
      tails_in = λ i h. omega (arith, (A.ends_in i h).0, A.few);
    }

-- the arcs are threaded by their tails
pub threaded : {N : Net} {G : Graph} {C : EdgeCosts} → Given N G C → {R : Roads} → Laid N.tails (length N.tails) R → RoadsOf N R
threaded {N} D {R} T =
    record {
      few = omega (arith, D.size_is, D.lists.few);
      seats = D.seats;
      costs_long = D.costs_long ∙ sym D.heads_long;
      fit = omega (arith, D.fit, D.heads_long);
      falls = rw D.heads_long (laid_falls N.tails R (arcs N) T D.tails_in);
      by_tail = (sym D.heads_long, subst (λ m. Laid N.tails m R) (sym D.heads_long) T);
    }

-- and opening may begin
pub ready : {N : Net} {G : Graph} {C : EdgeCosts} → Given N G C → {low : List ℕ} → Lows G low → Ready N G C low
ready D L = record { lists = D.lists; size_is = D.size_is; lows = L }
