-- What is known of the arcs and the graph once the checks before 8 have passed. Assumes nothing.
use Prim.Native.Nat.{ℕ, ◌≤◌}
use mathlib.Core.Path.{◌≡◌, sym, subst}
use mathlib.Core.List.{List, [], ◌∷◌}
use native.Mathlib.Omega.{arith}
use lib.ListN.{length}
use Rattle.rules.specs.Net.{Net, size}
use Rattle.rules.specs.Graph.{Graph}
use Rattle.rules.specs.Refusals.{passes, first_failure, check1, check2, check3, check4, check7}
use Rattle.theory.specs.Rows.{Rows}
use Rattle.theory.proofs.Rows.{count_is}
use Rattle.theory.proofs.Verdicts.{first_passes}
use Rattle.theory.proofs.Accepted.{passes1, passes2, passes3}
use Rattle.hierarchy.proofs.IsHierarchy.{graph_known}
use Rattle.checks.specs.Edges.{Arcs}

-- where 1 passes there are few enough junctions to look for 4
pub few : (n : ℕ) → check1 n ≡ passes → n ≤ 4096
few n e = (passes1 n e).1

-- where 2 passes, heads is as long as tails
pub same_long : (m k : ℕ) (ks : List ℕ) → check2 m (k ∷ ks) ≡ passes → k ≡ m
same_long m k ks e = (passes2 m k ks e).0

-- what 8 leans on is known where 1, 2, 3, 4 and 7 pass
pub arcs_known : (N : Net) (rank : List ℕ) (G : Graph) (c : ℕ)
    → first_failure (check1 (size N) ∷ check2 (length N.tails) (length N.heads ∷ c ∷ []) ∷ check3 (size N) N.tails N.heads ∷ []) ≡ passes
    → first_failure (check4 N.order ∷ check7 N.order rank G ∷ []) ≡ passes → Arcs N rank G
arcs_known N rank G c e d =
    let (p1, e2) = first_passes (check1 (size N)) (check2 (length N.tails) (length N.heads ∷ c ∷ []) ∷ check3 (size N) N.tails N.heads ∷ []) e in
    let (p2, e3) = first_passes (check2 (length N.tails) (length N.heads ∷ c ∷ [])) (check3 (size N) N.tails N.heads ∷ []) e2 in
    let (p3, e4) = first_passes (check3 (size N) N.tails N.heads) [] e3 in
    let ends = passes3 (size N) N.tails N.heads p3 in
    let (v, r) = graph_known N.order rank G d in
    record {
      same = (passes2 (length N.tails) (length N.heads) (c ∷ []) p2).0;
      tails_in = λ i l. omega (arith, v.long, (ends i l).0);
      heads_in = λ i l. omega (arith, v.long, (ends i l).1);
      seated = record {
        positions = λ j l. omega (arith, count_is r, v.position j (omega (arith, v.long)));
        rows = subst (λ n. Rows n G) (sym (count_is r)) r;
      };
    }
