-- What build's checks establish, and that what build leaves is a hierarchy with an edge for every arc with unequal ends: customise takes it.
-- Assumes nothing.
use Prim.Native.Nat.{ℕ, ◌-◌}
use mathlib.Core.Path.{◌≡◌, ap, ◌∙◌}
use mathlib.Core.List.{List, [], ◌∷◌, ◌++◌}
use lib.ListN.{length, replicate}
use Rattle.rules.specs.Replies.{Reply, edges}
use Rattle.rules.specs.Net.{Net, net, rank_list}
use Rattle.rules.specs.Graph.{Graph, graph, first_list, heads_list, edge_count}
use Rattle.rules.specs.Hierarchy.{its_e}
use Rattle.rules.specs.Refusals.{passes, check1, check2, check3, check4, check5, check6, check7, check8}
use Rattle.rules.specs.Calls.{unless, BuildLeaves, build_left, build_checks, build_leaves}
use Rattle.theory.proofs.Words.{clash}
use Rattle.theory.proofs.Verdicts.{first_passes, unless_e}
use Rattle.theory.proofs.Orders.{ordered, inverts_list, inverse_list}
use Rattle.theory.proofs.Built.{first_end, built_hierarchy, built_edges}
use Rattle.theory.proofs.Accepted.{passes1, passes2, passes3, passes5, hierarchy_passes}
use Rattle.theory.specs.Accepted.{Buildable}

-- each of build's checks passes, but for the room of heads
pub record BuildPassed (tails heads order rank first : List ℕ) : Type 0 where
  pub c1 : check1 (length order) ≡ passes
  pub c2 : check2 (length tails) (length heads ∷ []) ≡ passes
  pub c3 : check3 (length order) tails heads ≡ passes
  pub c4 : check4 order ≡ passes
  pub c5 : check5 (length order) rank first ≡ passes

pub build_passed : (tails heads order rank first : List ℕ) → build_checks tails heads order rank first ≡ passes
    → BuildPassed tails heads order rank first
unfolding build_checks
build_passed tails heads order rank first e =
    let n = length order in
    let v5 = check5 n rank first ∷ [] in
    let v4 = check4 order ∷ v5 in
    let v3 = check3 n tails heads ∷ v4 in
    let v2 = check2 (length tails) (length heads ∷ []) ∷ v3 in
    let p1 = first_passes (check1 n) v2 e in
    let p2 = first_passes (check2 (length tails) (length heads ∷ [])) v3 p1.1 in
    let p3 = first_passes (check3 n tails heads) v4 p2.1 in
    let p4 = first_passes (check4 order) v5 p3.1 in
    let p5 = first_passes (check5 n rank first) [] p4.1 in
    record { c1 = p1.0; c2 = p2.0; c3 = p3.0; c4 = p4.0; c5 = p5.0 }

pub buildable : (tails heads order rank first : List ℕ) → build_checks tails heads order rank first ≡ passes → Buildable tails heads order rank first
buildable tails heads order rank first e =
    let n = length order in
    let P = build_passed tails heads order rank first e in
    let f1 = passes1 n P.c1 in
    let f2 = passes2 (length tails) (length heads) [] P.c2 in
    let f5 = passes5 n rank first P.c5 in
    record {
      some = f1.0;
      few = f1.1;
      heads_long = f2.0;
      fit = f2.1;
      ends_in = passes3 n tails heads P.c3;
      seats = ordered order P.c4;
      rank_long = f5.0;
      first_long = f5.1;
    }

-- the graph that build leaves in a room for its heads
abbrev built_in : (N : Net) (room : ℕ) → Graph
built_in N room = graph (first_list N) (heads_list N ++ replicate (room - edge_count N) 0)

-- build told E: its checks passed, and it left what the definition gives
pub record Tells (tails heads order rank₀ : List ℕ) (G₀ : Graph) (rank : List ℕ) (G : Graph) (e : ℕ) : Type 0 where
  pub passing : build_checks tails heads order rank₀ G₀.first ≡ passes
  pub ranks : rank_list order ≡ rank
  pub rows : built_in (net tails heads [] order) (length G₀.heads) ≡ G
  pub count : edge_count (net tails heads [] order) ≡ e

pub tells : (tails heads order rank₀ : List ℕ) (G₀ : Graph) (rank : List ℕ) (G : Graph) (e : ℕ)
    → build_leaves tails heads order rank₀ G₀ ≡ build_left rank G (edges e)
    → Tells tails heads order rank₀ G₀ rank G e
unfolding build_leaves
tells tails heads order rank₀ G₀ rank G e h =
    let N = net tails heads [] order in
    let reply : BuildLeaves → Reply = λ l. l.reply in
    let built = build_left (rank_list order) (built_in N (length G₀.heads)) (edges (edge_count N)) in
    let noughts = build_left (replicate (length rank₀) 0) (graph (replicate (length G₀.first) 0) (replicate (length G₀.heads) 0)) in
    let c =
    unless_e reply (build_checks tails heads order rank₀ G₀.first) (build_left rank₀ G₀)
    (unless (check6 (edge_count N) G₀.heads) noughts built) (edges e) (λ k p f. clash (cc)) (ap reply h) in
    let c6 = unless_e reply (check6 (edge_count N) G₀.heads) noughts built (edges e) (λ k p f. clash (cc)) (ap reply (rw c at h)) in
    let b : built ≡ build_left rank G (edges e) = rw (c, c6) at h in
    let told : edges (edge_count N) ≡ edges e = ap reply b in
    record {
      passing = c;
      ranks = ap (λ (l : BuildLeaves). l.rank) b;
      rows = ap (λ (l : BuildLeaves). l.rows) b;
      count = cc;
    }

-- where build tells E, customise's checks of the graph pass: it is a hierarchy, and every arc with unequal ends has an edge
pub build_fits : (tails heads order rank₀ : List ℕ) (G₀ : Graph) (rank : List ℕ) (G : Graph) (e : ℕ)
    → build_leaves tails heads order rank₀ G₀ ≡ build_left rank G (edges e)
    → (check7 order rank G ≡ passes) × (check8 tails heads rank G ≡ passes)
build_fits tails heads order rank₀ G₀ rank G e h =
    let N = net tails heads [] order in
    let room = length G₀.heads in
    let rest : List ℕ = replicate (room - edge_count N) 0 in
    let S = tells tails heads order rank₀ G₀ rank G e h in
    let B = buildable tails heads order rank₀ G₀.first S.passing in
    let I = inverse_list B.seats in
    rw (← S.ranks, ← S.rows) (
      hierarchy_passes order (rank_list order) (built_in N room) (built_hierarchy N rest (rank_list order) (inverts_list B.seats)),
      built_edges N rest (rank_list order) B.ends_in (λ j l. (I.position j l, I.there j l)),
    )

-- and the number told is the graph's E
pub build_counts : (tails heads order rank₀ : List ℕ) (G₀ : Graph) (rank : List ℕ) (G : Graph) (e : ℕ)
    → build_leaves tails heads order rank₀ G₀ ≡ build_left rank G (edges e) → its_e order G ≡ e
build_counts tails heads order rank₀ G₀ rank G e h =
    let N = net tails heads [] order in
    let S = tells tails heads order rank₀ G₀ rank G e h in
    rw (← S.rows) (first_end N ∙ S.count)
