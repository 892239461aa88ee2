-- The proof of what specs/Answers.antt states of the calls one after the other. Assumes nothing.
use Prim.Native.Nat.{ℕ, ◌≤◌, ◌<◌}
use Rattle.std.specs.Prelude.{Option, Some, None, Result, Ok, Err, ⊤}
use Rattle.rules.specs.declared.Drive.{Drive}
use mathlib.Core.Path.{◌≡◌, refl, sym, ap, ◌∙◌, subst}
use mathlib.Core.Logic.{◌⊎◌, inl, inr}
use mathlib.Core.List.{List, [], ◌∷◌}
use native.Mathlib.Omega.{arith}
use lib.Dec.{leb}
use lib.ListN.{length}
use borrow.Author.Tests.{leb-true, leb-false}
use Rattle.rules.specs.declared.Refusal.{Refusal}
use Rattle.rules.specs.declared.Refusal.TheVariants.{StartOrTarget, RouteRoom, DistanceRoom}
use Rattle.rules.specs.declared.Direction.{Direction}
use Rattle.rules.specs.Replies.{done, refusal_number, refusal_place, distance_reply, route_reply}
use Rattle.rules.specs.Net.{Net, size, arcs}
use Rattle.rules.specs.Graph.{Graph}
use Rattle.rules.specs.Hierarchy.{EdgeCosts, its_e}
use Rattle.rules.specs.Refusals.{passes, fails, first_failure, check11, check15}
use Rattle.rules.specs.Calls.{CustomiseLeaves, customise_checks, customise_leaves, DistanceLeaves, distance_leaves, SweepLeaves, sweep_leaves, RouteLeaves, route_leaves}
use Rattle.theory.specs.Demand3.{LeastWalk, NoWalk, TrueDistance, TrueList, TrueAnswer}
use Rattle.theory.specs.Answers.{Builds, Customises, TellsDistance, Sweeps, TellsRoute, RightDistance, RightRoute, DistanceAfterCustomise, SweepAfterCustomise, RouteAfterCustomise, Priced, Outside, BuiltIsTaken}
use Rattle.theory.proofs.Words.{either, split, clash, same_or_not}
use Rattle.theory.proofs.Accepted.{lengths_pass, lawful_passes, rooms_pass, in_range_passes, outside_fails, length_differs_fails}
use Rattle.theory.proofs.Outcomes.{refusal_of, refusal_back, fill_answers, distance_answers, route_answers}
use Rattle.theory.proofs.Buildable.{build_passed, tells, build_fits, build_counts}
use Rattle.theory.proofs.Demand3Holds.{Stands, stands, distance_asks, sweep_asks, route_asks, route_none, distance_right, sweep_right, route_right}

-- ---- after customise

-- what is true of the reply is right of the answer
right_distance : (N : Net) (from to : ℕ) (answer : Result (Option ℕ) Refusal) → TrueDistance N from to (distance_reply answer) → RightDistance N from to answer
right_distance N from to (Ok (Some d)) t =
    record {
      least = λ e h. subst (LeastWalk N from to) (cc) t;
      no_walk = λ h. clash (cc);
      no_walk_told = λ lost. absurd (lost.none t.way t.walks);
      taken = λ f h. clash (cc);
    }
right_distance N from to (Ok None) t =
    record { least = λ d h. clash (cc); no_walk = λ h. t; no_walk_told = λ lost. refl; taken = λ f h. clash (cc) }
right_distance N from to (Err f) t = absurd t

-- number 12 tells the refusal
twelve : (f : Refusal) → refusal_number f ≡ 12 → f ≡ RouteRoom
twelve f e = sym (refusal_back f) ∙ ap (λ n. refusal_of n (refusal_place f)) e

right_route : (N : Net) (from to : ℕ) (lent : List ℕ) (answer : Result (Option Drive) Refusal) (left : List ℕ)
    → TrueAnswer N from to (length lent) left (route_reply answer) → (NoWalk N from to → answer ≡ Ok None)
    → RightRoute N from to lent answer left
right_route N from to lent (Ok (Some r)) left t lost =
    record {
      least = λ e l h. let g : r.distance ≡ e = cc in let i : r.arcs ≡ l = cc in rw (← g, ← i) t;
      no_walk = λ h. clash (cc);
      no_walk_told = lost;
      taken = λ f h. clash (cc);
    }
right_route N from to lent (Ok None) left t lost =
    record { least = λ d k h. clash (cc); no_walk = λ h. t; no_walk_told = lost; taken = λ f h. clash (cc) }
right_route N from to lent (Err g) left t lost =
    record {
      least = λ d k h. clash (cc);
      no_walk = λ h. clash (cc);
      no_walk_told = lost;
      taken = λ f h. let e : g ≡ f = cc in (twelve f (ap refusal_number (sym e) ∙ t.0), t.1);
    }

pub distance_after_customise : DistanceAfterCustomise
distance_after_customise N rank G C₀ C h from to l m answer q =
    right_distance N from to answer
    (subst (TrueDistance N from to) (sym (ap (λ (x : DistanceLeaves). x.reply) q)) (distance_right N rank G C (record { before = C₀; leaves = sym h }) from to l m))

-- the reply and the list that demand 3 is about are those of the answer
pub sweep_after_customise : SweepAfterCustomise
sweep_after_customise N rank G C₀ C h d j l lent answer left long q =
    let (e, t) =
    subst (λ (x : SweepLeaves). (x.reply ≡ done) × TrueList N d j x.distances) (sym q)
    (sweep_right N rank G C (record { before = C₀; leaves = sym h }) d j l lent long) in
    (fill_answers answer (Ok tt) e, t)

pub route_after_customise : RouteAfterCustomise
route_after_customise N rank G C₀ C h from to l m lent answer left q =
    right_route N from to lent answer left
    (subst (λ (x : RouteLeaves). TrueAnswer N from to (length lent) x.route x.reply) (sym q) (route_right N rank G C (record { before = C₀; leaves = sym h }) from to l m lent))
    (λ lost.
    route_answers answer (Ok None)
    (ap (λ (x : RouteLeaves). x.reply) q ∙ route_none (stands N rank G C₀ C (sym h)) from to l m lost lent))

-- with lists that customise left, a question is refused for junctions outside the net
distance_outside : {N : Net} {rank : List ℕ} {G : Graph} {C₀ C : EdgeCosts} → Stands N rank G C₀ C → (from to : ℕ) → Outside N from to
    → (answer : Result (Option ℕ) Refusal) → TellsDistance N rank G C from to answer → answer ≡ Err StartOrTarget
unfolding distance_leaves
distance_outside {N} S from to o answer q =
    distance_answers answer (Err StartOrTarget)
    (ap (λ (x : DistanceLeaves). x.reply) q ∙ rw (distance_asks S from to ∙ outside_fails (size N) from to o) refl)

-- a sweep is refused as the checks of its junction and of its list's length say
sweep_refused : {N : Net} {rank : List ℕ} {G : Graph} {C₀ C : EdgeCosts} → Stands N rank G C₀ C → (d : Direction) (j : ℕ)
    (lent : List ℕ) (answer : Result ⊤ Refusal) (left : List ℕ) → Sweeps N rank G C d j lent answer left
    → (r : Refusal) → first_failure (check11 (size N) j j ∷ check15 (size N) lent ∷ []) ≡ fails (refusal_number r) (refusal_place r)
    → answer ≡ Err r
unfolding sweep_leaves
sweep_refused S d j lent answer left q r v =
    fill_answers answer (Err r) (ap (λ (x : SweepLeaves). x.reply) q ∙ rw (sweep_asks S j lent ∙ v) refl)

route_outside : {N : Net} {rank : List ℕ} {G : Graph} {C₀ C : EdgeCosts} → Stands N rank G C₀ C → (from to : ℕ) → Outside N from to
    → (lent : List ℕ) (answer : Result (Option Drive) Refusal) (left : List ℕ) → TellsRoute N rank G C from to lent answer left
    → answer ≡ Err StartOrTarget
unfolding route_leaves
route_outside {N} S from to o lent answer left q =
    route_answers answer (Err StartOrTarget)
    (ap (λ (x : RouteLeaves). x.reply) q ∙ rw (route_asks S from to ∙ outside_fails (size N) from to o) refl)

-- ---- after build

-- customise's checks pass
built_passes : (N : Net) (rank₀ rank : List ℕ) (G₀ G : Graph) (e : ℕ) → Builds N rank₀ G₀ (Ok e) rank G
    → Priced N → (C₀ : EdgeCosts) → e ≤ length C₀.up → e ≤ length C₀.down → customise_checks N rank G C₀ ≡ passes
unfolding customise_checks
built_passes N rank₀ rank G₀ G e h p C₀ u d =
    let S = tells N.tails N.heads N.order rank₀ G₀ rank G e (sym h) in
    let P = build_passed N.tails N.heads N.order rank₀ G₀.first S.passing in
    let (c7, c8) = build_fits N.tails N.heads N.order rank₀ G₀ rank G e (sym h) in
    let E = build_counts N.tails N.heads N.order rank₀ G₀ rank G e (sym h) in
    let c2 = lengths_pass (arcs N) (length N.heads) (length N.costs) P.c2 p.as_many in
    let c9 = lawful_passes N.costs (λ i l. p.lawful i (omega (arith, p.as_many))) in
    let c10 = rooms_pass (its_e N.order G) C₀ (omega arith) (omega arith) in
    rw (P.c1, c2, P.c3, P.c4, c7, c8, c9, c10) refl

-- so that it is done
done_told : (N : Net) (rank : List ℕ) (G : Graph) (C₀ : EdgeCosts) → customise_checks N rank G C₀ ≡ passes
    → (answer : Result ⊤ Refusal) (C : EdgeCosts) → Customises N rank G C₀ answer C → answer ≡ Ok tt
unfolding customise_leaves
done_told N rank G C₀ c answer C h =
    fill_answers answer (Ok tt) (ap (λ (x : CustomiseLeaves). x.reply) h ∙ rw c refl)

-- both junctions are in the net, or one is not
in_or_outside : (N : Net) (from to : ℕ) → Outside N from to ⊎ ((from < size N) × (to < size N))
in_or_outside N from to =
    either (split (leb (size N) from))
    (λ e. inl (inl (leb-true (size N) from e)))
    (λ e. either (split (leb (size N) to))
    (λ d. inl (inr (leb-true (size N) to d)))
    (λ d. inr (leb-false (size N) from e, leb-false (size N) to d)))

pub built_is_taken : BuiltIsTaken
built_is_taken N rank₀ rank G₀ G e h p C₀ u d =
    record {
      edges = build_counts N.tails N.heads N.order rank₀ G₀ rank G e (sym h);
      done = done_told N rank G C₀ (built_passes N rank₀ rank G₀ G e h p C₀ u d);
      distance_taken = λ C c from to answer q f g.
          either (in_or_outside N from to)
          (λ o. let k = distance_outside (stands N rank G C₀ C (sym c)) from to o answer q in (cc, o))
          (λ (l, m). absurd ((distance_after_customise N rank G C₀ C c from to l m answer q).taken f g));
      sweep_taken = λ C c d j lent answer left q f g.
          let n = size N in
          let refused = sweep_refused (stands N rank G C₀ C (sym c)) d j lent answer left q in
          either (in_or_outside N j j)
          (λ o. let k = refused StartOrTarget (rw (outside_fails n j j o) refl) in inl (cc, either o (λ l. l) (λ l. l)))
          (λ (l, m).
          either (same_or_not (length lent) n)
          (λ long. let k = (sweep_after_customise N rank G C₀ C c d j l lent answer left long q).0 in clash (cc))
          (λ differs.
          let k = refused DistanceRoom (rw (in_range_passes n j j l m, length_differs_fails n lent differs) refl) in
          inr (cc, differs)));
      route_taken = λ C c from to lent answer left q f g.
          either (in_or_outside N from to)
          (λ o. let k = route_outside (stands N rank G C₀ C (sym c)) from to o lent answer left q in inl (cc, o))
          (λ (l, m). inr ((route_after_customise N rank G C₀ C c from to l m lent answer left q).taken f g));
    }
