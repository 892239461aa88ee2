-- The proof of demand 3, as specs/Demand3.antt states it. Assumes nothing.
use Prim.Native.Nat.{ℕ, ◌≤◌, ◌<◌}
use mathlib.Core.Path.{◌≡◌, refl, sym, ap, ◌∙◌, subst}
use mathlib.Core.Logic.{◌⊎◌, inl, inr, ◌≢◌}
use mathlib.Core.Bool.{cond, not}
use mathlib.Core.List.Memᴰ.{cast as same_in}
use mathlib.Core.List.Memᴰ.{head as in_first}
use mathlib.Core.List.Memᴰ.{tail as in_then}
use mathlib.Core.List.{List, [], ◌∷◌, map, Memᴰ as In}
use native.Mathlib.Omega.{arith}
use lib.Dec.{T, eqb, ltb}
use lib.ListN.{length, get_or}
use borrow.Author.Tests.{eqb-true, eqb-false, eq-eqb, ne_eqb, ltb-true, ltb-false}
use Rattle.rules.specs.Costs.{closed, none}
use Rattle.rules.specs.declared.Direction.{Direction}
use Rattle.rules.specs.declared.Direction.TheVariants.{Up, Down}
use Rattle.rules.specs.Replies.{Reply, done, far, no_walk}
use Rattle.rules.specs.Net.{Net, size, arcs, arc_cost, junction, arc_between, road_between}
use Rattle.rules.specs.Hierarchy.{EdgeCosts, linked, held, along, its_e}
use Rattle.rules.specs.Distance.{distance}
use Rattle.rules.specs.Words.{has}
use Rattle.rules.specs.Route.{Event, met, trouble, driven, route_list}
use Rattle.rules.specs.Refusals.{passes, first_failure, check10, check11, check15}
use Rattle.rules.specs.Calls.{CustomiseLeaves, customise_left, customise_checks, customise_leaves, shortcut_cost, customised_costs, distance_checks, listed_distance, distance_between, distance_leaves, SweepLeaves, sweep_checks, or_closed, swept_leaves, sweep_leaves, route_checks, listed_way, driven_leaves, route_leaves}
use Rattle.theory.specs.Demand3.{is_walk, walk_cost, passed, none_twice, LeastWalk, NoWalk, TrueDistance, TrueAnswer, start_by, target_by, leads, shut, TrueList, DistanceRight, SweepRight, RouteRight}
use Rattle.theory.proofs.Words.{either, split, has_nil, has_cons, and_i, not_i, clash, length_tabulate, tabulate_at}
use Rattle.theory.proofs.Verdicts.{alone, unless_e}
use Rattle.theory.proofs.Distance.{distance_top}
use Rattle.theory.proofs.CostLists.{length_list}
use Rattle.theory.proofs.Route.{length_route, Drive, Clear, met_drive, trouble_none, trouble_room, trail_clear, pieces_trail}
use Rattle.theory.proofs.Simple.{Apart, empty, more, places, few_steps, places_under, least_apart}
use Rattle.theory.proofs.Rows.{linked_turn}
use Rattle.theory.specs.Accepted.{Accepted}
use Rattle.theory.proofs.Accepted.{Passed, passed_all, accepted, rooms_pass, in_range_passes, length_is_passes, near_passes}
use Rattle.theory.proofs.Standing.{joins, road_lawful, road_small, far_walk, far_least, far_some, far_small, held_small, held_customised}
use Rattle.theory.proofs.Walks.{drive_walk, drive_way, way_drive, walk_way}
use Rattle.rules.specs.Graph.{Graph}

-- ---- names

-- what stands in a list of names is the name of something in the list
name_in : (f : ℕ → ℕ) (xs : List ℕ) (y : ℕ) → T (has (map f xs) y) → (x : ℕ) × In x xs × (f x ≡ y)
name_in f [] y t = absurd (has_nil y t)
name_in f (x ∷ xs) y t =
    either (has_cons (f x) y (map f xs) t)
    (λ e. (x, in_first refl, e))
    (λ h. let (z, i, e) = name_in f xs y h in (z, in_then i, e))

-- what is apart stays so under names that tell it apart
apart_once : (f : ℕ → ℕ) {xs : List ℕ} → ((x y : ℕ) → In x xs → In y xs → f x ≡ f y → x ≡ y) → Apart xs → T (none_twice (map f xs))
unfolding none_twice
apart_once f one empty = tt
apart_once f one (more {x = x} {xs = xs} n a) =
    and_i (not (has (map f xs) (f x))) (none_twice (map f xs))
    (not_i (has (map f xs) (f x)) (λ t. let (y, i, e) = name_in f xs (f x) t in n (same_in (one x y (in_first refl) (in_then i) (sym e)) i)))
    (apart_once f (λ u v i j. one u v (in_then i) (in_then j)) a)

-- ---- customise accepted

-- customise accepted, and left the customised costs
pub record Stands (N : Net) (rank : List ℕ) (G : Graph) (C₀ C : EdgeCosts) : Type 0 where
  pub passing : customise_checks N rank G C₀ ≡ passes
  pub lists : C ≡ customised_costs N G C₀

pub stands : (N : Net) (rank : List ℕ) (G : Graph) (C₀ C : EdgeCosts) → customise_leaves N rank G C₀ ≡ customise_left C done
    → Stands N rank G C₀ C
unfolding customise_leaves
stands N rank G C₀ C e =
    let reply : CustomiseLeaves → Reply = λ l. l.reply in
    let filled = customise_left (customised_costs N G C₀) done in
    let p = unless_e reply (customise_checks N rank G C₀) (customise_left C₀) filled done (λ k q f. clash (cc)) (ap reply e) in
    record { passing = p; lists = sym (ap (λ (l : CustomiseLeaves). l.costs) (rw p at e)) }

-- ---- the checks of the questions pass

module _ {N : Net} {rank : List ℕ} {G : Graph} {C₀ C : EdgeCosts} (S : Stands N rank G C₀ C) where
  abbrev A : Accepted N rank G C₀
  A = accepted N rank G C₀ S.passing

  abbrev P : Passed N rank G C₀
  P = passed_all N rank G C₀ S.passing

  -- the lists left are as long as those lent
  lists_pass : check10 (its_e N.order G) C ≡ passes
  lists_pass =
      let f = shortcut_cost N G in
      let u = ap (λ (c : EdgeCosts). length c.up) S.lists ∙ length_list (size N) G f Up (λ i. closed) (length C₀.up) in
      let d = ap (λ (c : EdgeCosts). length c.down) S.lists ∙ length_list (size N) G f Down (λ i. closed) (length C₀.down) in
      rooms_pass (its_e N.order G) C (omega (arith, A.up_long)) (omega (arith, A.down_long))

  -- of distance's checks, that of the junctions is left
  pub distance_asks : (from to : ℕ) → distance_checks N.order rank G C from to ≡ check11 (size N) from to
  unfolding distance_checks
  distance_asks from to = rw (P.c1, P.c4, P.c7, lists_pass) (sym (alone (check11 (size N) from to)))

  -- of a sweep's checks, those of the junction and of the list's length are left
  pub sweep_asks : (j : ℕ) (lent : List ℕ) → sweep_checks N.order rank G C j lent ≡ first_failure (check11 (size N) j j ∷ check15 (size N) lent ∷ [])
  unfolding sweep_checks
  sweep_asks j lent = rw (distance_asks j j) refl

  -- customise would accept the lists that it left
  pub still_passes : customise_checks N rank G C ≡ passes
  unfolding customise_checks
  still_passes = rw (P.c1, P.c2, P.c3, P.c4, P.c7, P.c8, P.c9, lists_pass) refl

  -- and of route's checks too, that of the junctions is left
  pub route_asks : (from to : ℕ) → route_checks N rank G C from to ≡ check11 (size N) from to
  unfolding route_checks
  route_asks from to = rw still_passes (sym (alone (check11 (size N) from to)))

  -- ---- the distance

  -- a distance is the number for none, and there is no walk, or it is below CLOSED and the cost of the least walk
  abbrev NoneOrLeast : (from to distance : ℕ) → Type 0
  NoneOrLeast from to distance = ((distance ≡ none) × NoWalk N from to) ⊎ ((distance < closed) × LeastWalk N from to distance)

  module _ (from to : ℕ) (h : from < size N) (g : to < size N) where
    abbrev s : ℕ
    s = get_or rank from 0

    abbrev t : ℕ
    t = get_or rank to 0

    abbrev d : ℕ
    d = distance (size N) (linked G) (held G C) s t

    s_in : s < size N
    s_in = A.ranks.position from h

    -- a walk between the junctions costs no less than the distance, and there is a distance
    walk_least : (other : List ℕ) → T (is_walk N from other to) → (d ≤ walk_cost N other) × (d < none)
    walk_least other w =
        let (x, p, l) = walk_way N A.ranks A.ends_in finite other from to h w in
        (let k = far_least A S.lists s t s_in p in omega arith, omega (arith, far_some A S.lists s t s_in p))
      where
        finite : (i : ℕ) → i < arcs N → arc_cost N i ≢ closed → arc_cost N i < closed
        finite i l n = either (A.lawful i l).most (λ e. absurd (n e)) (λ e. omega arith)

    -- a drive between the positions is a walk between the junctions
    drive_from_to : {is : List ℕ} {w : ℕ} → Drive (road_between N) (arc_between N) s t is w → T (is_walk N from is to) × (walk_cost N is ≡ w)
    drive_from_to {is} r =
        let (u, v) = drive_walk N r in
        let es : junction N s ≡ from = A.ranks.there from h in
        let et : junction N t ≡ to = A.ranks.there to g in
        (rw (es, et) at u, v)

    least_walk : d < none → LeastWalk N from to d
    least_walk f =
        let (is, r) = way_drive N (far_walk A S.lists s t f) in
        let (u, v) = drive_from_to r in
        record { way = is; walks = u; costs = v; least = λ other w. (walk_least other w).0 }

    -- the distance between the junctions' positions is one or the other: distance, the sweeps and route choose what they tell by it
    none_or_least : NoneOrLeast from to d
    none_or_least =
        either (split (eqb d none))
        (λ e.
        let x = eqb-true d none e in
        inl (x, record { none = λ other w. let y = (walk_least other w).1 in omega arith }))
        (λ e.
        let b : d < none = omega (arith, distance_top (size N) (linked G) (held G C) s t, eqb-false d none e) in
        inr (omega (arith, far_small A S.lists s t s_in b), least_walk b))

    -- what distance tells by it is true
    told : TrueDistance N from to (cond (eqb d none) no_walk (far d))
    told = either none_or_least (λ (e, n). rw (eq-eqb d none e) n) (λ (b, w). rw (ne_eqb d none (λ e. omega arith)) w)

    distance_told : TrueDistance N from to (distance_leaves N.order rank G C from to).reply
    unfolding distance_leaves listed_distance
    distance_told = rw (distance_asks from to ∙ in_range_passes (size N) from to h g) told

    -- ---- the route

    abbrev way : List Event
    way = met (size N) (linked G) (held G C) (road_between N) (arc_between N) s t

    -- nothing misfits
    way_clear : d < none → Clear way
    unfolding met
    way_clear f =
        let cost = held G C in
        trail_clear (linked G) cost (road_between N) (arc_between N) (linked_turn G)
        (λ a b j k.
        either ((held_customised A S.lists).made j k) (λ e. inl e)
        (λ m. inr (m.mid, (let x = m.under_a in let y = m.under_b in omega arith), m.to_a, m.to_b, m.sum)))
        (held_small A S.lists)
        (pieces_trail (linked G) cost (size N) s t f)

    -- it is a drive that costs the distance, passes no junction twice and has fewer arcs than there are junctions
    way_drives : d < none → Drive (road_between N) (arc_between N) s t (driven way) d
    way_drives f = met_drive (linked G) (held G C) (road_between N) (arc_between N) (size N) s t f (way_clear f)

    way_simple : d < none → T (none_twice (passed N from (driven way))) × (length (driven way) < size N)
    way_simple f =
        let open_road : (u v : ℕ) → road_between N u v ≢ closed → road_between N u v < closed = λ u v n. omega (arith, road_small A u v) in
        let (p, e, l) = drive_way N open_road (way_drives f) in
        let leads : (u v : ℕ) → road_between N u v < closed → v < size N = λ u v r. (joins A).below ((joins A).turn ((joins A).roads r)) in
        let apart : Apart (places p) =
        least_apart (λ u v r. let x = road_lawful A u v (λ (e : road_between N u v ≡ closed). let y : road_between N u v < closed = r in omega arith) in x.0) p
        (λ x q. far_least A S.lists s t s_in q) in
        let es : junction N s ≡ from = A.ranks.there from h in (
          subst (λ l. T (none_twice l)) (sym e ∙ ap (λ u. passed N u (driven way)) es)
              (apart_once (junction N) (λ x y i j k. A.seats.once x y (places_under leads s_in p x i) (places_under leads s_in p y j) k) apart),
          (let x = few_steps leads s_in p apart in omega arith),
        )

    answered : d < none → (room : ℕ) → TrueAnswer N from to room (driven_leaves way d room).route (driven_leaves way d room).reply
    unfolding driven_leaves
    answered f room =
        let arcs = driven way in
        let (u, v) = drive_from_to (way_drives f) in
        let (o, k) = way_simple f in
        either (split (ltb room (length arcs)))
        (λ e.
        let c : trouble room way ≡ 12 = trouble_room room way (way_clear f) (ltb-true room (length arcs) e) in
        let l = ltb-true room (length arcs) e in
        rw (c) (refl, omega arith))
        (λ e.
        let c : trouble room way ≡ 0 = trouble_none room way (way_clear f) (ltb-false room (length arcs) e) in
        rw c
        (record {
          way = arcs;
          walks = u;
          costs = v;
          least = λ other w. (walk_least other w).0;
          once = o;
          count = refl;
          listed = ap (route_list arcs) (sym (length_route arcs room (ltb-false room (length arcs) e)));
          short = k;
        }))

    -- where there is no walk route tells so, however short the list
    pub route_none : NoWalk N from to → (room : List ℕ) → (route_leaves N rank G C from to room).reply ≡ no_walk
    unfolding route_leaves listed_distance
    route_none lost room =
        rw (route_asks from to ∙ in_range_passes (size N) from to h g)
        (either none_or_least (λ (e, n). rw (eq-eqb d none e) refl) (λ (b, w). absurd (lost.none w.way w.walks)))

    route_told : (room : List ℕ)
        → TrueAnswer N from to (length room) (route_leaves N rank G C from to room).route (route_leaves N rank G C from to room).reply
    unfolding route_leaves listed_distance listed_way
    route_told room =
        rw (route_asks from to ∙ in_range_passes (size N) from to h g)
        (either none_or_least
        (λ (e, n). rw (eq-eqb d none e) n)
        (λ (b, w). rw (ne_eqb d none (λ e. omega arith)) (answered (omega arith) (length room))))

  -- ---- the sweeps

  -- the distance that an entry is made of is one or the other too, from j or to j
  entry_is : (d : Direction) (j x : ℕ) → j < size N → x < size N
      → NoneOrLeast (start_by d j x) (target_by d j x) (along d (distance_between (size N) rank G C) j x)
  unfolding listed_distance
  entry_is Up j x h g = none_or_least j x h g
  entry_is Down j x h g = none_or_least x j g h

  -- no distance is too far, so the list is filled, and each entry is true
  sweep_told : (d : Direction) (j : ℕ) → j < size N → (lent : List ℕ) → length lent ≡ size N
      → let left : SweepLeaves = sweep_leaves N.order rank G C d j lent in
      (left.reply ≡ done) × TrueList N d j left.distances
  unfolding sweep_leaves swept_leaves
  sweep_told d j h lent long =
      let n = size N in
      let f = along d (distance_between n rank G C) j in
      let near = near_passes n f (λ x g. either (entry_is d j x h g) (λ (e, l). inl e) (λ (b, w). inr b)) in
      rw (sweep_asks j lent, in_range_passes n j j h h, length_is_passes n lent long, near) (
        refl,
        record {
          long = length_tabulate (λ x. or_closed (f x)) 0 n;
          entry = λ x g.
              rw (tabulate_at (λ x. or_closed (f x)) n x 0 g)
              (either (entry_is d j x h g)
              (λ (e, l). rw (eq-eqb (f x) none e) (shut refl l))
              (λ (b, w). rw (ne_eqb (f x) none (λ e. omega arith)) (leads b w)));
        },
      )

-- "the distance told is the least cost of any walk along open roads, "none" exactly if there is none"
pub distance_right : DistanceRight
distance_right N rank G C left from to h g = distance_told (stands N rank G left.before C left.leaves) from to h g

-- "The filled list .. holds, for each junction, what the distance call says, CLOSED for none"; 16 "never with customised costs"
pub sweep_right : SweepRight
sweep_right N rank G C left d j h lent long = sweep_told (stands N rank G left.before C left.leaves) d j h lent long

-- "the route is such a walk, adds up, and passes no junction twice"
pub route_right : RouteRight
route_right N rank G C left from to h g room =
    route_told (stands N rank G left.before C left.leaves) from to h g room
