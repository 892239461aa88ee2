-- Route over lists and a question that its checks accept: where the labels meet, no way or what driving the way leaves. Assumes nothing.
use Prim.Native.Nat.{ℕ, suc, ◌-◌, ◌≤◌, ◌<◌}
use mathlib.Core.Path.{◌≡◌, refl, sym, ap, ◌∙◌}
use mathlib.Core.Logic.{◌≢◌}
use mathlib.Core.Bool.{cond}
use mathlib.Core.List.{List, [], ◌∷◌}
use native.Mathlib.Omega.{arith}
use lib.Dec.{eqb}
use lib.ListN.{length, get_or, replicate}
use borrow.Author.Tests.{eq-eqb, ne_eqb}
use Rattle.rules.specs.Calls.{RouteLeaves, route_left, customise_checks, route_checks, listed_distance, listed_way, driven_leaves, route_leaves}
use Rattle.rules.specs.Costs.{closed, none}
use Rattle.rules.specs.Distance.{label, distance, meeting}
use Rattle.rules.specs.Graph.{Graph}
use Rattle.rules.specs.Hierarchy.{EdgeCosts, linked, held, along}
use Rattle.rules.specs.Net.{Net, size}
use Rattle.rules.specs.Refusals.{passes, check11}
use Rattle.rules.specs.Replies.{no_walk}
use Rattle.rules.specs.Route.{pieces, met}
use Rattle.rules.specs.declared.Direction.TheVariants.{Up, Down}
use Rattle.theory.specs.Accepted.{Accepted}
use Rattle.theory.specs.Rows.{count}
use Rattle.theory.proofs.Accepted.{accepted, passes11}
use Rattle.theory.proofs.Distance.{distance_top, meeting_made}
use Rattle.theory.proofs.Rows.{count_is}
use Rattle.theory.proofs.Verdicts.{first_passes}
use Rattle.lists.specs.Lent.{filled}
use Rattle.lists.proofs.Filled.{filled_whole}
use Rattle.distance.specs.Labelled.{MetBetween}
use Rattle.unpack.specs.Opening.{ran, put}
use Rattle.unpack.specs.declared.Stuck.{Stuck}
use Rattle.std.specs.Prelude.{Result}
use Rattle.drive.specs.Driving.{Leads, Traced, steps, Walkable, way_over, left_after}
use Rattle.drive.proofs.LeftAfter.{left_after_lem}
use Rattle.drive.proofs.Steps.{traced_kept, walkable, steps_pieces}
use Rattle.drive.proofs.Traced.{sources_lead}

-- ---- the question

-- what the checks of route establish
pub record Asked (N : Net) (rank : List ℕ) (G : Graph) (C : EdgeCosts) (from to : ℕ) : Type 0 where
  pub checked : customise_checks N rank G C ≡ passes
  pub question : check11 (size N) from to ≡ passes
  pub roads : Accepted N rank G C
  pub start : from < size N
  pub target : to < size N

pub asked : {N : Net} {rank : List ℕ} {G : Graph} {C : EdgeCosts} {from to : ℕ} → route_checks N rank G C from to ≡ passes → Asked N rank G C from to
unfolding route_checks
asked {N} {rank} {G} {C} {from} {to} e =
    let (c, f) = first_passes (customise_checks N rank G C) (check11 (size N) from to ∷ []) e in
    let (q, r) = first_passes (check11 (size N) from to) [] f in
    let (s, t) = passes11 (size N) from to q in
    record { checked = c; question = q; roads = accepted N rank G C c; start = s; target = t }

-- ---- where the labels meet

module _ {G : Graph} {C : EdgeCosts} {s t sum at : ℕ} {came_up came_down : List ℕ} (M : MetBetween G C s t sum at came_up came_down) (some : sum ≢ none) where
  finite : distance (count G.first) (linked G) (held G C) s t < none
  unfolding listed_distance
  finite = below none (distance_top (count G.first) (linked G) (held G C) s t) (λ e. some (M.is_distance ∙ e))
    where
      below : (top : ℕ) → distance (count G.first) (linked G) (held G C) s t ≤ top → distance (count G.first) (linked G) (held G C) s t ≢ top
          → distance (count G.first) (linked G) (held G C) s t < top
      below top h n = omega arith

  -- a position of the net, with a label from both ends
  pub record Meets : Type 0 where
    pub is_meeting : at ≡ meeting (count G.first) (linked G) (held G C) s t
    pub inside : at < count G.first
    pub from_start : label (linked G) (along Up (held G C)) s at < none
    pub from_target : label (linked G) (along Down (held G C)) t at < none

  pub meets : Meets
  unfolding listed_distance
  meets =
      let m = M.is_meeting (rw M.is_distance finite) in
      let (h, e) = meeting_made (count G.first) (linked G) (held G C) s t finite in
      record {
        is_meeting = m;
        inside = omega arith;
        from_start = rw m (omega (arith, finite));
        from_target = rw m (omega (arith, finite));
      }

-- ---- what is left

-- what route leaves by the way from s to t, of distance d, in a room
abbrev answered : (N : Net) (G : Graph) (C : EdgeCosts) (room s t d : ℕ) → RouteLeaves
answered N G C room s t d = cond (eqb d none) (route_left (replicate room closed) no_walk) (driven_leaves (listed_way N G C s t) d room)

-- behind the checks the lists are asked
passed : {N : Net} {rank : List ℕ} {G : Graph} {C : EdgeCosts} {from to : ℕ} → Asked N rank G C from to → (route : List ℕ)
    → route_leaves N rank G C from to route
    ≡ answered N G C (length route) (get_or rank from 0) (get_or rank to 0) (listed_distance (size N) G C (get_or rank from 0) (get_or rank to 0))
unfolding route_leaves route_checks listed_distance listed_way driven_leaves
passed A route = rw (A.checked, A.question) refl

-- the definition's way, by its pieces
listed_over : (N : Net) (G : Graph) (C : EdgeCosts) (s t : ℕ) → listed_way N G C s t ≡ way_over N G C (pieces (size N) (linked G) (held G C) s t)
unfolding way_over listed_way met
listed_over N G C s t = refl

module _ {N : Net} {rank : List ℕ} {G : Graph} {C : EdgeCosts} {from to : ℕ} (A : Asked N rank G C from to)
    {s t : ℕ} (s_is : s ≡ get_or rank from 0) (t_is : t ≡ get_or rank to 0) where
  size_is : count G.first ≡ size N
  size_is = count_is A.roads.rows_of

  -- both are positions of the net
  pub asked_in : (s < count G.first) × (t < count G.first)
  asked_in =
      (omega (arith, size_is, A.roads.ranks.position from A.start), omega (arith, size_is, A.roads.ranks.position to A.target))

  module _ {sum at : ℕ} {came_up came_down : List ℕ} (M : MetBetween G C s t sum at came_up came_down) where
    found : (route : List ℕ) → route_leaves N rank G C from to route ≡ answered N G C (length route) s t sum
    found route =
        let a = get_or rank from 0 in
        let b = get_or rank to 0 in
        let e : sum ≡ listed_distance (size N) G C a b =
        M.is_distance ∙ ap (λ n. listed_distance n G C s t) size_is ∙ ap (λ u. listed_distance (size N) G C u t) s_is ∙ ap (λ v. listed_distance (size N) G C a v) t_is in
        passed A route
        ∙ sym (ap (λ u. answered N G C (length route) u t sum) s_is ∙ ap (λ v. answered N G C (length route) a v sum) t_is ∙ ap (answered N G C (length route) a b) e)

    -- "For "none": no arcs, all places filled so"
    pub route_none : (route : List ℕ) {list : List ℕ} → sum ≡ none → list ≡ filled route 0 closed → route_left list no_walk ≡ route_leaves N rank G C from to route
    route_none route e f = ap (λ l. route_left l no_walk) (f ∙ filled_whole route closed) ∙ sym (found route ∙ rw (eq-eqb sum none e) refl)

    module _ (some : sum ≢ none) where
      -- both lists lead back from the meeting position
      pub traceable : (at < 4096) × Leads came_up s at × Leads came_down t at
      traceable =
          let m = meets M some in (
            omega (arith, m.inside, size_is, A.roads.few),
            sources_lead M.up_sources (suc at) at (omega arith) m.inside m.from_start,
            sources_lead M.down_sources (suc at) at (omega arith) m.inside m.from_target,
          )

      module _ {start end : ℕ} {between way : List ℕ} (U : Traced came_up Up s at start between) (D : Traced came_down Down t at end way)
          (kept : (j : ℕ) → j < 4095 → get_or way j 0 ≡ get_or between j 0) where
        -- both together are a way along edges
        pub way_walkable : Walkable G way start end
        way_walkable =
            let m = meets M some in
            walkable M.up_sources M.down_sources (traced_kept U D.starts kept) D m.inside m.from_start m.from_target

        -- on which is met what the definition says
        way_is : way_over N G C (steps way start (end - start)) ≡ listed_way N G C s t
        way_is =
            let m = meets M some in
            ap (way_over N G C)
            (steps_pieces M.up_sources M.down_sources (traced_kept U D.starts kept) D m.inside m.from_start m.from_target m.is_meeting
            ∙ ap (λ n. pieces n (linked G) (held G C) s t) size_is)
            ∙ sym (listed_over N G C s t)

        -- "then 12 and 13": what is left once it has been driven
        pub route_driven : (told : Result ℕ Stuck) (route then : List ℕ) {left : RouteLeaves}
            → ran told then ≡ put (way_over N G C (steps way start (end - start))) 0 route → left ≡ left_after told sum then
            → left ≡ route_leaves N rank G C from to route
        route_driven told route then e f =
            f ∙ left_after_lem (way_over N G C (steps way start (end - start))) sum told route then e
            ∙ ap (λ es. driven_leaves es sum (length route)) way_is
            ∙ sym (found route ∙ rw (ne_eqb sum none some) refl)
