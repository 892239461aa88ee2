-- The whole: CLOSED everywhere, then all arcs, then all turns. Assumes nothing.
use Prim.Native.Nat.{ℕ, ◌+◌, ◌≤◌, ◌<◌}
use mathlib.Core.Path.{◌≡◌, refl, sym, ap, ◌∙◌}
use mathlib.Core.Logic.{◌≢◌}
use mathlib.Core.List.{List}
use native.Mathlib.Omega.{arith}
use lib.ListN.{length, get_or, replicate, length-replicate, get_or-replicate}
use Rattle.rules.specs.declared.Direction.{Direction}
use Rattle.rules.specs.declared.Direction.TheVariants.{Up, Down}
use Rattle.rules.specs.Costs.{closed}
use Rattle.rules.specs.Net.{Net, size, arcs, tail, head, arc_cost, road_between}
use Rattle.rules.specs.Graph.{Graph}
use Rattle.rules.specs.Hierarchy.{EdgeCosts, along}
use Rattle.rules.specs.Customised.{cost_lists}
use Rattle.rules.specs.Calls.{shortcut_cost, customised_costs}
use Rattle.theory.specs.Rows.{InRow, Rows, Lists, count}
use Rattle.theory.specs.Accepted.{Accepted}
use Rattle.theory.proofs.Rows.{count_is, lists_of, lists_same, in_heads}
use Rattle.theory.proofs.LastArc.{last_between, last_zero, between_last}
use Rattle.theory.proofs.CostLists.{list_of}
use Rattle.theory.proofs.Standing.{road_small}
use Rattle.rules.specs.Lent.{chosen}
use Rattle.turns.specs.Edges.{At}
use Rattle.customise.specs.Edges.{ArcFits, laid}
use Rattle.customise.specs.Turns.{Turned}
use Rattle.turns.proofs.At.{at_as}
use Rattle.customise.proofs.Laid.{arc_fits, laid_on_lem}

-- lists as long as their rooms that hold the costs at the edges' places, and CLOSED past the edges
pub record Listing (n : ℕ) (G : Graph) (cost : ℕ → ℕ → ℕ) (room C : EdgeCosts) : Type 0 where
  pub up_long : length C.up ≡ length room.up
  pub down_long : length C.down ≡ length room.down
  pub there : (p k : ℕ) → p < n → InRow G p k → At G C cost p k
  pub past : (d : Direction) (k : ℕ) → get_or G.first n 0 ≤ k → k < length (chosen d room) → get_or (chosen d C) k 0 ≡ closed

-- such lists are those of the definition
listing_is : {n : ℕ} {G : Graph} {cost : ℕ → ℕ → ℕ} {room C : EdgeCosts} → Rows n G → Listing n G cost room C → C ≡ cost_lists n G cost room
listing_is {cost = cost} {room} {C} R L =
    let u = list_of R cost Up (λ i. closed) (length room.up) C.up L.up_long (λ p k h r. (L.there p k h r).stands Up) (L.past Up) in
    let w = list_of R cost Down (λ i. closed) (length room.down) C.down L.down_long (λ p k h r. (L.there p k h r).stands Down) (L.past Down) in
    rw (← u, ← w) refl

-- the arcs below m have been laid, in rooms that are long enough
pub record Laying (N : Net) (G : Graph) (room : EdgeCosts) (m : ℕ) (C : EdgeCosts) : Type 0 where
  pub within : m ≤ arcs N
  pub fits : Lists G room
  pub lists : Listing (size N) G (last_between N m) room C

module _ {N : Net} {rank : List ℕ} {G : Graph} {C₀ : EdgeCosts} (A : Accepted N rank G C₀) where
  -- no arc laid yet: CLOSED everywhere
  module _ (room : EdgeCosts) (eu : room.up ≡ replicate (length C₀.up) closed) (ed : room.down ≡ replicate (length C₀.down) closed) where
    whole : (d : Direction) → chosen d room ≡ replicate (length (chosen d C₀)) closed
    whole Up = eu
    whole Down = ed

    same_room : (d : Direction) → length (chosen d room) ≡ length (chosen d C₀)
    same_room d = ap length (whole d) ∙ length-replicate (length (chosen d C₀)) closed

    enough : (d : Direction) → get_or G.first (size N) 0 ≤ length (chosen d room)
    enough Up = omega (arith, A.up_long, same_room Up)
    enough Down = omega (arith, A.down_long, same_room Down)

    clear : (d : Direction) (k : ℕ) → k < length (chosen d room) → get_or (chosen d room) k 0 ≡ closed
    clear d k l =
        ap (λ o. get_or o k 0) (whole d) ∙ get_or-replicate (length (chosen d C₀)) k closed 0 (omega (arith, same_room d))

    none_yet : (d : Direction) (p q : ℕ) → closed ≡ along d (last_between N 0) p q
    none_yet Up p q = sym (last_zero N _ _)
    none_yet Down p q = sym (last_zero N _ _)

    pub laying_start : Laying N G room 0 room
    laying_start =
        record {
          within = omega arith;
          fits = lists_of A.rows_of room A.few (enough Up) (enough Down);
          lists = record {
            up_long = refl;
            down_long = refl;
            there = λ p k h r. record {
              stands = λ d. clear d k (omega (arith, (in_heads A.rows_of p k h r).0, enough d)) ∙ none_yet d p (get_or G.heads k 0);
            };
            past = λ d k h l. clear d k l;
          };
        }

    -- the definition's lists, in these rooms or in those
    pub room_same : {C : EdgeCosts} → C ≡ customised_costs N G room → C ≡ customised_costs N G C₀
    room_same e = rw (← (same_room Up), ← (same_room Down)) e

  -- the lists are those of the hierarchy
  pub laying_lists : {room : EdgeCosts} {m : ℕ} {C : EdgeCosts} → Laying N G room m C → Lists G C
  laying_lists S = lists_same S.fits S.lists.up_long S.lists.down_long

  -- what laying the next arc asks
  pub laying_fits : {room : EdgeCosts} {m : ℕ} {C : EdgeCosts} → Laying N G room m C → m < arcs N → Lists G C × ArcFits rank G (tail N m) (head N m)
  laying_fits {m = m} S l = (laying_lists S, arc_fits A m l)

  -- one arc more
  pub laying_more : {room : EdgeCosts} {m : ℕ} {C C' : EdgeCosts} → Laying N G room m C → m < arcs N → C' ≡ laid rank G (tail N m) (head N m) (arc_cost N m) C
      → Laying N G room (m + 1) C'
  laying_more {m = m} S l e =
      let on = laid_on_lem A m l (laying_lists S) e in
      record {
        within = omega arith;
        fits = S.fits;
        lists = record {
          up_long = (on Up).long ∙ S.lists.up_long;
          down_long = (on Down).long ∙ S.lists.down_long;
          there = λ p k h r. record { stands = λ d. (on d).there p k h r ((S.lists.there p k h r).stands d) };
          past = λ d k h b. (on d).rest k h ∙ S.lists.past d k h b;
        };
      }

  -- all arcs laid and all turns taken: the lists of the definition
  pub laying_all : {room : EdgeCosts} {m : ℕ} {C C' : EdgeCosts} → Laying N G room m C → arcs N ≤ m → Turned G 0 C (size N) C' → C' ≡ customised_costs N G room
  unfolding shortcut_cost
  laying_all {m = m} {C} {C'} S l t =
      let R = A.rows_of in
      let road = road_between N in
      let c : count G.first ≡ size N = count_is R in
      let e : m ≡ arcs N = omega (arith, S.within) in
      let same : (a b : ℕ) → a < size N → b < size N → a ≢ b → last_between N m a b ≡ road a b =
      λ a b la lb d. rw e (sym (between_last N A.seats a b la lb d)) in
      let end = t.risen road (road_small A) (record {
        final = λ p k h g r. absurd (omega arith);
        roads = λ p k h g r.
            let q = get_or G.heads k 0 in
            let pn : p < size N = omega arith in
            let pq = R.above p k pn r in
            let qn = R.below p k pn r in
            at_as (S.lists.there p k pn r) (same p q pn qn (λ f. omega arith)) (same q p qn pn (λ f. omega arith));
      }) in
      listing_is R (record {
        up_long = t.kept.up_long ∙ S.lists.up_long;
        down_long = t.kept.down_long ∙ S.lists.down_long;
        there = λ p k h r. end.final p k (omega arith) (omega arith) r;
        past = λ d k h b. t.kept.rest d k (rw c h) ∙ S.lists.past d k h b;
      })
