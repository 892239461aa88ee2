-- The last arc listed between two junctions tells what the road costs: there is none where nothing is listed. Assumes nothing.
use Prim.Native.Nat.{ℕ, zero, suc, ◌≤◌, ◌<◌}
use mathlib.Core.Path.{◌≡◌, refl, sym, ap, ◌∙◌}
use mathlib.Core.Logic.{◌≢◌}
use mathlib.Core.Bool.{Bool}
use native.Mathlib.Omega.{arith}
use lib.Dec.{T, eqb}
use lib.ListN.{length, get_or}
use borrow.Author.Tests.{eqb-true, eqb-false}
use Rattle.std.specs.Prelude.{Some, None}
use Rattle.rules.specs.Costs.{closed}
use Rattle.rules.specs.Net.{Net, junction, runs, road, road_between, arc_between}
use Rattle.theory.specs.Threads.{last_below}
use Rattle.theory.proofs.Words.{either, split, true_false, holds_true, true_holds}
use Rattle.theory.proofs.Listings.{LastListed, none_listed, last_closed, last_open, between_road}
use Rattle.theory.proofs.Threads.{last_hit, last_miss, last_within, last_stands, last_passes}
use Rattle.roads.specs.declared.Roads.{Roads}
use Rattle.roads.specs.Roads.{one_less, last_arc, RoadsOf}

-- none after the last passes
none_after : (f : ℕ → Bool) (m j : ℕ) → last_below f m ≤ j → j < m → T (f j) → ⊥
none_after f zero j a b t = omega arith
none_after f (suc m) j a b t =
    either (split (f m))
    (λ e. omega (arith, last_hit f m e))
    (λ e.
    either (split (eqb j m))
    (λ d. true_false (sym (holds_true (f j) t) ∙ ap f (eqb-true j m d) ∙ e))
    (λ d. none_after f m j (omega (arith, last_miss f m e)) (omega (arith, eqb-false j m d)) t))

module _ {N : Net} {R : Roads} (K : RoadsOf N R)
    {a b u v : ℕ} (from_in : a < length N.order) (to_in : b < length N.order) (apart : a ≢ b) (u_is : u ≡ get_or N.order a 0) (v_is : v ≡ get_or N.order b 0) where
  abbrev last : ℕ
  last = last_below (runs N (junction N a) (junction N b)) (length N.heads)

  told : last_arc N.tails N.heads u v ≡ one_less last
  told = ap (λ x. last_arc N.tails N.heads x v) u_is ∙ ap (last_arc N.tails N.heads (junction N a)) v_is

  between : road_between N a b ≡ road N (junction N a) (junction N b)
  between = between_road N a b from_in to_in apart

  -- nothing listed, no road
  pub no_road : None ≡ last_arc N.tails N.heads u v → road_between N a b ≡ closed
  no_road e =
      let z : last ≡ 0 = none_less last (e ∙ told) in
      between
      ∙ none_listed N (junction N a) (junction N b) (λ j h t. none_after (runs N (junction N a) (junction N b)) (length N.heads) j (omega arith) (omega (arith, K.by_tail.0)) t)
    where
      none_less : (k : ℕ) → None ≡ one_less k → k ≡ 0
      none_less zero e = refl
      none_less (suc k) e = let z : ◌≡◌ {A = ℕ} 0 1 = cc in absurd (omega arith)

  module _ (i : ℕ) (found : Some i ≡ last_arc N.tails N.heads u v) where
    is : last ≡ suc i
    is = some_less last (found ∙ told)
      where
        some_less : (k : ℕ) → Some i ≡ one_less k → k ≡ suc i
        some_less zero e = let z : ◌≡◌ {A = ℕ} 0 1 = cc in absurd (omega arith)
        some_less (suc k) e = let f : i ≡ k = cc in ap suc (sym f)

    listing : LastListed N (junction N a) (junction N b) i
    listing =
        let f = runs N (junction N a) (junction N b) in
        let g : last_below f (suc i) ≡ suc i = sym (ap (last_below f) is) ∙ last_stands f (length N.heads) ∙ is in
        record {
          listed = omega (arith, K.by_tail.0, is, last_within f (length N.heads));
          goes = true_holds (f i) (last_passes f i g);
          none_later = λ j h l t. none_after f (length N.heads) j (omega (arith, is)) (omega (arith, K.by_tail.0)) t;
        }

    -- the last listing is the arc in force, unless it is CLOSED
    pub in_force_lem : get_or N.costs i 0 ≢ closed → (arc_between N a b ≡ i) × (road N (junction N a) (junction N b) ≡ get_or N.costs i 0)
    in_force_lem = last_open N (junction N a) (junction N b) i listing (λ e. apart (K.seats.once a b from_in to_in e))

    -- the road costs what the last listing does
    pub costs_so : road_between N a b ≡ get_or N.costs i 0
    costs_so =
        between
        ∙ either (split (eqb (get_or N.costs i 0) closed))
        (λ t. let c = eqb-true (get_or N.costs i 0) closed t in last_closed N (junction N a) (junction N b) i listing c ∙ sym c)
        (λ t. (in_force_lem (eqb-false (get_or N.costs i 0) closed t)).1)
