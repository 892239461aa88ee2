-- The road by one pass over the arcs: "no later arc in the list has the same tail and the same head", so the last arc that runs from u to v
-- says what the road from u to v costs, even where that last one is CLOSED. Assumes nothing.
use Prim.Native.Nat.{ℕ, zero, suc, ◌+◌, ◌<◌}
use mathlib.Core.Path.{◌≡◌, refl, sym, ap, ◌∙◌}
use mathlib.Core.Logic.{◌⊎◌, inl, inr, ◌≢◌}
use mathlib.Core.Bool.{false, cond}
use native.Mathlib.Omega.{arith}
use native.Mathlib.Numerals.{add-one}
use lib.Dec.{T, eqb}
use borrow.Author.Tests.{eqb-true, eqb-false}
use Rattle.rules.specs.Costs.{closed}
use Rattle.rules.specs.Net.{Net, size, arcs, tail, head, arc_cost, junction, runs, road, road_between}
use Rattle.theory.proofs.Words.{either, split, true_false, true_holds, holds_true, cond_true, cond_false}
use Rattle.theory.specs.Orders.{Ordered}
use Rattle.theory.proofs.Roads.{runs_i, runs_e}
use Rattle.theory.proofs.Listings.{LastListed, none_listed, last_closed, last_open, between_road}

-- what the last of the arcs below m that runs from u to v costs; CLOSED if none does
unfoldable pub last_cost : (N : Net) (u v m : ℕ) → ℕ
last_cost N u v zero = closed
last_cost N u v (suc m) = cond (runs N u v m) (arc_cost N m) (last_cost N u v m)

-- the same between the junctions at two positions
abbrev pub last_between : (N : Net) (m a b : ℕ) → ℕ
last_between N m a b = last_cost N (junction N a) (junction N b) m

-- i is the last of the arcs below m that runs from u to v
record Last (N : Net) (u v m i : ℕ) : Type 0 where
  under : i < m
  runs_there : T (runs N u v i)
  none_later : (j : ℕ) → i < j → j < m → T (runs N u v j) → ⊥
  costs : last_cost N u v m ≡ arc_cost N i

module _ (N : Net) where
  -- before the first arc nothing is open
  pub last_zero : (u v : ℕ) → last_cost N u v 0 ≡ closed
  unfolding last_cost
  last_zero u v = refl

  -- an arc that runs from u to v replaces what was listed before it
  pub last_hit : (u v m : ℕ) → tail N m ≡ u → head N m ≡ v → last_cost N u v (m + 1) ≡ arc_cost N m
  unfolding last_cost
  last_hit u v m e d = rw (add-one m) (cond_true (runs N u v m) (arc_cost N m) (last_cost N u v m) (runs_i N u v m e d))

  -- any other changes nothing
  pub last_miss : (u v m : ℕ) → (tail N m ≡ u → head N m ≡ v → ⊥) → last_cost N u v (m + 1) ≡ last_cost N u v m
  unfolding last_cost
  last_miss u v m n =
      rw (add-one m) (cond_false (runs N u v m) (arc_cost N m) (last_cost N u v m) (λ t. let (e, d) = runs_e N u v m t in n e d))

  -- an arc that runs from u to v is another than one that does not
  elsewhere : (u v m j : ℕ) → runs N u v m ≡ false → j < suc m → T (runs N u v j) → j < m
  elsewhere u v m j e h t =
      either (split (eqb j m))
      (λ d. true_false (sym (holds_true (runs N u v j) t) ∙ ap (runs N u v) (eqb-true j m d) ∙ e))
      (λ d. omega (arith, eqb-false j m d))

  -- there is a last one, or none
  last_e : (u v m : ℕ) → ((i : ℕ) × Last N u v m i) ⊎ (((j : ℕ) → j < m → T (runs N u v j) → ⊥) × (last_cost N u v m ≡ closed))
  unfolding last_cost
  last_e u v zero = inr (λ j h t. omega arith, refl)
  last_e u v (suc m) =
      either (split (runs N u v m))
      (λ e. inl (m, record { under = omega arith; runs_there = true_holds (runs N u v m) e; none_later = λ j h k t. omega arith; costs = rw e refl }))
      (λ e. either (last_e u v m)
      (λ s. inl (s.0, record { under = omega (arith, s.1.under); runs_there = s.1.runs_there; none_later = λ j h k t. s.1.none_later j h (elsewhere u v m j e k t) t; costs = rw e s.1.costs }))
      (λ s. inr (λ j h t. s.0 j (elsewhere u v m j e h t) t, rw e s.1)))

  -- "its cost isn't CLOSED, and no later arc in the list has the same tail and the same head": the road costs what the last one does
  pub road_last : (u v : ℕ) → u ≢ v → road N u v ≡ last_cost N u v (arcs N)
  road_last u v n =
      either (last_e u v (arcs N))
      (λ (i, l).
      let last : LastListed N u v i = record { listed = l.under; goes = l.runs_there; none_later = l.none_later } in
      either (split (eqb (arc_cost N i) closed))
      (λ e. let shut = eqb-true (arc_cost N i) closed e in last_closed N u v i last shut ∙ sym (l.costs ∙ shut))
      (λ e. (last_open N u v i last n (eqb-false (arc_cost N i) closed e)).1 ∙ sym l.costs))
      (λ (none, shut). none_listed N u v none ∙ sym shut)

  -- the same between two positions of an order in which each junction stands once
  pub between_last : Ordered N.order → (a b : ℕ) → a < size N → b < size N → a ≢ b → road_between N a b ≡ last_between N (arcs N) a b
  between_last o a b h k n =
      between_road N a b h k n ∙ road_last (junction N a) (junction N b) (λ e. n (o.once a b h k e))
