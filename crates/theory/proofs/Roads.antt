-- What the rest leans on of "in force": a finite road is an arc in force of that cost, and an arc in force costs no less than its road.
-- A request that changes what "in force" means proves these two again, and nothing above moves. Assumes nothing.
use Prim.Native.Nat.{ℕ, ◌≤◌, ◌<◌}
use mathlib.Core.Path.{◌≡◌, refl, sym, ◌∙◌, subst}
use mathlib.Core.Logic.{◌≢◌}
use mathlib.Core.Bool.{Bool, not, ◌&&◌}
use native.Mathlib.Omega.{arith}
use lib.Dec.{T, eqb, ltb}
use borrow.Author.Tests.{ltb-true, lt-ltb}
use Rattle.rules.specs.Words.{lowest}
use Rattle.rules.specs.Costs.{closed}
use Rattle.rules.specs.Net.{Net, arcs, tail, head, arc_cost, junction, runs, replaced, in_force, road_arc, road, two_positions, arc_between, road_between}
use Rattle.theory.proofs.Words.{lowest_passes, lowest_is, some_i, some_e, and_i, and_l, and_r, not_i, not_e, neb_e, neb_i, eqb_e, eqb_i, ltb_e, ltb_i, either, split, cond_true}

-- arc i is in force and runs from u to v
pub record OpenArc (N : Net) (u v i : ℕ) : Type 0 where
  pub listed : i < arcs N
  pub in_force_lem : T (in_force N i)
  pub tail_is : tail N i ≡ u
  pub head_is : head N i ≡ v

module _ (N : Net) where
  -- an arc runs from its tail to its head, and to no other
  pub runs_i : (u v i : ℕ) → tail N i ≡ u → head N i ≡ v → T (runs N u v i)
  runs_i u v i e d = and_i (eqb (tail N i) u) (eqb (head N i) v) (eqb_i (tail N i) u e) (eqb_i (head N i) v d)

  pub runs_e : (u v i : ℕ) → T (runs N u v i) → (tail N i ≡ u) × (head N i ≡ v)
  runs_e u v i t =
      (eqb_e (tail N i) u (and_l (eqb (tail N i) u) (eqb (head N i) v) t), eqb_e (head N i) v (and_r (eqb (tail N i) u) (eqb (head N i) v) t))

  -- an arc in force has two different ends, and is not CLOSED
  pub force_apart : (i : ℕ) → T (in_force N i) → tail N i ≢ head N i
  unfolding in_force
  force_apart i t =
      let a = not (eqb (tail N i) (head N i)) in
      let b = not (eqb (arc_cost N i) closed) in
      neb_e (and_l a b (and_l (a && b) (not (replaced N i)) t))

  pub force_open : (i : ℕ) → T (in_force N i) → arc_cost N i ≢ closed
  unfolding in_force
  force_open i t =
      let a = not (eqb (tail N i) (head N i)) in
      let b = not (eqb (arc_cost N i) closed) in
      neb_e (and_r a b (and_l (a && b) (not (replaced N i)) t))

  -- no later arc runs between the same ends
  pub force_last : (u v i j : ℕ) → T (in_force N i) → T (runs N u v i) → i < j → j < arcs N → T (runs N u v j) → ⊥
  unfolding in_force replaced
  force_last u v i j f t h l s =
      let (e, d) = runs_e u v i t in
      let (g, k) = runs_e u v j s in
      not_e (replaced N i) (and_r (not (eqb (tail N i) (head N i)) && not (eqb (arc_cost N i) closed)) (not (replaced N i)) f)
      (some_i (λ j. ltb i j && runs N (tail N i) (head N i) j) (arcs N) j l
      (and_i (ltb i j) (runs N (tail N i) (head N i) j) (ltb_i i j h) (runs_i (tail N i) (head N i) j (g ∙ sym e) (k ∙ sym d))))

  -- and such an arc is in force
  pub force_i : (u v i : ℕ) → u ≢ v → T (runs N u v i) → arc_cost N i ≢ closed → ((j : ℕ) → i < j → j < arcs N → T (runs N u v j) → ⊥)
      → T (in_force N i)
  unfolding in_force replaced
  force_i u v i n t c none_later =
      let (e, d) = runs_e u v i t in
      let a = not (eqb (tail N i) (head N i)) in
      let b = not (eqb (arc_cost N i) closed) in
      and_i (a && b) (not (replaced N i))
      (and_i a b (neb_i (λ (x : tail N i ≡ head N i). n (sym e ∙ x ∙ d))) (neb_i c))
      (not_i (replaced N i)
      (λ r.
      let (j, l, w) = some_e (λ j. ltb i j && runs N (tail N i) (head N i) j) (arcs N) r in
      let (g, k) = runs_e (tail N i) (head N i) j (and_r (ltb i j) (runs N (tail N i) (head N i) j) w) in
      none_later j (ltb_e i j (and_l (ltb i j) (runs N (tail N i) (head N i) j) w)) l (runs_i u v j (g ∙ e) (k ∙ d))))

  -- what the search for the arc in force looks for
  abbrev wanted : (u v i : ℕ) → Bool
  wanted u v i = in_force N i && runs N u v i

  wanted_e : (u v i : ℕ) → i < arcs N → T (wanted u v i) → OpenArc N u v i
  wanted_e u v i l t =
      let (e, d) = runs_e u v i (and_r (in_force N i) (runs N u v i) t) in
      record { listed = l; in_force_lem = and_l (in_force N i) (runs N u v i) t; tail_is = e; head_is = d }

  -- a road that is not CLOSED is an arc in force of that cost
  pub road_arc_lem : (u v : ℕ) → road N u v ≢ closed → OpenArc N u v (road_arc N u v) × (road N u v ≡ arc_cost N (road_arc N u v))
  unfolding road road_arc
  road_arc_lem u v n =
      let i = lowest (wanted u v) 0 (arcs N) in
      either (split (ltb i (arcs N)))
      (λ e.
      let l : i < arcs N = ltb-true i (arcs N) e in
      (wanted_e u v i l (lowest_passes (wanted u v) 0 (arcs N) (omega arith)), rw e refl))
      (λ e. absurd (n (rw e refl)))

  -- an arc in force is the road's
  pub arc_is : (u v i : ℕ) → OpenArc N u v i → (road_arc N u v ≡ i) × (road N u v ≡ arc_cost N i)
  unfolding road road_arc
  arc_is u v i o =
      let t = runs_i u v i o.tail_is o.head_is in
      let is : lowest (wanted u v) 0 (arcs N) ≡ i =
      lowest_is (wanted u v) 0 (arcs N) i (omega arith) (omega (arith, o.listed)) (and_i (in_force N i) (runs N u v i) o.in_force_lem t)
      (λ q a b w. force_last u v q i (and_l (in_force N q) (runs N u v q) w) (and_r (in_force N q) (runs N u v q) w) b o.listed t) in
      (is, rw (is, lt-ltb i (arcs N) o.listed) refl)

  -- so it costs no less than its road
  pub arc_road : (u v i : ℕ) → OpenArc N u v i → road N u v ≤ arc_cost N i
  arc_road u v i o = omega (arith, (arc_is u v i o).1)

  -- the same between positions
  pub between_arc : (a b : ℕ) → road_between N a b ≢ closed
      → T (two_positions N a b) × OpenArc N (junction N a) (junction N b) (arc_between N a b) × (road_between N a b ≡ arc_cost N (arc_between N a b))
  unfolding road_between
  between_arc a b n =
      let two = two_positions N a b in
      let r = road N (junction N a) (junction N b) in
      either (split two)
      (λ e.
      let t : T two = subst T (sym e) tt in
      let c : road_between N a b ≡ r = cond_true two r closed t in
      let w = road_arc_lem (junction N a) (junction N b) (λ x. n (c ∙ x)) in
      (t, w.0, c ∙ w.1))
      (λ e. absurd (n (rw e refl)))

  pub arc_between_lem : (a b i : ℕ) → T (two_positions N a b) → OpenArc N (junction N a) (junction N b) i → road_between N a b ≤ arc_cost N i
  unfolding road_between
  arc_between_lem a b i t o =
      let r = road N (junction N a) (junction N b) in
      let c : road_between N a b ≡ r = cond_true (two_positions N a b) r closed t in
      omega (arith, arc_road (junction N a) (junction N b) i o)
