-- Another cost of one arc moves no road but the one from its tail to its head. Assumes nothing.
use Prim.Native.Nat.{ℕ, zero, suc, ◌<◌}
use mathlib.Core.Path.{◌≡◌, refl, sym, ap, ◌∙◌}
use mathlib.Core.Logic.{◌≢◌}
use lib.Seq.{get_or-set_other}
use Rattle.rules.specs.Net.{Net, with_cost, size, arcs, tail, head, junction, runs, two_positions, road_between}
use Rattle.theory.proofs.Words.{either, split, same_or_not, true_holds}
use Rattle.theory.specs.Orders.{Ordered}
use Rattle.theory.proofs.LastArc.{last_cost, road_last}
use Rattle.theory.proofs.Roads.{runs_e}
use Rattle.theory.proofs.Joined.{two_e}

module _ (N : Net) (arc cost : ℕ) where
  -- what the last arc between two others costs does not change
  last_same : (u v m : ℕ) → (tail N arc ≡ u → head N arc ≡ v → ⊥) → last_cost (with_cost N arc cost) u v m ≡ last_cost N u v m
  unfolding last_cost
  last_same u v zero n = refl
  last_same u v (suc m) n =
      let below = last_same u v m n in
      either (split (runs N u v m))
      (λ e.
      let (et, eh) = runs_e N u v m (true_holds (runs N u v m) e) in
      let apart : m ≢ arc = λ f. n (ap (tail N) (sym f) ∙ et) (ap (head N) (sym f) ∙ eh) in
      rw e (get_or-set_other N.costs arc m cost 0 apart))
      (λ e. rw e below)

  -- nor does the road between two others
  road_same : Ordered N.order → (a b : ℕ) → (tail N arc ≡ junction N a → head N arc ≡ junction N b → ⊥)
      → road_between (with_cost N arc cost) a b ≡ road_between N a b
  unfolding road_between
  road_same o a b n =
      either (split (two_positions N a b))
      (λ e.
      let (la, lb, d) = two_e N a b (true_holds (two_positions N a b) e) in
      let ne : junction N a ≢ junction N b = λ f. d (o.once a b la lb f) in
      rw e (road_last (with_cost N arc cost) (junction N a) (junction N b) ne ∙ last_same (junction N a) (junction N b) (arcs N) n
      ∙ sym (road_last N (junction N a) (junction N b) ne)))
      (λ e. rw e refl)

  -- a road that changed is one between two positions of the net
  pub moved_two : (a b : ℕ) → road_between N a b ≢ road_between (with_cost N arc cost) a b → (a < size N) × (b < size N) × (a ≢ b)
  unfolding road_between
  moved_two a b n =
      either (split (two_positions N a b))
      (λ e. two_e N a b (true_holds (two_positions N a b) e))
      (λ e. absurd (n (rw e refl)))

  -- from the arc's tail to its head
  pub moved_ends : Ordered N.order → (a b : ℕ) → road_between N a b ≢ road_between (with_cost N arc cost) a b
      → (tail N arc ≡ junction N a) × (head N arc ≡ junction N b)
  moved_ends o a b n =
      either (same_or_not (tail N arc) (junction N a))
      (λ e. either (same_or_not (head N arc) (junction N b)) (λ f. (e, f)) (λ f. absurd (n (sym (road_same o a b (λ x y. f y))))))
      (λ e. absurd (n (sym (road_same o a b (λ x y. e x)))))
