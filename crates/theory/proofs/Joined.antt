-- The game that joins positions, stage by stage: what `joined` says, without the stages. Assumes nothing.
use Prim.Native.Nat.{ℕ, zero, suc, ◌≤◌, ◌<◌, min}
use mathlib.Core.Path.{◌≡◌, sym, subst}
use mathlib.Core.Logic.{◌⊎◌, inl, inr, ◌≢◌}
use mathlib.Core.Bool.{not, ◌&&◌, ◌||◌}
use native.Mathlib.Omega.{arith}
use lib.Dec.{T, eqb, ltb}
use borrow.Author.Tests.{eqb-true, eqb-false}
use Rattle.rules.specs.Net.{Net, size, arcs, junction, runs, two_positions}
use Rattle.rules.specs.Graph.{arc_joins, joined_after, joined}
use Rattle.theory.proofs.Words.{split, either, and_l, and_r, and_i, or_l, or_r, or_e, same_test, neb_e, neb_i, ltb_e, ltb_i, some_e, some_i}

-- what the turn of z asks of a pair that it joins
record Turn (N : Net) (z a b : ℕ) : Type 0 where
  under_a : z < a
  under_b : z < b
  apart : a ≢ b
  to_a : T (joined_after N z z a)
  to_b : T (joined_after N z z b)

module _ (N : Net) where
  -- two positions are both of the net and differ
  pub two_e : (a b : ℕ) → T (two_positions N a b) → (a < size N) × (b < size N) × (a ≢ b)
  two_e a b t = (ltb_e a (size N) (search (and_l, and_r)), ltb_e b (size N) (search (and_l, and_r)), neb_e (search (and_l, and_r)))

  -- and such two are two positions
  pub two_i : (a b : ℕ) → a < size N → b < size N → a ≢ b → T (two_positions N a b)
  two_i a b h k d = search (and_i, ltb_i, neb_i)

  -- what arcs join has an arc that runs one way or the other
  pub arc_e : (a b : ℕ) → T (arc_joins N a b) → (i : ℕ) × (i < arcs N) × (T (runs N (junction N a) (junction N b) i) ⊎ T (runs N (junction N b) (junction N a) i))
  unfolding arc_joins
  arc_e a b t =
      let (i, h, u) = some_e (λ i. runs N (junction N a) (junction N b) i || runs N (junction N b) (junction N a) i) (arcs N) t in
      (i, h, or_e (runs N (junction N a) (junction N b) i) (runs N (junction N b) (junction N a) i) u)

  -- and such an arc joins
  pub arc_i : (a b i : ℕ) → i < arcs N → T (runs N (junction N a) (junction N b) i) ⊎ T (runs N (junction N b) (junction N a) i) → T (arc_joins N a b)
  unfolding arc_joins
  arc_i a b i h u =
      some_i (λ i. runs N (junction N a) (junction N b) i || runs N (junction N b) (junction N a) i) (arcs N) i h
      (either u
      (or_l (runs N (junction N a) (junction N b) i) (runs N (junction N b) (junction N a) i))
      (or_r (runs N (junction N a) (junction N b) i) (runs N (junction N b) (junction N a) i)))

  -- arcs join either way
  arc_turn : (a b : ℕ) → T (arc_joins N a b) → T (arc_joins N b a)
  arc_turn a b t = let (i, h, u) = arc_e a b t in arc_i b a i h (either u (λ r. inr r) (λ r. inl r))

  -- a turn keeps what was joined
  keeps : (z a b : ℕ) → T (joined_after N z a b) → T (joined_after N (suc z) a b)
  unfolding joined_after
  keeps z a b t = search or_l

  -- a turn joins its pairs
  turn_i : (z a b : ℕ) → Turn N z a b → T (joined_after N (suc z) a b)
  unfolding joined_after
  turn_i z a b t =
      or_r (joined_after N z a b) (ltb z a && ltb z b && not (eqb a b) && joined_after N z z a && joined_after N z z b)
      (search (and_i, ltb_i, neb_i) depth 9)

  -- and no others
  turn_e : (z a b : ℕ) → T (joined_after N (suc z) a b) → T (joined_after N z a b) ⊎ Turn N z a b
  unfolding joined_after
  turn_e z a b t =
      either (or_e (joined_after N z a b) (ltb z a && ltb z b && not (eqb a b) && joined_after N z z a && joined_after N z z b) t)
      (λ s. inl s)
      (λ s. inr (record { under_a = ltb_e z a (search (and_l, and_r)); under_b = ltb_e z b (search (and_l, and_r)); apart = neb_e (search (and_l, and_r)); to_a = search (and_l, and_r); to_b = search (and_l, and_r) }))

  -- what is joined after some turns stays joined
  stays : (m k a b : ℕ) → k ≤ m → T (joined_after N k a b) → T (joined_after N m a b)
  stays zero k a b h t = subst (λ i. T (joined_after N i a b)) (let e : k ≡ 0 = omega arith in e) t
  stays (suc m) k a b h t =
      either (split (eqb k (suc m)))
      (λ e. subst (λ i. T (joined_after N i a b)) (eqb-true k (suc m) e) t)
      (λ e. keeps m a b (stays m k a b (omega (arith, eqb-false k (suc m) e)) t))

  -- the turns after that of the lower end join the pair no more
  was : (m k a b : ℕ) → min a b ≤ k → k ≤ m → T (joined_after N m a b) → T (joined_after N k a b)
  was zero k a b l h t = subst (λ i. T (joined_after N i a b)) (let e : 0 ≡ k = omega arith in e) t
  was (suc m) k a b l h t =
      either (split (eqb k (suc m)))
      (λ e. subst (λ i. T (joined_after N i a b)) (sym (eqb-true k (suc m) e)) t)
      (λ e.
      let g : k ≤ m = omega (arith, eqb-false k (suc m) e) in
      either (turn_e m a b t)
      (λ s. was m k a b l g s)
      (λ u. absurd (omega (arith, u.under_a, u.under_b))))

  -- a pair no longer changes once its lower end has had its turn
  pub joined_settles : (k a b : ℕ) → min a b ≤ k → k ≤ size N → joined_after N k a b ≡ joined N a b
  unfolding joined
  joined_settles k a b l h = same_test (joined_after N k a b) (joined_after N (size N) a b) (stays (size N) k a b h) (was (size N) k a b l h)

  -- what has been joined is joined in the end
  ends : (k a b : ℕ) → k ≤ size N → T (joined_after N k a b) → T (joined N a b)
  unfolding joined
  ends k a b h t = stays (size N) k a b h t

  -- what holds of pairs with an arc, and of two once it holds of both with a lower third, holds of all that are joined
  pub joined_induction : (P : ℕ → ℕ → Type 0) → ((a b : ℕ) → T (two_positions N a b) → T (arc_joins N a b) → P a b) → ((z a b : ℕ) → z < a → z < b → a ≢ b → T (joined N z a) → T (joined N z b) → P z a → P z b → P a b) → (a b : ℕ) → T (joined N a b) → P a b
  unfolding joined
  joined_induction P base step a b t = up (size N) a b (omega arith) t
    where
      up : (k a b : ℕ) → k ≤ size N → T (joined_after N k a b) → P a b
      up zero a b h t = base a b (and_l (two_positions N a b) (arc_joins N a b) t) (and_r (two_positions N a b) (arc_joins N a b) t)
      up (suc k) a b h t =
          let g : k ≤ size N = omega arith in
          either (turn_e k a b t)
          (λ s. up k a b g s)
          (λ u.
          step k a b u.under_a u.under_b u.apart (ends k k a g u.to_a) (ends k k b g u.to_b) (up k k a g u.to_a)
          (up k k b g u.to_b))

  -- joined positions are two positions of the net
  pub joined_two : (a b : ℕ) → T (joined N a b) → (a < size N) × (b < size N) × (a ≢ b)
  joined_two =
      joined_induction (λ a b. (a < size N) × (b < size N) × (a ≢ b)) (λ a b t u. two_e a b t)
      (λ z a b h k d s t p q. (p.1, q.1, d))

  -- positions with an arc between them are joined
  pub joined_arc : (a b : ℕ) → T (two_positions N a b) → T (arc_joins N a b) → T (joined N a b)
  unfolding joined_after
  joined_arc a b t u = ends 0 a b (omega arith) (and_i (two_positions N a b) (arc_joins N a b) t u)

  -- the higher neighbours of a position are joined to one another
  pub joined_third : (z a b : ℕ) → z < a → z < b → a ≢ b → T (joined N z a) → T (joined N z b) → T (joined N a b)
  joined_third z a b h k d s t =
      let (l, m, e) = joined_two z a s in
      ends (suc z) a b l
      (turn_i z a b
      (record { under_a = h; under_b = k; apart = d; to_a = subst T (sym (joined_settles z z a (omega arith) (omega arith))) s; to_b = subst T (sym (joined_settles z z b (omega arith) (omega arith))) t }))

  -- joined either way
  pub joined_turn : (a b : ℕ) → T (joined N a b) → T (joined N b a)
  joined_turn =
      joined_induction (λ a b. T (joined N b a))
      (λ a b t u. let (h, k, d) = two_e a b t in joined_arc b a (two_i b a k h (λ e. d (sym e))) (arc_turn a b u))
      (λ z a b h k d s t p q. joined_third z b a k h (λ e. d (sym e)) t s)

  -- joined by an arc or by a lower third
  pub joined_made : (a b : ℕ) → T (joined N a b) → T (arc_joins N a b) ⊎ ((z : ℕ) × (z < a) × (z < b) × T (joined N z a) × T (joined N z b))
  joined_made =
      joined_induction
      (λ a b. T (arc_joins N a b) ⊎ ((z : ℕ) × (z < a) × (z < b) × T (joined N z a) × T (joined N z b)))
      (λ a b t u. inl u) (λ z a b h k d s t p q. inr (z, h, k, s, t))
