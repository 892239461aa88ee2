-- Parents: a place's lowest higher neighbour. That each other higher neighbour is the parent's too says as much as that any two higher
-- neighbours are joined, and it puts all that a place reaches upward on one chain of parents. Assumes nothing.
use Prim.Native.Nat.{ℕ, zero, suc, ◌+◌, ◌≤◌, ◌<◌}
use native.Mathlib.Omega.{arith}
use native.Mathlib.Decide.{ℕ_discrete}
use mathlib.Core.Path.{◌≡◌}
use mathlib.Core.Logic.{by_cases}
use Rattle.theory.proofs.Ways.{Third, Labels, by_labels}
use Rattle.theory.specs.Parents.{Chain, Parent, Tree, higher, here}

-- pairs in which any two higher neighbours are joined meet the parent rule
pub third_tree : {joined : ℕ → ℕ → Type 0} → Third joined → Tree joined
third_tree T p c q P l ne j = T p c q P.above l (omega arith) P.edge j

-- a chain after a chain
onward : {joined : ℕ → ℕ → Type 0} {p q z : ℕ} → Chain joined q z → Chain joined p q → Chain joined p z
onward here d = d
onward (higher P c) d = higher P (onward c d)

module _ {joined : ℕ → ℕ → Type 0} (decide : (a b : ℕ) → Dec (joined a b)) where
  -- a place with a higher neighbour has a parent
  pub parent : (z a : ℕ) → z < a → joined z a → (c : ℕ) × Parent joined z c
  parent z a l j = seek a (suc z) (omega arith) (omega arith) (λ q h k. h)
    where
      seek : (k lo : ℕ) → z < lo → a ≤ lo + k → ((q : ℕ) → z < q → joined z q → lo ≤ q) → (c : ℕ) × Parent joined z c
      seek zero lo h b least =
          let e = least a l j in
          let s : lo ≡ a = omega arith in
          (lo, record { above = h; edge = rw s j; lowest = least })
      seek (suc k) lo h b least =
          by_cases (decide z lo)
          (λ e. (lo, record { above = h; edge = e; lowest = least }))
          (λ none. seek k (suc lo) (omega arith) (omega arith) (λ q g i.
          by_cases (ℕ_discrete lo q) (λ s. absurd (none (rw s i))) (λ ne. let m = least q g i in omega arith)))

  module _ (T : Tree joined) where
    -- a higher neighbour is on the chain of parents
    pub chain : {p z : ℕ} → z < p → joined z p → Chain joined p z
    chain {p} {z} = climb p p z (omega arith)
      where
        climb : (k p z : ℕ) → p ≤ z + k → z < p → joined z p → Chain joined p z
        climb zero p z m l j = absurd (omega arith)
        climb (suc k) p z m l j =
            let (c, P) = parent z p l j in
            by_cases (ℕ_discrete p c)
            (λ e. rw e (higher P here))
            (λ ne. let up = P.above in
            let under = P.lowest p l j in
            higher P (climb k p c (omega arith) (omega arith) (T z c p P l ne j)))

    -- only the places on the chain of parents of s have a label
    pub labelled : {Ω N s : ℕ} {step : ℕ → ℕ → ℕ} {label : ℕ → ℕ}
        → Labels Ω N joined step s label → (p : ℕ) → label p < N → Chain joined p s
    labelled {s = s} L = by_labels L (λ p l. Chain joined p s) here (λ q p l h j f c. onward c (chain h j))
