-- "Only the chain of parents above each end need be looked at": whatever the costs, a position has a label only if it is on the chain of
-- parents of the start. Assumes nothing.
use Prim.Native.Nat.{ℕ, ◌≤◌, ◌<◌}
use mathlib.Core.Logic.{inl, inr}
use mathlib.Core.Bool.{Bool, true, false}
use native.Mathlib.Omega.{arith}
use lib.Dec.{T}
use Rattle.rules.specs.Costs.{closed, none}
use Rattle.rules.specs.Hierarchy.{linked}
use Rattle.rules.specs.Distance.{label}
use Rattle.theory.proofs.Words.{either}
use Rattle.theory.proofs.Distance.{label_start, label_step, label_made}
use Rattle.theory.proofs.Ways.{Labels}
use Rattle.theory.specs.Parents.{Chain}
use Rattle.theory.proofs.Tree.{third_tree, labelled}
use Rattle.theory.specs.Rows.{Rows}
use Rattle.theory.proofs.Rows.{linked_third}
use Rattle.rules.specs.Graph.{Graph}

-- labels over any costs of which none is over CLOSED are labels in the sense of the theory of ways
pub labels : (joined : ℕ → ℕ → Bool) (step : ℕ → ℕ → ℕ) → ((a b : ℕ) → step a b ≤ closed) → (s : ℕ)
    → Labels closed none (λ a b. T (joined a b)) step s (label joined step s)
labels joined step small s =
    record {
      start = label_start joined step s;
      least = λ {q} {p} h j o. label_step joined step s q p (record { rises = h; edge = j; open_road = λ e. omega arith });
      made = λ {p} h.
          either (label_made joined step s p h) (λ w. inl w.0)
          (λ w.
          let k = w.1.1 in
          inr (record {
            from = w.1.0;
            under = k.rises;
            edge = k.edge;
            finite = omega (arith, small w.1.0 p, k.open_road);
            sum = w.1.2;
          }));
    }

-- a test decides
decided : (b : Bool) → Dec (T b)
decided true = yes tt
decided false = no (λ t. t)

-- a position with a label is reached from the start by going from parent to parent
pub chain_only : {n : ℕ} {G : Graph} → Rows n G → (step : ℕ → ℕ → ℕ) → ((a b : ℕ) → step a b ≤ closed) → (s p : ℕ)
    → label (linked G) step s p < none → Chain (λ a b. T (linked G a b)) p s
chain_only {G = G} R step small s p h =
    labelled (λ a b. decided (linked G a b)) (third_tree (linked_third R)) (labels (linked G) step small s) p h
