-- Costs at an edge's place, both ways. Assumes nothing.
use Prim.Native.Nat.{ℕ}
use mathlib.Core.Path.{◌≡◌, ◌∙◌}
use lib.ListN.{get_or}
use Rattle.rules.specs.declared.Direction.{Direction}
use Rattle.rules.specs.declared.Direction.TheVariants.{Up, Down}
use Rattle.rules.specs.Graph.{Graph}
use Rattle.rules.specs.Hierarchy.{EdgeCosts, along}
use Rattle.turns.specs.Edges.{At}

-- other costs stand there, if they are the same from the lower end to the higher and back
pub at_as : {G : Graph} {C : EdgeCosts} {f g : ℕ → ℕ → ℕ} {p k : ℕ} → At G C f p k → f p (get_or G.heads k 0) ≡ g p (get_or G.heads k 0)
    → f (get_or G.heads k 0) p ≡ g (get_or G.heads k 0) p → At G C g p k
at_as {G} {f = f} {g} {p} {k} A u w = record { stands = λ d. A.stands d ∙ by d }
  where
    by : (d : Direction) → along d f p (get_or G.heads k 0) ≡ along d g p (get_or G.heads k 0)
    by Up = u
    by Down = w
