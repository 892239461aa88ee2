-- Lists that are as before past the edges. Assumes nothing.
use mathlib.Core.Path.{refl, ◌∙◌}
use Rattle.rules.specs.Graph.{Graph}
use Rattle.rules.specs.Hierarchy.{EdgeCosts}
use Rattle.theory.specs.Rows.{Lists}
use Rattle.theory.proofs.Rows.{lists_same}
use Rattle.turns.specs.Edges.{Kept}

-- none has changed
pub kept_none : (G : Graph) (C : EdgeCosts) → Kept G C C
kept_none G C = record { up_long = refl; down_long = refl; rest = λ d k h. refl }

-- one change after another
pub kept_on : {G : Graph} {C C' C'' : EdgeCosts} → Kept G C C' → Kept G C' C'' → Kept G C C''
kept_on a b =
    record { up_long = b.up_long ∙ a.up_long; down_long = b.down_long ∙ a.down_long; rest = λ d k h. b.rest d k h ∙ a.rest d k h }

-- they have a place for each edge as before
pub lists_kept : {G : Graph} {C C' : EdgeCosts} → Lists G C → Kept G C C' → Lists G C'
lists_kept L K = lists_same L K.up_long K.down_long
