-- Arcs that lack their edge: what the search of a row tells of one. Assumes nothing.
use Prim.Native.Nat.{ℕ, ◌≤◌, ◌<◌, min, max}
use mathlib.Core.Path.{◌≡◌, refl, sym, ◌∙◌}
use native.Mathlib.Omega.{arith}
use lib.ListN.{length, get_or}
use Rattle.std.specs.Prelude.{Option, Some, None, is_some}
use Rattle.rules.specs.Graph.{Graph}
use Rattle.rules.specs.Hierarchy.{linked}
use mathlib.Core.List.{List}
use Rattle.theory.specs.Rows.{Rows}
use Rattle.checks.specs.Edges.{Seated}
use Rattle.theory.proofs.Words.{either, split, holds_true, true_holds}
use Rattle.theory.proofs.Rows.{linked_i, linked_two}
use Rattle.lists.specs.Lent.{edge_found}
use Rattle.lists.proofs.Found.{edge_at, edge_nowhere}

-- the search of a row finds an edge exactly if it is there
edge_there : {n : ℕ} {G : Graph} → Rows n G → (x y : ℕ) → x < n → x ≤ y → (f : Option ℕ) → f ≡ edge_found G x y → is_some f ≡ linked G x y
edge_there {G} R x y l m (Some k) e = let (r, d) = edge_at R x y k l (sym e) in sym (holds_true (linked G x y) (linked_i R x k y l r d))
edge_there {G} R x y l m None e =
    either (split (linked G x y))
    (λ t.
    let u = true_holds (linked G x y) t in
    let (a, b, d) = linked_two R x y u in
    absurd (edge_nowhere R x y (omega arith) (sym e) u))
    (λ t. sym t)

-- of two positions, the lower first
linked_ends : (G : Graph) (p q : ℕ) → linked G (min p q) (max p q) ≡ linked G p q
unfolding linked
linked_ends G p q =
    let a : min (min p q) (max p q) ≡ min p q = omega arith in
    let b : max (min p q) (max p q) ≡ max p q = omega arith in
    rw (a, b) refl

-- so does that of the lower one's row for the higher, of the positions at which two junctions stand
pub search_finds : {rank : List ℕ} {G : Graph} → Seated rank G → (t h x y : ℕ) → t < length rank → h < length rank
    → x ≡ min (get_or rank t 0) (get_or rank h 0) → y ≡ max (get_or rank t 0) (get_or rank h 0)
    → (f : Option ℕ) → f ≡ edge_found G x y → is_some f ≡ linked G (get_or rank t 0) (get_or rank h 0)
search_finds {rank} {G} S t h x y l m low high f e =
    edge_there S.rows x y (omega (arith, S.positions t l)) (omega arith) f e ∙ rw (low, high) (linked_ends G (get_or rank t 0) (get_or rank h 0))
