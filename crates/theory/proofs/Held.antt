-- The costs that any up and down lists hold at the edges' places, whatever stands there. Assumes nothing.
use Prim.Native.Nat.{ℕ, zero, suc, ◌≤◌, ◌<◌}
use mathlib.Core.Path.{◌≡◌, refl}
use mathlib.Core.List.{List, [], ◌∷◌}
use native.Mathlib.Omega.{arith}
use lib.Dec.{ltb}
use lib.ListN.{length, get_or}
use borrow.Author.Tests.{lt-ltb, le-ltb}
use Rattle.rules.specs.declared.Direction.{Direction}
use Rattle.rules.specs.declared.Direction.TheVariants.{Up, Down}
use Rattle.rules.specs.Costs.{closed}
use Rattle.rules.specs.Hierarchy.{EdgeCosts, place, held, along}
use Rattle.theory.proofs.Words.{either, split}
use Rattle.theory.specs.Rows.{InRow, Rows}
use Rattle.theory.proofs.Rows.{place_is}
use Rattle.rules.specs.Graph.{Graph}

-- what stands in a list does not depend on what would stand past its end
pub default_same : (l : List ℕ) (k d e : ℕ) → k < length l → get_or l k d ≡ get_or l k e
default_same [] k d e h = absurd (omega arith)
default_same (x ∷ xs) zero d e h = refl
default_same (x ∷ xs) (suc k) d e h = default_same xs k d e (omega arith)

default_small : (l : List ℕ) (k top : ℕ) → get_or l k 0 ≤ top → get_or l k top ≤ top
default_small [] k top h = omega arith
default_small (x ∷ xs) zero top h = h
default_small (x ∷ xs) (suc k) top h = default_small xs k top h

-- the costs that the lists hold are lists' entries or CLOSED, so none is over CLOSED
pub held_small : (G : Graph) (C : EdgeCosts) → ((k : ℕ) → get_or C.up k 0 ≤ closed) → ((k : ℕ) → get_or C.down k 0 ≤ closed)
    → (a b : ℕ) → held G C a b ≤ closed
unfolding held
held_small G C u w a b =
    either (split (ltb a b))
    (λ e. rw e (default_small C.up (place G a b) closed (u (place G a b))))
    (λ e. rw e (default_small C.down (place G b a) closed (w (place G b a))))

pub step_small : (G : Graph) (C : EdgeCosts) → ((k : ℕ) → get_or C.up k 0 ≤ closed) → ((k : ℕ) → get_or C.down k 0 ≤ closed)
    → (d : Direction) (a b : ℕ) → along d (held G C) a b ≤ closed
step_small G C u w Up a b = held_small G C u w a b
step_small G C u w Down a b = held_small G C u w b a

module _ {n : ℕ} {G : Graph} (R : Rows n G) (C : EdgeCosts) (p k : ℕ) (l : p < n) (r : InRow G p k) where
  -- what stands at an edge's place of the up list is held from its lower end to its higher end
  pub held_up : k < length C.up → get_or C.up k 0 ≡ held G C p (get_or G.heads k 0)
  unfolding held
  held_up h =
      let y = get_or G.heads k 0 in
      rw (lt-ltb p y (R.above p k l r), place_is R p k y l r refl) (default_same C.up k 0 closed h)

  -- of the down list, the other way
  pub held_down : k < length C.down → get_or C.down k 0 ≡ held G C (get_or G.heads k 0) p
  unfolding held
  held_down h =
      let y = get_or G.heads k 0 in
      rw (le-ltb y p (omega (arith, R.above p k l r)), place_is R p k y l r refl) (default_same C.down k 0 closed h)
