-- Costs held at the edges' places: what customising writes is read back, and a list with each cost at its place is the list of the
-- definition. Assumes nothing.
use Prim.Native.Nat.{ℕ, ◌≤◌, ◌<◌}
use mathlib.Core.Path.{◌≡◌, refl, ap, ◌∙◌}
use mathlib.Core.List.{List}
use native.Mathlib.Omega.{arith}
use lib.Dec.{T, ltb}
use lib.ListN.{length, get_or}
use borrow.Author.Tests.{ltb-true, ltb-false, lt-ltb, le-ltb}
use Rattle.rules.specs.declared.Direction.{Direction}
use Rattle.rules.specs.declared.Direction.TheVariants.{Up, Down}
use Rattle.rules.specs.Words.{tabulate}
use Rattle.rules.specs.Costs.{closed}
use Rattle.rules.specs.Hierarchy.{EdgeCosts, linked, row_of, held, along}
use Rattle.rules.specs.Customised.{cost_at, cost_list, cost_lists}
use Rattle.theory.proofs.Words.{split, either, is_tabulate, length_tabulate, tabulate_at}
use Rattle.theory.specs.Rows.{InRow, Rows}
use Rattle.theory.proofs.Rows.{in_heads, linked_e, linked_two, linked_turn, place_is, row_is, in_row}
use Rattle.rules.specs.Graph.{Graph}

-- a list of the definition is as long as its room, and past E it has what `past` says
pub length_list : (n : ℕ) (G : Graph) (f : ℕ → ℕ → ℕ) (d : Direction) (past : ℕ → ℕ) (room : ℕ) → length (cost_list n G f d past room) ≡ room
unfolding cost_list
length_list n G f d past room = length_tabulate (cost_at n G f d past) 0 room

pub list_past : (n : ℕ) (G : Graph) (f : ℕ → ℕ → ℕ) (d : Direction) (past : ℕ → ℕ) (room k : ℕ) → get_or G.first n 0 ≤ k → k < length (cost_list n G f d past room)
    → get_or (cost_list n G f d past room) k 0 ≡ past k
unfolding cost_list
list_past n G f d past room k h l =
    tabulate_at (cost_at n G f d past) room k 0 (omega (arith, length_list n G f d past room))
    ∙ rw (le-ltb k (get_or G.first n 0) (omega arith)) refl

module _ {n : ℕ} {G : Graph} (R : Rows n G) (f : ℕ → ℕ → ℕ) where
  -- the list of the definition has each cost at its edge's place
  pub list_at : (d : Direction) (past : ℕ → ℕ) (room p k : ℕ) → get_or G.first n 0 ≤ room → p < n → InRow G p k
      → get_or (cost_list n G f d past room) k closed ≡ along d f p (get_or G.heads k 0)
  unfolding cost_list
  list_at d past room p k b l r =
      let h : k < get_or G.first n 0 = (in_heads R p k l r).0 in
      tabulate_at (cost_at n G f d past) room k closed (omega arith)
      ∙ rw (lt-ltb k (get_or G.first n 0) h, row_is R p k l r) refl

  -- what customising writes is read back
  pub held_list : (a b : ℕ) (room : EdgeCosts) → get_or G.first n 0 ≤ length room.up → get_or G.first n 0 ≤ length room.down
      → T (linked G a b) → held G (cost_lists n G f room) a b ≡ f a b
  unfolding held
  held_list a b room u v t =
      let (la, lb, d) = linked_two R a b t in
      either (split (ltb a b))
      (λ e.
      let (k, r, h) = linked_e R a b t (ltb-true a b e) in
      rw (e, place_is R a k b la r h) (list_at Up (λ i. closed) (length room.up) a k u la r ∙ ap (f a) h))
      (λ e.
      let (k, r, h) = linked_e R b a (linked_turn G a b t) (omega (arith, ltb-false a b e)) in
      rw (e, place_is R b k a lb r h) (list_at Down (λ i. closed) (length room.down) b k v lb r ∙ ap (λ y. f y b) h))

  -- a list with each cost at its edge's place, and past E what `past` says, is the list of the definition
  pub list_of : (d : Direction) (past : ℕ → ℕ) (room : ℕ) (l : List ℕ) → length l ≡ room
      → ((p k : ℕ) → p < n → InRow G p k → get_or l k 0 ≡ along d f p (get_or G.heads k 0))
      → ((k : ℕ) → get_or G.first n 0 ≤ k → k < room → get_or l k 0 ≡ past k)
      → l ≡ cost_list n G f d past room
  unfolding cost_list
  list_of d past room l e there rest =
      is_tabulate (cost_at n G f d past) l placed ∙ ap (λ m. tabulate (cost_at n G f d past) 0 m) e
    where
      placed : (k : ℕ) → k < length l → get_or l k 0 ≡ cost_at n G f d past k
      placed k h =
          either (split (ltb k (get_or G.first n 0)))
          (λ s. let (b, r) = in_row R k (ltb-true k (get_or G.first n 0) s) in rw s (there (row_of n G k) k b r))
          (λ s. rw s (rest k (ltb-false k (get_or G.first n 0) s) (omega arith)))
