-- The rank list gives back every position: what the test says of the order and of the rank list. Assumes nothing.
use Prim.Native.Nat.{ℕ, ◌≤◌, ◌<◌}
use mathlib.Core.Path.{◌≡◌, refl, sym, ap, ◌∙◌}
use mathlib.Core.Bool.{true, false}
use mathlib.Core.List.{List}
use native.Mathlib.Omega.{arith}
use lib.Dec.{T, eqb}
use lib.ListN.{length, get_or}
use borrow.Author.Tests.{ne_eqb}
use Rattle.rules.specs.Words.{each}
use Rattle.rules.specs.Hierarchy.{inverts}
use Rattle.theory.proofs.Words.{either, split, holds_true, true_holds, and_l, and_r, and_i, eqb_e, eqb_i, ltb_e, ltb_i, each_e, each_i}
use Rattle.theory.specs.Orders.{Ordered}
use Rattle.theory.proofs.Orders.{inverse}
use Rattle.hierarchy.specs.Tests.{seat_agrees, seats_agree}

-- the rank list gives back position p: the junction there is one of the net, and its rank is p
abbrev pub SeatedAt : List ℕ → List ℕ → ℕ → Type 0
SeatedAt order rank p = (get_or order p 0 < length order) × (get_or rank (get_or order p 0) 0 ≡ p)

-- the test says so of every position
pub seats_e : (order rank : List ℕ) → T (seats_agree order rank) → (p : ℕ) → p < length order → SeatedAt order rank p
unfolding seats_agree
seats_e order rank t p l =
    let u : T (seat_agrees order rank p) = each_e (seat_agrees order rank) (length order) p (search and_r) l in
    (search (ltb_e, and_l), search (eqb_e, and_r))

-- and it passes where that is so
pub seats_i : (order rank : List ℕ) → length rank ≡ length order → ((p : ℕ) → p < length order → SeatedAt order rank p) → T (seats_agree order rank)
unfolding seats_agree
seats_i order rank e h =
    and_i (eqb (length rank) (length order)) (each (seat_agrees order rank) (length order)) (eqb_i (length rank) (length order) e)
    (each_i (seat_agrees order rank) (length order) (λ p l. let (a, b) = h p l in search (and_i, ltb_i, eqb_i)))

-- where the rank list gives back every position, the order is one and the rank list inverts it
pub seats_right : (order rank : List ℕ) → T (seats_agree order rank) → Ordered order × T (inverts order rank)
unfolding seats_agree inverts
seats_right order rank t =
    let back : (p : ℕ) → p < length order → get_or rank (get_or order p 0) 0 ≡ p = λ p l. (seats_e order rank t p l).1 in (
      record {
        within = λ p l. (seats_e order rank t p l).0;
        once = λ p q k l e. sym (back p k) ∙ ap (λ j. get_or rank j 0) e ∙ back q l;
      },
      and_i (eqb (length rank) (length order)) (each (λ p. eqb (get_or rank (get_or order p 0) 0) p) (length order)) (search and_l)
          (each_i (λ p. eqb (get_or rank (get_or order p 0) 0) p) (length order) (λ p l. eqb_i (get_or rank (get_or order p 0) 0) p (back p l))),
    )

-- and an order with the rank list that inverts it passes that test
pub right_seats : {order : List ℕ} (rank : List ℕ) → Ordered order → T (inverts order rank) → T (seats_agree order rank)
right_seats {order} rank o t =
    let v = inverse rank o t in
    seats_i order rank v.long (λ p l. (o.within p l, v.back p l))

-- ---- position by position

-- the rank list gives back the positions below p
pub record Seats (order rank : List ℕ) (p : ℕ) : Type 0 where
  pub within : p ≤ length order
  pub long : length rank ≡ length order
  pub back : (q : ℕ) → q < p → SeatedAt order rank q

-- all of them
pub seats_all : {order rank : List ℕ} {p : ℕ} → Seats order rank p → length order ≤ p → true ≡ seats_agree order rank
seats_all {order} {rank} {p} s h =
    sym (holds_true (seats_agree order rank) (seats_i order rank s.long (λ q l. s.back q (omega arith))))

-- a rank list of another length
pub seats_length : (order rank : List ℕ) → (length rank ≡ length order → ⊥) → false ≡ seats_agree order rank
unfolding seats_agree
seats_length order rank n = rw (ne_eqb (length rank) (length order) n) refl

-- a position that is not given back
pub seats_fail : (order rank : List ℕ) (p j : ℕ) → p < length order → j ≡ get_or order p 0 → (j < length order → get_or rank j 0 ≡ p → ⊥) → false ≡ seats_agree order rank
seats_fail order rank p j h e n =
    either (split (seats_agree order rank))
    (λ t.
    let (low, back) = seats_e order rank (true_holds (seats_agree order rank) t) p h in
    absurd (n (omega arith) (ap (λ i. get_or rank i 0) e ∙ back)))
    (λ t. sym t)
