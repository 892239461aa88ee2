-- The lower triangles that a turn counts, by the rows that have x, are those of the definition, by the edges of the row of x. Assumes nothing.
use Prim.Native.Nat.{ℕ, zero, suc, ◌+◌, ◌-◌, ◌≤◌, ◌<◌, min}
use mathlib.Core.Path.{◌≡◌, refl, sym, ap, ◌∙◌}
use mathlib.Core.Bool.{Bool, cond, ◌&&◌}
use mathlib.Core.List.{List}
use native.Mathlib.Omega.{arith}
use lib.Dec.{T, ltb}
use Rattle.rules.specs.Words.{total, how_many}
use Rattle.rules.specs.Graph.{Graph}
use Rattle.rules.specs.Hierarchy.{linked}
use Rattle.rules.specs.Changed.{corner, triangles_of, triangles_from}
use Rattle.theory.specs.Rows.{Rows}
use Rattle.theory.proofs.Words.{either, split, same_test, true_holds, holds_true, true_false, and_i, and_l, and_r, ltb_e, cond_true, cond_false}
use Rattle.theory.proofs.Totals.{Same, total_same, total_none, total_swap}
use Rattle.theory.proofs.Rows.{linked_two, linked_third}
use Rattle.reconsider.specs.Marks.{says}
use Rattle.look.specs.Looking.{over_corner}

-- ---- sums

-- numbers from n on that count for nothing
total_long : (f : ℕ → ℕ) (n d : ℕ) → ((i : ℕ) → n ≤ i → i < n + d → f i ≡ 0) → total f (n + d) ≡ total f n
unfolding total
total_long f n zero h = ap (total f) (let e : n + 0 ≡ n = omega arith in e)
total_long f n (suc d) h =
    let e : n + suc d ≡ suc (n + d) = omega arith in
    ap (total f) e ∙ omega (arith, total_long f n d (λ i a b. h i a (omega arith)), h (n + d) (omega arith) (omega arith))

pub total_to : (f : ℕ → ℕ) (n m : ℕ) → n ≤ m → ((i : ℕ) → n ≤ i → i < m → f i ≡ 0) → total f m ≡ total f n
total_to f n m l h =
    let e : m ≡ n + (m - n) = omega arith in
    ap (total f) e ∙ total_long f n (m - n) (λ i a b. h i a (omega arith))

-- ---- the lower triangles of a row

-- only which of its edges pass matters
pub from_same : (joined p q : ℕ → ℕ → Bool) (n x : ℕ) → ((y : ℕ) → x < y → T (joined x y) → Same (p x y) (q x y))
    → triangles_from joined p n x ≡ triangles_from joined q n x
unfolding triangles_from
from_same joined p q n x h =
    let at : (r : ℕ → ℕ → Bool) (y : ℕ) → ℕ = λ r y. cond (ltb x y && joined x y && r x y) (triangles_of joined x y) 0 in
    let on : (r s : ℕ → ℕ → Bool) (y : ℕ) → (x < y → T (joined x y) → T (r x y) → T (s x y)) → T (ltb x y && joined x y && r x y)
    → T (ltb x y && joined x y && s x y) =
    λ r s y g t.
    let u : T (ltb x y && joined x y) = and_l (ltb x y && joined x y) (r x y) t in
    and_i (ltb x y && joined x y) (s x y) u
    (g (ltb_e x y (and_l (ltb x y) (joined x y) u)) (and_r (ltb x y) (joined x y) u) (and_r (ltb x y && joined x y) (r x y) t)) in
    total_same (at p) (at q) n
    (λ y l. ap (λ t. cond t (triangles_of joined x y) 0)
    (same_test (ltb x y && joined x y && p x y) (ltb x y && joined x y && q x y)
    (on p q y (λ a b. (h y a b).0)) (on q p y (λ a b. (h y a b).1))))

-- a row of which no edge passes counts for nothing
pub from_none : (joined p : ℕ → ℕ → Bool) (n x : ℕ) → ((y : ℕ) → x < y → T (joined x y) → T (p x y) → ⊥) → triangles_from joined p n x ≡ 0
unfolding triangles_from
from_none joined p n x h =
    total_none (λ y. cond (ltb x y && joined x y && p x y) (triangles_of joined x y) 0) n
    (λ y l. cond_false (ltb x y && joined x y && p x y) (triangles_of joined x y) 0
    (λ t.
    let u : T (ltb x y && joined x y) = and_l (ltb x y && joined x y) (p x y) t in
    h y (ltb_e x y (and_l (ltb x y) (joined x y) u)) (and_r (ltb x y) (joined x y) u) (and_r (ltb x y && joined x y) (p x y) t)))

module _ {n : ℕ} {G : Graph} (R : Rows n G) (x : ℕ) (marks : List Bool) where
  abbrev J : ℕ → ℕ → Bool
  J = linked G

  -- z, x and y make a triangle that is counted
  abbrev counts : ℕ → ℕ → Bool
  counts z y = corner J x y z && (ltb x y && says marks y)

  -- for y: all z below x
  column : (y : ℕ) → total (λ z. cond (counts z y) 1 0) x ≡ cond (ltb x y && J x y && says marks y) (triangles_of J x y) 0
  unfolding triangles_of how_many
  column y =
      let passes = ltb x y && J x y && says marks y in
      either (split passes)
      (λ e.
      let t = true_holds passes e in
      let u : T (ltb x y && J x y) = and_l (ltb x y && J x y) (says marks y) t in
      let l : T (ltb x y) = and_l (ltb x y) (J x y) u in
      let low : min x y ≡ x = omega (arith, ltb_e x y l) in
      total_same (λ z. cond (counts z y) 1 0) (λ z. cond (corner J x y z) 1 0) x
      (λ z h. ap (λ b. cond b 1 0)
      (same_test (counts z y) (corner J x y z)
      (λ v. and_l (corner J x y z) (ltb x y && says marks y) v)
      (λ v. and_i (corner J x y z) (ltb x y && says marks y) v (and_i (ltb x y) (says marks y) l (and_r (ltb x y && J x y) (says marks y) t)))))
      ∙ ap (total (λ z. cond (corner J x y z) 1 0)) (sym low)
      ∙ sym (cond_true passes (total (λ z. cond (corner J x y z) 1 0) (min x y)) 0 t))
      (λ e.
      total_none (λ z. cond (counts z y) 1 0) x
      (λ z h. cond_false (counts z y) 1 0
      (λ v.
      let u : T (corner J x y z) = and_l (corner J x y z) (ltb x y && says marks y) v in
      let w : T (ltb x y && says marks y) = and_r (corner J x y z) (ltb x y && says marks y) v in
      let l = and_l (ltb x y) (says marks y) w in
      let xy = ltb_e x y l in
      let j : T (J x y) = linked_third R z x y h (omega arith) (λ f. omega arith) (and_l (J z x) (J z y) u) (and_r (J z x) (J z y) u) in
      true_false (sym (holds_true passes
      (and_i (ltb x y && J x y) (says marks y) (and_i (ltb x y) (J x y) l j) (and_r (ltb x y) (says marks y) w))) ∙ e)))
      ∙ sym (rw e refl))

  -- all that a turn counts are those of the marked edges of the row of x
  pub turn_count : n ≤ 4096 → total (over_corner J marks x) x ≡ triangles_from J (λ a b. says marks b) n x
  unfolding over_corner how_many triangles_from
  turn_count h =
      let f : ℕ → ℕ = λ y. cond (ltb x y && J x y && says marks y) (triangles_of J x y) 0 in
      let none : (y : ℕ) → n ≤ y → f y ≡ 0 =
      λ y l. cond_false (ltb x y && J x y && says marks y) (triangles_of J x y) 0
      (λ t. let j = and_r (ltb x y) (J x y) (and_l (ltb x y && J x y) (says marks y) t) in omega (arith, (linked_two R x y j).1)) in
      total_swap (λ z y. cond (counts z y) 1 0) x 4096
      ∙ total_same (λ y. total (λ z. cond (counts z y) 1 0) x) f 4096 (λ y l. column y)
      ∙ total_to f n 4096 h (λ y l m. none y l)
