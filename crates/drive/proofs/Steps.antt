-- The way from its first place to its last: its steps are the pieces of the route, and each goes along an edge. Assumes nothing.
use Prim.Native.Nat.{ℕ, zero, suc, ◌+◌, ◌-◌, ◌≤◌, ◌<◌}
use mathlib.Core.Path.{◌≡◌, refl, sym, ap, ◌∙◌}
use mathlib.Core.List.{List, [], ◌∷◌, ◌++◌, reverse, append_assoc, append-nil, reverse-append}
use native.Mathlib.Omega.{arith}
use lib.Dec.{ltb}
use lib.ListN.{get_or}
use borrow.Author.Tests.{ltb-true, ltb-false}
use Rattle.rules.specs.Costs.{none}
use Rattle.rules.specs.Distance.{label, meeting}
use Rattle.rules.specs.Graph.{Graph}
use Rattle.rules.specs.Hierarchy.{EdgeCosts, linked, held, along}
use Rattle.rules.specs.Route.{Piece, piece, edges_within, pieces}
use Rattle.rules.specs.declared.Direction.TheVariants.{Up, Down}
use Rattle.theory.specs.Rows.{count}
use Rattle.theory.proofs.Rows.{linked_turn}
use Rattle.theory.proofs.Words.{either, split, same_or_not}
use Rattle.distance.specs.Labelled.{Sources}
use Rattle.drive.specs.Driving.{Traced, steps, Walkable}
use Rattle.drive.proofs.Traced.{traced_edge, traced_step, traced_none}

-- ---- some steps after others

steps_append : (way : List ℕ) (from a b : ℕ) → steps way from (a + b) ≡ steps way from a ++ steps way (from + a) b
unfolding steps
steps_append way from zero b =
    let e : 0 + b ≡ b = omega arith in
    let f : from + 0 ≡ from = omega arith in
    rw (e, f) refl
steps_append way from (suc a) b =
    let e : suc a + b ≡ suc (a + b) = omega arith in
    let f : suc from + a ≡ from + suc a = omega arith in
    rw (e, ← f) (ap (λ l. piece (get_or way from 0) (get_or way (suc from) 0) ∷ l) (steps_append way (suc from) a b))

no_step : (way : List ℕ) (from : ℕ) → steps way from 0 ≡ []
unfolding steps
no_step way from = refl

-- the first step, and the others
first_step : (way : List ℕ) (from k : ℕ) → steps way from (suc k) ≡ piece (get_or way from 0) (get_or way (suc from) 0) ∷ steps way (suc from) k
unfolding steps
first_step way from k = refl

-- the others, and the last step
last_step : (way : List ℕ) (from k : ℕ) → steps way from (suc k) ≡ steps way from k ++ (piece (get_or way (from + k) 0) (get_or way (from + suc k) 0) ∷ [])
last_step way from k =
    let e : suc k ≡ k + 1 = omega arith in
    let f : suc (from + k) ≡ from + suc k = omega arith in
    ap (steps way from) e ∙ steps_append way from k 1
    ∙ ap (λ l. steps way from k ++ l) (rw (first_step way (from + k) 0, no_step way (suc (from + k)), f) refl)

-- ---- up to the meeting position

module _ {G : Graph} {C : EdgeCosts} {s : ℕ} {came : List ℕ} (S : Sources G C Up s came) {m last : ℕ} {way : List ℕ} (Z : Traced came Up s m last way)
    (inside : m < count G.first) (some : label (linked G) (along Up (held G C)) s m < none) where
  abbrev rising : ℕ → ℕ → List Piece
  rising = edges_within (linked G) (held G C) Up s

  rise : (i : ℕ) → i ≤ Z.far → rising (suc m) m ≡ rising (suc m - i) (get_or way (4095 - i) 0) ++ steps way (4095 - i) i
  rise zero h =
      let e : suc m - 0 ≡ suc m = omega arith in
      rw (no_step way 4095, Z.starts, e) (sym (append-nil (rising (suc m) m)))
  rise (suc i) h =
      let next : suc (4095 - suc i) ≡ 4095 - i = omega (arith, Z.room) in
      let p = get_or way (4095 - i) 0 in
      let q = get_or way (4095 - suc i) 0 in
      rise i (omega arith)
      ∙ ap (λ l. l ++ steps way (4095 - i) i) (traced_step S Z inside some i h)
      ∙ append_assoc (rising (suc m - suc i) q) (piece q p ∷ []) (steps way (4095 - i) i)
      ∙ ap (λ l. rising (suc m - suc i) q ++ l) (sym (first_step way (4095 - suc i) i ∙ ap (λ k. piece q (get_or way k 0) ∷ steps way k i) next))

  steps_up : steps way (4095 - Z.far) Z.far ≡ rising (suc m) m
  steps_up = sym (rise Z.far (omega arith) ∙ ap (λ l. l ++ steps way (4095 - Z.far) Z.far) (traced_none S Z inside some))

-- ---- down from it

module _ {G : Graph} {C : EdgeCosts} {t : ℕ} {came : List ℕ} (S : Sources G C Down t came) {m last : ℕ} {way : List ℕ} (Z : Traced came Down t m last way)
    (inside : m < count G.first) (some : label (linked G) (along Down (held G C)) t m < none) where
  abbrev falling : ℕ → ℕ → List Piece
  falling k p = reverse (edges_within (linked G) (held G C) Down t k p)

  fall : (i : ℕ) → i ≤ Z.far → falling (suc m) m ≡ steps way 4095 i ++ falling (suc m - i) (get_or way (4095 + i) 0)
  fall zero h =
      let e : suc m - 0 ≡ suc m = omega arith in
      rw (no_step way 4095, Z.starts, e) refl
  fall (suc i) h =
      let p = get_or way (4095 + i) 0 in
      let q = get_or way (4095 + suc i) 0 in
      fall i (omega arith)
      ∙ ap (λ l. steps way 4095 i ++ l)
      (ap reverse (traced_step S Z inside some i h) ∙ reverse-append (edges_within (linked G) (held G C) Down t (suc m - suc i) q) (piece p q ∷ []))
      ∙ sym (append_assoc (steps way 4095 i) (piece p q ∷ []) (falling (suc m - suc i) q))
      ∙ ap (λ l. l ++ falling (suc m - suc i) q) (sym (last_step way 4095 i))

  steps_down : steps way 4095 Z.far ≡ falling (suc m) m
  steps_down =
      sym (fall Z.far (omega arith) ∙ ap (λ l. steps way 4095 Z.far ++ reverse l) (traced_none S Z inside some) ∙ append-nil (steps way 4095 Z.far))

-- ---- both

-- what stays before the middle place stays traced
pub traced_kept : {came : List ℕ} {s m last : ℕ} {way way' : List ℕ} → Traced came Up s m last way → get_or way' 4095 0 ≡ m
    → ((j : ℕ) → j < 4095 → get_or way' j 0 ≡ get_or way j 0) → Traced came Up s m last way'
traced_kept {way = way} {way' = way'} Z e kept =
    record {
      far = Z.far;
      room = Z.room;
      last_is = Z.last_is;
      starts = e;
      arrives = same (4095 - Z.far) (omega arith) ∙ Z.arrives;
      leads = λ i h. rw (same (4095 - i) (omega arith), same (4095 - suc i) (omega arith)) (Z.leads i h);
    }
  where
    same : (j : ℕ) → j ≤ 4095 → get_or way' j 0 ≡ get_or way j 0
    same j h = either (same_or_not j 4095) (λ x. rw x (e ∙ sym Z.starts)) (λ x. kept j (omega arith))

module _ {G : Graph} {C : EdgeCosts} {s t m : ℕ} {came_up came_down : List ℕ} (S : Sources G C Up s came_up) (T' : Sources G C Down t came_down)
    {from to : ℕ} {way : List ℕ} (U : Traced came_up Up s m from way) (D : Traced came_down Down t m to way) (inside : m < count G.first)
    (up : label (linked G) (along Up (held G C)) s m < none) (down : label (linked G) (along Down (held G C)) t m < none) where
  -- the way goes along edges
  pub walkable : Walkable G way from to
  walkable =
      record {
        rise = omega (arith, U.last_is, D.last_is);
        room = omega (arith, D.last_is, D.room);
        edge = λ i a b.
            either (split (ltb i 4095))
            (λ e.
            let j = 4094 - i in
            let x : 4095 - suc j ≡ i = omega (arith, ltb-true i 4095 e) in
            let y : 4095 - j ≡ i + 1 = omega (arith, ltb-true i 4095 e) in
            rw (x, y) at (traced_edge S U inside up j (omega (arith, U.last_is, U.room, ltb-true i 4095 e))))
            (λ e.
            let j = i - 4095 in
            let x : 4095 + j ≡ i = omega (arith, ltb-false i 4095 e) in
            let y : 4095 + suc j ≡ i + 1 = omega (arith, ltb-false i 4095 e) in
            linked_turn G (get_or way (i + 1) 0) (get_or way i 0)
            (rw (x, y) at (traced_edge T' D inside down j (omega (arith, D.last_is, ltb-false i 4095 e)))));
      }

  -- "The pieces are the edges from s up to the meeting position, then those down to t"
  pub steps_pieces : m ≡ meeting (count G.first) (linked G) (held G C) s t
      → steps way from (to - from) ≡ pieces (count G.first) (linked G) (held G C) s t
  unfolding pieces
  steps_pieces e =
      let n : to - from ≡ U.far + D.far = omega (arith, U.last_is, D.last_is, U.room) in
      let f : 4095 - U.far + U.far ≡ 4095 = omega (arith, U.room) in
      rw (n, U.last_is, ← e)
      (steps_append way (4095 - U.far) U.far D.far
      ∙ ap (λ k. steps way (4095 - U.far) U.far ++ steps way k D.far) f
      ∙ rw (steps_up S U inside up, steps_down T' D inside down) refl)
