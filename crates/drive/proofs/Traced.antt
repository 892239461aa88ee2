-- Labels followed back from the meeting position: place by place the way holds where each label came from, and that it came along an edge.
-- Assumes nothing.
use Prim.Native.Nat.{ℕ, zero, suc, ◌+◌, ◌-◌, ◌≤◌, ◌<◌}
use mathlib.Core.Path.{◌≡◌, refl, sym, ap, ◌∙◌}
use mathlib.Core.Logic.{◌≢◌}
use mathlib.Core.List.{List, [], ◌∷◌, ◌++◌}
use native.Mathlib.Omega.{arith}
use native.Mathlib.Numerals.{add-one}
use lib.Dec.{T}
use lib.ListN.{length, get_or, set, length-set}
use lib.Seq.{get_or-set_same, get_or-set_other}
use borrow.Author.Tests.{eq-eqb, ne_eqb}
use Rattle.rules.specs.Costs.{none}
use Rattle.rules.specs.Distance.{label, label_from}
use Rattle.rules.specs.Graph.{Graph}
use Rattle.rules.specs.Hierarchy.{EdgeCosts, linked, held, along}
use Rattle.rules.specs.Route.{Piece, piece, edges_within}
use Rattle.rules.specs.declared.Direction.TheVariants.{Up, Down}
use Rattle.rules.specs.declared.Direction.{Direction}
use Rattle.theory.specs.Rows.{count}
use Rattle.theory.proofs.Pieces.{CameFrom, came_from, labelled_above}
use Rattle.theory.proofs.Words.{either, same_or_not}
use Rattle.distance.specs.Labelled.{Sources}
use Rattle.drive.specs.Driving.{Leads, arrived, onward, way_place, Beside, Traced}

-- ---- places of the way

pub place_room : (d : Direction) (i : ℕ) → i ≤ 4095 → way_place d i < 8192
place_room Up i h = omega arith
place_room Down i h = omega arith

middle_place : (d : Direction) → way_place d 0 ≡ 4095
middle_place Up = refl
middle_place Down = refl

place_other : (d : Direction) (i j : ℕ) → i < j → j ≤ 4095 → way_place d i ≢ way_place d j
place_other Up i j h l e = omega arith
place_other Down i j h l e = omega arith

beside_other : (d : Direction) (i j : ℕ) → i ≤ 4095 → Beside d j → j ≢ way_place d i
beside_other Up i j h b e = omega arith
beside_other Down i j h b e = omega arith

-- ---- while the labels are followed

-- from any other position than s the list leads on, to a lower one
pub leads_on : {came : List ℕ} {s p : ℕ} → Leads came s p → p ≢ s → (get_or came p 0 < p) × Leads came s (get_or came p 0)
leads_on arrived n = absurd (n refl)
leads_on (onward l r) n = (l, r)

-- i positions back from m comes p
pub record Tracing (came : List ℕ) (d : Direction) (end m : ℕ) (before : List ℕ) (p i : ℕ) (way : List ℕ) : Type 0 where
  pub long : length way ≡ 8192
  pub back : i + p ≤ m
  pub rest : Leads came end p
  pub starts : get_or way 4095 0 ≡ m
  pub here : get_or way (way_place d i) 0 ≡ p
  pub leads : (j : ℕ) → j < i
      → (get_or way (way_place d j) 0 ≢ end) × (get_or way (way_place d (suc j)) 0 ≡ get_or came (get_or way (way_place d j) 0) 0)
  pub kept : (j : ℕ) → Beside d j → get_or way j 0 ≡ get_or before j 0

-- m itself, in the middle
pub tracing_start : (came : List ℕ) (d : Direction) (end m : ℕ) (way : List ℕ) → length way ≡ 8192 → Leads came end m
    → Tracing came d end m (set way 4095 m) m 0 (set way 4095 m)
tracing_start came d end m way long L =
    let there : get_or (set way 4095 m) 4095 0 ≡ m = get_or-set_same way 4095 m 0 (omega arith) in
    record {
      long = length-set way 4095 m ∙ long;
      back = omega arith;
      rest = L;
      starts = there;
      here = rw (middle_place d) there;
      leads = λ j h. absurd (omega arith);
      kept = λ j b. refl;
    }

-- which leaves what is beside it
pub middle_kept : (d : Direction) (m : ℕ) (way : List ℕ) (j : ℕ) → Beside d j → get_or (set way 4095 m) j 0 ≡ get_or way j 0
middle_kept d m way j b = get_or-set_other way 4095 j m 0 (λ e. beside_other d 0 j (omega arith) b (e ∙ sym (middle_place d)))

module _ {came : List ℕ} {d : Direction} {end m : ℕ} {before : List ℕ} {p i : ℕ} {way : List ℕ} (small : m < 4096)
    (Z : Tracing came d end m before p i way) where
  -- one more
  pub tracing_more : (q k : ℕ) → q ≡ get_or came p 0 → k ≡ way_place d (i + 1) → p ≢ end → Tracing came d end m before q (i + 1) (set way k q)
  tracing_more q k eq place n =
      rw (add-one i)
      (record {
        long = length-set way k q ∙ Z.long;
        back = fewer;
        rest = rw eq (leads_on Z.rest n).1;
        starts = rw (← middle_place d) (stays 0 (omega arith) ∙ rw (middle_place d) Z.starts);
        here = there;
        leads = λ j h.
            either (same_or_not j i)
            (λ e. rw (e, stays i (omega arith), there, Z.here) (n, eq))
            (λ e. rw (stays j (omega arith), stays (suc j) (omega arith)) (Z.leads j (omega arith)));
        kept = λ j b. get_or-set_other way k j q 0 (λ e. beside_other d (suc i) j (omega (arith, fewer)) b (e ∙ ek)) ∙ Z.kept j b;
      })
    where
      ek : k ≡ way_place d (suc i)
      ek = place ∙ ap (way_place d) (add-one i)

      fewer : suc i + q ≤ m
      fewer = omega (arith, Z.back, (leads_on Z.rest n).0)

      stays : (j : ℕ) → j ≤ i → get_or (set way k q) (way_place d j) 0 ≡ get_or way (way_place d j) 0
      stays j h = get_or-set_other way k (way_place d j) q 0 (λ e. place_other d j (suc i) (omega arith) (omega (arith, fewer)) (e ∙ ek))

      there : get_or (set way k q) (way_place d (suc i)) 0 ≡ q
      there = rw (← ek) (get_or-set_same way k q 0 (omega (arith, ek, Z.long, place_room d (suc i) (omega (arith, fewer)))))

  -- the end is reached
  pub tracing_end : (last : ℕ) → last ≡ way_place d i → p ≡ end → Traced came d end m last way
  tracing_end last e h =
      record {
        far = i;
        room = omega (arith, Z.back);
        last_is = e;
        starts = Z.starts;
        arrives = Z.here ∙ h;
        leads = Z.leads;
      }

-- ---- by where the labels came from

module _ {G : Graph} {C : EdgeCosts} {d : Direction} {s : ℕ} {came : List ℕ} (S : Sources G C d s came) where
  abbrev label_of : ℕ → ℕ
  label_of = label (linked G) (along d (held G C)) s

  abbrev edges : ℕ → ℕ → List Piece
  edges = edges_within (linked G) (held G C) d s

  last_edge : (k p : ℕ) → p ≢ s
      → edges (suc k) p
      ≡ edges k (label_from (linked G) (along d (held G C)) s p) ++ (along d piece (label_from (linked G) (along d (held G C)) s p) p ∷ [])
  unfolding edges_within
  last_edge k p n = let e = ne_eqb p s n in rw e refl

  no_edge : (k p : ℕ) → p ≡ s → edges (suc k) p ≡ []
  unfolding edges_within
  no_edge k p e = rw (eq-eqb p s e) refl

  -- the list tells where the label of a higher position came from
  came_is : (p : ℕ) → p < count G.first → label_of p < none → p ≢ s
      → (get_or came p 0 ≡ label_from (linked G) (along d (held G C)) s p) × CameFrom (linked G) (along d (held G C)) s p (get_or came p 0)
  came_is p h l u =
      let g = labelled_above (linked G) (along d (held G C)) s p l u in
      let e = S.source p g h l in
      (e, rw e (came_from (linked G) (along d (held G C)) s p g l))

  -- it leads from a position with a label down to the start
  pub sources_lead : (k p : ℕ) → p < k → p < count G.first → label_of p < none → Leads came s p
  sources_lead zero p b h l = absurd (omega arith)
  sources_lead (suc k) p b h l =
      either (same_or_not p s)
      (λ e. rw e arrived)
      (λ e.
      let f = (came_is p h l e).1 in
      onward f.lower (sources_lead k (get_or came p 0) (omega (arith, f.lower)) (omega (arith, f.lower)) f.labelled))

  module _ {m last : ℕ} {way : List ℕ} (Z : Traced came d s m last way) (inside : m < count G.first) (some : label_of m < none) where
    abbrev at : ℕ → ℕ
    at i = get_or way (way_place d i) 0

    -- each position on the way has a label
    labelled : (i : ℕ) → i ≤ Z.far → (at i + i ≤ m) × (label_of (at i) < none)
    labelled zero h = rw (middle_place d, Z.starts) (omega arith, some)
    labelled (suc i) h =
        let (b, l) = labelled i (omega arith) in
        let (n, e) = Z.leads i h in
        let f = (came_is (at i) (omega arith) l n).1 in
        rw e (omega (arith, f.lower), f.labelled)

    -- from the next position back it came along an edge
    came_along : (i : ℕ) → i < Z.far
        → (at (suc i) ≡ label_from (linked G) (along d (held G C)) s (at i)) × T (linked G (at (suc i)) (at i))
    came_along i h =
        let (b, l) = labelled i (omega arith) in
        let (n, e) = Z.leads i h in
        let (g, f) = came_is (at i) (omega arith) l n in
        rw e (g, f.edge)

    pub traced_edge : (i : ℕ) → i < Z.far → T (linked G (get_or way (way_place d (suc i)) 0) (get_or way (way_place d i) 0))
    traced_edge i h = (came_along i h).1

    -- the definition's edges: the last, after those before it
    pub traced_step : (i : ℕ) → i < Z.far
        → edges_within (linked G) (held G C) d s (suc m - i) (get_or way (way_place d i) 0)
        ≡ edges_within (linked G) (held G C) d s (suc m - suc i) (get_or way (way_place d (suc i)) 0)
        ++ (along d piece (get_or way (way_place d (suc i)) 0) (get_or way (way_place d i) 0) ∷ [])
    traced_step i h =
        let e : suc m - i ≡ suc (suc m - suc i) = omega (arith, (labelled i (omega arith)).0) in
        ap (λ k. edges k (at i)) e
        ∙ last_edge (suc m - suc i) (at i) (Z.leads i h).0
        ∙ ap (λ q. edges (suc m - suc i) q ++ (along d piece q (at i) ∷ [])) (sym (came_along i h).0)

    -- and none at the start
    pub traced_none : edges_within (linked G) (held G C) d s (suc m - Z.far) (get_or way (way_place d Z.far) 0) ≡ []
    traced_none =
        let e : suc m - Z.far ≡ suc (m - Z.far) = omega (arith, (labelled Z.far (omega arith)).0) in
        ap (λ k. edges k (at Z.far)) e ∙ no_edge (m - Z.far) (at Z.far) Z.arrives
