-- The route, over any joined pairs, costs and roads: if nothing misfits, what is met is a drive end to end that adds up to the distance;
-- over customised costs nothing misfits. Assumes nothing.
use Prim.Native.Nat.{ℕ, zero, suc, ◌+◌, ◌-◌, ◌≤◌, ◌<◌, min}
use mathlib.Core.Path.{◌≡◌, refl, sym, ap, ◌∙◌, subst}
use mathlib.Core.Logic.{◌⊎◌, inl, inr, ◌≢◌}
use mathlib.Core.Bool.{Bool, true, not, ◌&&◌}
use mathlib.Core.List.{List, [], ◌∷◌, ◌++◌, reverse, reverse-append}
use native.Mathlib.Omega.{arith}
use lib.Dec.{T, eqb, ltb}
use lib.ListN.{length, replicate, length-append, length-replicate}
use borrow.Author.Tests.{ltb-true, ltb-false, lt-ltb, eqb-false}
use Rattle.rules.specs.Words.{lowest}
use Rattle.rules.specs.Costs.{closed, none}
use Rattle.rules.specs.declared.Direction.{Direction}
use Rattle.rules.specs.declared.Direction.TheVariants.{Up, Down}
use Rattle.rules.specs.Hierarchy.{along}
use Rattle.rules.specs.Distance.{label, label_from, distance, meeting}
use Rattle.rules.specs.Route.{Piece, piece, edges_within, pieces, Event, drives, misfits, arc_fits, z_fits, middle, opened, opened_all, met, trouble, driven, route_list}
use Rattle.theory.proofs.Words.{lowest_passes, lowest_le, and_i, and_l, and_r, neb_e, neb_i, eqb_e, eqb_i, either, split, true_holds, holds_true, true_false}
use Rattle.theory.proofs.Distance.{Step, label_start, label_lower, label_from_lem, meeting_made, from_start, from_target}

-- ---- events

-- nothing misfits
abbrev pub Clear : List Event → Type 0
Clear [] = Unit {0}
Clear (drives i ∷ es) = Clear es
Clear (misfits ∷ es) = ⊥

pub clear_e : (es fs : List Event) → Clear (es ++ fs) → Clear es × Clear fs
clear_e [] fs c = (tt, c)
clear_e (drives i ∷ es) fs c = clear_e es fs c
clear_e (misfits ∷ es) fs c = absurd c

pub clear_i : (es fs : List Event) → Clear es → Clear fs → Clear (es ++ fs)
clear_i [] fs c d = d
clear_i (drives i ∷ es) fs c d = clear_i es fs c d
clear_i (misfits ∷ es) fs c d = absurd c

pub driven_append : (es fs : List Event) → driven (es ++ fs) ≡ driven es ++ driven fs
unfolding driven
driven_append [] fs = refl
driven_append (drives i ∷ es) fs = ap (λ l. i ∷ l) (driven_append es fs)
driven_append (misfits ∷ es) fs = driven_append es fs

-- no trouble: nothing misfits and the arcs have room; and the other way round
pub trouble_e : (room : ℕ) (es : List Event) → trouble room es ≡ 0 → Clear es × (length (driven es) ≤ room)
unfolding trouble driven
trouble_e zero [] e = (tt, omega arith)
trouble_e (suc room) [] e = (tt, omega arith)
trouble_e zero (misfits ∷ es) e = absurd (omega arith)
trouble_e (suc room) (misfits ∷ es) e = absurd (omega arith)
trouble_e zero (drives i ∷ es) e = absurd (omega arith)
trouble_e (suc room) (drives i ∷ es) e = let r = trouble_e room es e in (r.0, let x = r.1 in omega arith)

pub trouble_none : (room : ℕ) (es : List Event) → Clear es → length (driven es) ≤ room → trouble room es ≡ 0
unfolding trouble driven
trouble_none zero [] c h = refl
trouble_none (suc room) [] c h = refl
trouble_none zero (misfits ∷ es) c h = absurd c
trouble_none (suc room) (misfits ∷ es) c h = absurd c
trouble_none zero (drives i ∷ es) c h = absurd (omega arith)
trouble_none (suc room) (drives i ∷ es) c h = trouble_none room es c (omega arith)

-- where nothing misfits the only trouble is room
pub trouble_room : (room : ℕ) (es : List Event) → Clear es → room < length (driven es) → trouble room es ≡ 12
unfolding trouble driven
trouble_room zero [] c h = absurd (omega arith)
trouble_room (suc room) [] c h = absurd (omega arith)
trouble_room zero (misfits ∷ es) c h = absurd c
trouble_room (suc room) (misfits ∷ es) c h = absurd c
trouble_room zero (drives i ∷ es) c h = refl
trouble_room (suc room) (drives i ∷ es) c h = trouble_room room es c (omega arith)

-- a route list is as long as its room
pub length_route : (arcs : List ℕ) (room : ℕ) → length arcs ≤ room → length (route_list arcs room) ≡ room
unfolding route_list
length_route arcs room h =
    length-append arcs (replicate (room - length arcs) closed)
    ∙ (let e = length-replicate {A = ℕ} (room - length arcs) closed in omega arith)

-- ---- drives and trails

-- arcs end to end from a to b, each the one in force between its ends, of total cost w
pub data Drive (road arc : ℕ → ℕ → ℕ) : ℕ → ℕ → List ℕ → ℕ → Type 0 where
  stop : {a w : ℕ} {js : List ℕ} → js ≡ [] → w ≡ 0 → Drive road arc a a js w
  leg : {a b c w x : ℕ} {is js : List ℕ} → road a b ≢ closed → Drive road arc b c is w → js ≡ arc a b ∷ is → x ≡ road a b + w → Drive road arc a c js x

-- an edge, asked from either end, that is not CLOSED from a to b
pub record Drivable (joined : ℕ → ℕ → Bool) (cost : ℕ → ℕ → ℕ) (a b : ℕ) : Type 0 where
  pub edge : T (joined a b) ⊎ T (joined b a)
  pub open_road : cost a b ≢ closed

-- pieces end to end from a to b, of total cost w
pub data Trail (joined : ℕ → ℕ → Bool) (cost : ℕ → ℕ → ℕ) : ℕ → ℕ → List Piece → ℕ → Type 0 where
  rest : {a w : ℕ} {xs : List Piece} → xs ≡ [] → w ≡ 0 → Trail joined cost a a xs w
  then : {a b c w x : ℕ} {xs ys : List Piece} → Drivable joined cost a b → Trail joined cost b c xs w → ys ≡ piece a b ∷ xs
      → x ≡ cost a b + w → Trail joined cost a c ys x

-- the same arcs and the same total, otherwise written
pub drive_as : {road arc : ℕ → ℕ → ℕ} {a b w x : ℕ} {is js : List ℕ} → Drive road arc a b is w → js ≡ is → x ≡ w → Drive road arc a b js x
drive_as (stop e f) g h = stop (g ∙ e) (h ∙ f)
drive_as {x = x} (leg r d e f) g h = leg {x = x} r d (g ∙ e) (h ∙ f)

pub drive_on : {road arc : ℕ → ℕ → ℕ} {a b c w x y : ℕ} {is js ks : List ℕ} → Drive road arc a b is w → Drive road arc b c js x
    → ks ≡ is ++ js → y ≡ w + x → Drive road arc a c ks y
drive_on {js = js} (stop e f) d g h = drive_as d (g ∙ ap (λ l. l ++ js) e) (let q = h in let r = f in omega arith)
drive_on {y = y} {js = js} (leg r d e f) t g h =
    leg {x = y} r (drive_on d t refl refl) (g ∙ ap (λ l. l ++ js) e) (let q = h in let p = f in omega arith)

trail_as : {joined : ℕ → ℕ → Bool} {cost : ℕ → ℕ → ℕ} {a b w x : ℕ} {xs ys : List Piece} → Trail joined cost a b xs w → ys ≡ xs → x ≡ w → Trail joined cost a b ys x
trail_as (rest e f) g h = rest (g ∙ e) (h ∙ f)
trail_as {x = x} (then r d e f) g h = then {x = x} r d (g ∙ e) (h ∙ f)

trail_on : {joined : ℕ → ℕ → Bool} {cost : ℕ → ℕ → ℕ} {a b c w x y : ℕ} {xs ys zs : List Piece} → Trail joined cost a b xs w → Trail joined cost b c ys x
    → zs ≡ xs ++ ys → y ≡ w + x → Trail joined cost a c zs y
trail_on {ys = ys} (rest e f) d g h = trail_as d (g ∙ ap (λ l. l ++ ys) e) (let q = h in let r = f in omega arith)
trail_on {y = y} {ys = ys} (then r d e f) t g h =
    then {x = y} r (trail_on d t refl refl) (g ∙ ap (λ l. l ++ ys) e) (let q = h in let p = f in omega arith)

-- one piece
one : {joined : ℕ → ℕ → Bool} {cost : ℕ → ℕ → ℕ} (a b : ℕ) → Drivable joined cost a b → Trail joined cost a b (piece a b ∷ []) (cost a b)
one {cost} a b r = then {a = a} {b = b} {w = 0} {x = cost a b} {xs = []} r (rest refl refl) refl (omega arith)

-- ---- what a piece opens into

module _ (joined : ℕ → ℕ → Bool) (cost road arc : ℕ → ℕ → ℕ) where
  -- a z that fits: joined to both ends, and its two costs add up
  fit_e : (a b z : ℕ) → T (z_fits joined cost a b z) → T (joined z a) × T (joined z b) × (cost a z + cost z b ≡ cost a b)
  fit_e a b z t =
      let p = joined z a in
      let q = joined z b in
      let r = not (eqb (cost a z) closed) in
      let u = not (eqb (cost z b) closed) in
      let v = eqb (cost a z + cost z b) (cost a b) in
      let pq : T (p && q) = and_l (p && q) (r && u && v) t in
      (and_l p q pq, and_r p q pq, eqb_e (cost a z + cost z b) (cost a b) (and_r (r && u) v (and_r (p && q) (r && u && v) t)))

  -- a piece that opens without a misfit is a drive from end to end, of the piece's cost, whatever the costs are
  opened_drive : (k a b : ℕ) → Clear (opened joined cost road arc k a b)
      → Drive road arc a b (driven (opened joined cost road arc k a b)) (cost a b)
  unfolding opened driven middle
  opened_drive zero a b c = absurd c
  opened_drive (suc k) a b c =
      let z = lowest (z_fits joined cost a b) 0 (min a b) in
      let lower = opened joined cost road arc k a z in
      let upper = opened joined cost road arc k z b in
      either (split (arc_fits cost road a b))
      (λ e.
      let t : T (arc_fits cost road a b) = true_holds (arc_fits cost road a b) e in
      let o = neb_e (and_l (not (eqb (road a b) closed)) (eqb (road a b) (cost a b)) t) in
      let w = eqb_e (road a b) (cost a b) (and_r (not (eqb (road a b) closed)) (eqb (road a b) (cost a b)) t) in
      rw e (leg {x = cost a b} o (stop {w = 0} refl refl) refl (omega arith)))
      (λ e.
      either (split (ltb z (min a b)))
      (λ d.
      let fit = fit_e a b z (lowest_passes (z_fits joined cost a b) 0 (min a b) (let l = ltb-true z (min a b) d in omega arith)) in
      let cs : Clear (lower ++ upper) = rw (e, d) at c in
      let both = clear_e lower upper cs in
      rw (e, d) (drive_on (opened_drive k a z both.0) (opened_drive k z b both.1) (driven_append lower upper) (sym fit.2)))
      (λ d. absurd (let cs : ⊥ = rw (e, d) at c in cs)))

  -- the same for pieces end to end
  pub trail_drive : {a b w : ℕ} {xs : List Piece} → Trail joined cost a b xs w → Clear (opened_all joined cost road arc xs)
      → Drive road arc a b (driven (opened_all joined cost road arc xs)) w
  unfolding opened_all driven
  trail_drive (rest e f) c = stop (ap (λ l. driven (opened_all joined cost road arc l)) e) f
  trail_drive {w = w} (then {a = a} {b = b} {xs = xs} r t e f) c =
      let first = opened joined cost road arc (suc (min a b)) a b in
      let later = opened_all joined cost road arc xs in
      let cs : Clear (first ++ later) = subst (λ l. Clear (opened_all joined cost road arc l)) e c in
      let both = clear_e first later cs in
      drive_on (opened_drive (suc (min a b)) a b both.0) (trail_drive t both.1)
      (ap (λ l. driven (opened_all joined cost road arc l)) e ∙ driven_append first later) f

  -- customised: a finite cost between joined positions is the road's, or goes over some lower position joined to both
  abbrev pub Made : Type 0
  Made =
      (a b : ℕ) → T (joined a b) → cost a b < closed
      → (cost a b ≡ road a b)
      ⊎ ((z : ℕ) × (z < min a b) × T (joined z a) × T (joined z b) × (cost a b ≡ cost a z + cost z b))

  fit_i : (a b z : ℕ) → cost a b < closed → T (joined z a) → T (joined z b) → cost a b ≡ cost a z + cost z b → T (z_fits joined cost a b z)
  fit_i a b z h j k e =
      let p = joined z a in
      let q = joined z b in
      let r = not (eqb (cost a z) closed) in
      let u = not (eqb (cost z b) closed) in
      let v = eqb (cost a z + cost z b) (cost a b) in
      and_i (p && q) (r && u && v) (and_i p q j k)
      (and_i (r && u) v
      (and_i r u (neb_i (λ (x : cost a z ≡ closed). omega arith)) (neb_i (λ (x : cost z b ≡ closed). omega arith)))
      (eqb_i (cost a z + cost z b) (cost a b) (sym e)))

  -- where no arc fits, some z does
  middle_below : (a b : ℕ) → cost a b < closed → (T (arc_fits cost road a b) → ⊥)
      → (cost a b ≡ road a b) ⊎ ((z : ℕ) × (z < min a b) × T (joined z a) × T (joined z b) × (cost a b ≡ cost a z + cost z b))
      → lowest (z_fits joined cost a b) 0 (min a b) < min a b
  middle_below a b h n (inl e) =
      absurd (n (and_i (not (eqb (road a b) closed)) (eqb (road a b) (cost a b))
      (neb_i (λ (x : road a b ≡ closed). omega arith)) (eqb_i (road a b) (cost a b) (sym e))))
  middle_below a b h n (inr (y, l, j, k, e)) =
      let x = lowest_le (z_fits joined cost a b) 0 (min a b) y (omega arith) (fit_i a b y h j k e) in
      omega arith

  module _ (turn : (a b : ℕ) → T (joined a b) → T (joined b a)) (made : Made) where
    -- over customised costs no piece misfits
    opened_clear : (k a b : ℕ) → min a b < k → T (joined a b) → cost a b < closed → Clear (opened joined cost road arc k a b)
    unfolding opened middle
    opened_clear zero a b l j h = absurd (omega arith)
    opened_clear (suc k) a b l j h =
        let z = lowest (z_fits joined cost a b) 0 (min a b) in
        let lower = opened joined cost road arc k a z in
        let upper = opened joined cost road arc k z b in
        either (split (arc_fits cost road a b))
        (λ e. rw e tt)
        (λ e.
        let n : T (arc_fits cost road a b) → ⊥ = λ t. true_false (sym (holds_true (arc_fits cost road a b) t) ∙ e) in
        let d : ltb z (min a b) ≡ true = lt-ltb z (min a b) (middle_below a b h n (made a b j h)) in
        let f = fit_e a b z (lowest_passes (z_fits joined cost a b) 0 (min a b) (let x = ltb-true z (min a b) d in omega arith)) in
        let sum : cost a z + cost z b ≡ cost a b = f.2 in
        let x = ltb-true z (min a b) d in
        rw (e, d)
        (clear_i lower upper
        (opened_clear k a z (omega arith) (turn z a f.0) (omega arith))
        (opened_clear k z b (omega arith) f.1 (omega arith))))

    -- pieces end to end open without a misfit
    pub trail_clear : ((a b : ℕ) → cost a b ≤ closed) → {a b w : ℕ} {xs : List Piece} → Trail joined cost a b xs w → Clear (opened_all joined cost road arc xs)
    unfolding opened_all
    trail_clear small (rest e f) = subst (λ l. Clear (opened_all joined cost road arc l)) (sym e) tt
    trail_clear small (then {a = a} {b = b} {xs = xs} r t e f) =
        let g : cost a b < closed = omega (arith, small a b, r.open_road) in
        let j : T (joined a b) = either r.edge (λ j. j) (turn b a) in
        subst (λ l. Clear (opened_all joined cost road arc l)) (sym e)
        (clear_i (opened joined cost road arc (suc (min a b)) a b) (opened_all joined cost road arc xs)
        (opened_clear (suc (min a b)) a b (omega arith) j g) (trail_clear small t))

-- ---- the pieces

-- from s up to p, or the other way from p down to s
abbrev TrailBy : (d : Direction) (joined : ℕ → ℕ → Bool) (cost : ℕ → ℕ → ℕ) (s p : ℕ) (xs : List Piece) (w : ℕ) → Type 0
TrailBy Up joined cost s p xs w = Trail joined cost s p xs w
TrailBy Down joined cost s p xs w = Trail joined cost p s (reverse xs) w

trail_none : (d : Direction) (joined : ℕ → ℕ → Bool) (cost : ℕ → ℕ → ℕ) (s p : ℕ) (ys : List Piece) (x : ℕ) → p ≡ s → ys ≡ [] → x ≡ 0 → TrailBy d joined cost s p ys x
trail_none Up joined cost s p ys x e f g = subst (λ q. Trail joined cost s q ys x) (sym e) (rest f g)
trail_none Down joined cost s p ys x e f g = subst (λ q. Trail joined cost q s (reverse ys) x) (sym e) (rest (ap reverse f) g)

trail_more : (d : Direction) (joined : ℕ → ℕ → Bool) (cost : ℕ → ℕ → ℕ) (s q p : ℕ) (xs ys : List Piece) (w x : ℕ) → Step joined (along d cost) q p → TrailBy d joined cost s q xs w
    → ys ≡ xs ++ (along d piece q p ∷ []) → x ≡ w + along d cost q p → TrailBy d joined cost s p ys x
trail_more Up joined cost s q p xs ys w x k t f e =
    trail_on t (one q p (record { edge = inl k.edge; open_road = k.open_road })) f e
trail_more Down joined cost s q p xs ys w x k t f e =
    trail_on (one p q (record { edge = inr k.edge; open_road = k.open_road })) t (ap reverse f ∙ reverse-append xs (piece p q ∷ [])) (omega arith)

module _ (joined : ℕ → ℕ → Bool) (cost : ℕ → ℕ → ℕ) where
  -- the edges by which p got its label go from end to end and cost what the label says
  edges_trail : (d : Direction) (s k p : ℕ) → p < k → label joined (along d cost) s p < none
      → TrailBy d joined cost s p (edges_within joined cost d s k p) (label joined (along d cost) s p)
  unfolding edges_within
  edges_trail d s zero p l h = absurd (omega arith)
  edges_trail d s (suc k) p l h =
      let step = along d cost in
      either (split (eqb p s))
      (λ e.
      let x : p ≡ s = eqb_e p s (true_holds (eqb p s) e) in
      let z : label joined step s p ≡ 0 = ap (label joined step s) x ∙ label_start joined step s in
      trail_none d joined cost s p (edges_within joined cost d s (suc k) p) (label joined step s p) x (rw e refl) z)
      (λ e.
      let q = label_from joined step s p in
      let r : s < p =
      either (split (ltb s p)) (λ g. ltb-true s p g)
      (λ g. either (split (ltb p s))
      (λ f. absurd (let z = label_lower joined step s p (ltb-true p s f) in omega arith))
      (λ f. absurd (eqb-false p s e (let u = ltb-false s p g in let v = ltb-false p s f in omega arith)))) in
      let m = label_from_lem joined step s p r h in
      let u : q < p = m.0.rises in
      let v : label joined step s p ≡ label joined step s q + step q p = m.1 in
      trail_more d joined cost s q p (edges_within joined cost d s k q) (edges_within joined cost d s (suc k) p) (label joined step s q) (label joined step s p)
      m.0 (edges_trail d s k q (omega arith) (omega arith)) (rw e refl) v)

  -- "The pieces are the edges from s up to the meeting position, then those down to t": end to end, and they cost the distance
  pub pieces_trail : (n s t : ℕ) → distance n joined cost s t < none → Trail joined cost s t (pieces n joined cost s t) (distance n joined cost s t)
  unfolding pieces
  pieces_trail n s t h =
      let m = meeting n joined cost s t in
      let w = meeting_made n joined cost s t h in
      let e : distance n joined cost s t ≡ from_start n joined cost s t m + from_target n joined cost s t m = w.1 in
      trail_on (edges_trail Up s (suc m) m (omega arith) (omega arith)) (edges_trail Down t (suc m) m (omega arith) (omega arith)) refl e

  -- whatever the lists hold: if nothing misfits, the arcs met go end to end from s to t and add up to the distance
  pub met_drive : (road arc : ℕ → ℕ → ℕ) (n s t : ℕ) → distance n joined cost s t < none → Clear (met n joined cost road arc s t)
      → Drive road arc s t (driven (met n joined cost road arc s t)) (distance n joined cost s t)
  unfolding met
  met_drive road arc n s t h c = trail_drive joined cost road arc (pieces_trail n s t h) c
