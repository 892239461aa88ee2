-- The line that is looked for, as the search meets it. Assumes nothing.
use Rattle.std.proofs.Common.{ℕ, suc, ◌+◌, ◌≤◌, ◌≡◌, refl, ap, Bool, true, false, List, [], ◌∷◌, Option, Some, None, Bor, length, eqb, arith, add-one}
use Rattle.text.specs.Bytes.{lf, cut_at, words}
use Rattle.text.specs.Program.{Line, comment, problem, arc, seat, question, other, line_of}
use Rattle.std.specs.Option.{is_some}
use Rattle.text.specs.declared.Parts.{Parts}
use Rattle.text.specs.ReadBack.{parts_left}
use Rattle.text.proofs.LineOf.{some_part}
use Rattle.reader.specs.declared.lists.State.{State}
use Rattle.reader.specs.State.{nothing_yet}
use Rattle.fault.specs.declared.Sought.{Sought}
use Rattle.fault.specs.Faults.{counted, Few, is_sought, place, seek, place_of}

-- few are fewer than more
pub few_within : (s : State) (least most : ℕ) → least ≤ most → Few s least → Few s most
few_within s least most h f = record { arcs_few = omega (arith, f.arcs_few); seats_few = omega (arith, f.seats_few); questions_few = omega (arith, f.questions_few) }

-- a line more is counted
few_more : (s : State) (l : Line) (most : ℕ) → Few s most → Few (counted s l) (most + 1)
few_more s comment most f = few_within s most (most + 1) (omega arith) f
few_more s (problem n m) most f = record { arcs_few = omega (arith, f.arcs_few); seats_few = omega (arith, f.seats_few); questions_few = omega (arith, f.questions_few) }
few_more s (arc t h c) most f = record { arcs_few = omega (arith, f.arcs_few); seats_few = omega (arith, f.seats_few); questions_few = omega (arith, f.questions_few) }
few_more s (seat j) most f = record { arcs_few = omega (arith, f.arcs_few); seats_few = omega (arith, f.seats_few); questions_few = omega (arith, f.questions_few) }
few_more s (question u v) most f = record { arcs_few = omega (arith, f.arcs_few); seats_few = omega (arith, f.seats_few); questions_few = omega (arith, f.questions_few) }
few_more s other most f = few_within s most (most + 1) (omega arith) f

-- there are no more parts than bytes, but for one
few_parts : (mark : ℕ) (l : List ℕ) → length (cut_at mark l) ≤ length l + 1
unfolding cut_at
few_parts mark [] = omega arith
few_parts mark (x ∷ l) = by (some_part mark l) (eqb x mark) refl (few_parts mark l)
  where
    by : (p : List ℕ) × (ps : List (List ℕ)) × (cut_at mark l ≡ p ∷ ps) → (b : Bool) → eqb x mark ≡ b → length (cut_at mark l) ≤ length l + 1 → length (cut_at mark (x ∷ l)) ≤ length (x ∷ l) + 1
    by r true e h = rw e (omega arith)
    by (p, ps, f) false e h = let n : suc (length ps) ≤ length l + 1 = rw f at h in rw (e, f) (omega arith)

-- the lines before those that are left have been passed by, and say s
pub record Walks (l : List ℕ) (what : Sought) (s : State) (number : ℕ) (left : List (List ℕ)) : Type 0 where
  pub few : Few s number
  pub counts : number + length left ≤ length l + 2
  pub says : seek what s number left ≡ place_of what l

-- before the first line
pub walks_none : (l : List ℕ) (what : Sought) (left : List (List ℕ)) → left ≡ cut_at lf l → Walks l what nothing_yet 1 left
unfolding place_of
walks_none l what left e = record {
  few = record { arcs_few = omega arith; seats_few = omega arith; questions_few = omega arith };
  counts = omega (arith, few_parts lf l, ap length e);
  says = rw e refl;
}

-- no part is left, or some are
no_parts : (p : Parts) → is_some p.rest ≡ false → parts_left p ≡ []
no_parts p e = by p.rest refl e
  where
    by : (r : Option (Bor (List ℕ))) → p.rest ≡ r → is_some r ≡ false → parts_left p ≡ []
    by (Some x) q f = cc
    by None q f = rw q refl

some_parts : (p : Parts) → is_some p.rest ≡ true → (next : List ℕ) × (rest : List (List ℕ)) × (parts_left p ≡ next ∷ rest)
some_parts p e = by p.rest refl e
  where
    by : (r : Option (Bor (List ℕ))) → p.rest ≡ r → is_some r ≡ true → (next : List ℕ) × (rest : List (List ℕ)) × (parts_left p ≡ next ∷ rest)
    by (Some x) q f = let (n, ns, g) = some_part p.mark x.now in (n, ns, rw q g)
    by None q f = cc

module _ (l : List ℕ) (what : Sought) (s : State) (number : ℕ) (left : List (List ℕ)) (w : Walks l what s number left) (bytes : List ℕ) (p : Parts) (q : left ≡ bytes ∷ parts_left p) where
  -- the line that comes next is the last, without LF
  pub walks_last : is_some p.rest ≡ false → place number bytes false s ≡ place_of what l
  unfolding seek
  walks_last e = rw (q, no_parts p e) at w.says

  -- it is the one
  pub walks_found : is_some p.rest ≡ true → is_sought what s number (line_of (words bytes)) ≡ true → place number bytes true s ≡ place_of what l
  unfolding seek
  walks_found e f = let (n, ns, g) = some_parts p e in rw (q, g, f) at w.says

  -- it is another
  pub walks_few : is_some p.rest ≡ true → length l ≤ 65536 → Few s 65536
  walks_few e h =
      let (n, ns, g) = some_parts p e in
      few_within s number 65536 (omega (arith, w.counts, ap length q, ap length g)) w.few

  pub walks_on : is_some p.rest ≡ true → is_sought what s number (line_of (words bytes)) ≡ false → Walks l what (counted s (line_of (words bytes))) (number + 1) (parts_left p)
  unfolding seek
  walks_on e f =
      let (n, ns, g) = some_parts p e in
      record {
        few = few_more s (line_of (words bytes)) number w.few;
        counts = omega (arith, w.counts, ap length q);
        says = rw (g, add-one) (rw (q, g, f) at w.says);
      }

-- no line is left
pub walks_ended : (l : List ℕ) (what : Sought) (s : State) (number : ℕ) (left : List (List ℕ)) → Walks l what s number left → left ≡ [] → place number [] false s ≡ place_of what l
unfolding seek
walks_ended l what s number left w q = rw q at w.says
