-- What the code finds in a line, byte by byte and word by word, is what the definitions say of the line. Assumes nothing.
use Rattle.std.proofs.Common.{ℕ, suc, ◌+◌, ◌-◌, ◌<◌, ◌≡◌, refl, sym, ap, ◌∙◌, Bool, true, false, ◌&&◌, cond, List, [], ◌∷◌, Option, Some, None, Ok, Err, Bor, MatchOption, length, get_or, slice_get, eqb, leb, arith, lt-ltb, le-leb, drop-cons, drop_of_length-le, add-one}
use mathlib.Core.Bool.{and-true, and-false}
use Rattle.std.specs.List.{starts_with, ends_with, list_any}
use Rattle.std.proofs.lemmas.Grind.{common_steps}
use Rattle.std.specs.Option.{is_some}
use Rattle.std.proofs.lemmas.Option.{slice_get-get_or}
use Rattle.text.specs.Bytes.{same, cut_at, words, is_number, number_of}
use Rattle.text.specs.Program.{is_junction, is_cost}
use Rattle.text.specs.ReadBack.{said_if, number_said, junction_said, cost_said}
use Rattle.text.proofs.LineOf.{some_part}
use Rattle.reader.specs.declared.lists.State.{State}
use Rattle.cause.specs.declared.Form.{Form}
use Rattle.cause.specs.declared.Form.TheVariants.{Problem, Arc, Seat, Question}
use Rattle.cause.specs.declared.Want.{Want}
use Rattle.cause.specs.declared.Want.TheVariants.{Sp}
use Rattle.cause.specs.declared.Cause.TheVariants as cause
use Rattle.cause.specs.declared.Fault.{Fault}
use Rattle.cause.specs.Causes.{whole, at, is_at_most, meets, wants, want_at, not_met, first_off, letter_of, begins_with_mark, ends_in_cr, holds, any_empty, place_fault, words_fault, line_fault}

-- ---- bytes

eqb_sym : (a b : ℕ) → eqb a b ≡ eqb b a
eqb_sym a b = grind (arith, common_steps)

-- the first three bytes
mark_lem : (l : List ℕ) → starts_with eqb l (239 ∷ 187 ∷ 191 ∷ []) ≡ begins_with_mark l
unfolding begins_with_mark
mark_lem [] = refl
mark_lem (x ∷ []) = and-false (eqb 239 x)
mark_lem (x ∷ y ∷ []) = rw (and-false (eqb 187 y), and-false (eqb 239 x)) refl
mark_lem (x ∷ y ∷ z ∷ l) =
    rw
    (eqb_sym 239 x, eqb_sym 187 y, eqb_sym 191 z, and-true (eqb z 191), le-leb 3 (suc (suc (suc (length l)))) (omega arith))
    (by (eqb x 239))
  where
    by : (b : Bool) → b && (eqb y 187 && eqb z 191) ≡ b && eqb y 187 && eqb z 191
    by true = refl
    by false = refl

-- the last byte
cr_lem : (l : List ℕ) → ends_with eqb l (13 ∷ []) ≡ ends_in_cr l
unfolding ends_in_cr
cr_lem [] = refl
cr_lem (x ∷ l) =
    let n : length l < length (x ∷ l) = omega arith in
    let k : suc (length l) - 1 ≡ length l = omega arith in
    rw
    (k, drop-cons (x ∷ l) (length l) 0, drop_of_length-le (x ∷ l) {i = suc (length l)} (omega arith), eqb_sym 13 (get_or (x ∷ l) (length l) 0), le-leb 1 (suc (length l)) (omega arith))
    (and-true _)

-- a byte stands in a line if the line has two parts there
tab_lem : (byte : ℕ) (l : List ℕ) → list_any (λ y. eqb y byte) l ≡ holds byte l
unfolding holds cut_at
tab_lem byte [] = refl
tab_lem byte (x ∷ xs) = by (some_part byte xs) (eqb x byte) refl (tab_lem byte xs)
  where
    by : (p : List ℕ) × (ps : List (List ℕ)) × (cut_at byte xs ≡ p ∷ ps) → (b : Bool) → eqb x byte ≡ b → list_any (λ y. eqb y byte) xs ≡ holds byte xs → list_any (λ y. eqb y byte) (x ∷ xs) ≡ holds byte (x ∷ xs)
    by (p, ps, f) true e h = rw (e, f, lt-ltb 1 (suc (suc (length ps))) (omega arith)) refl
    by (p, ps, f) false e h = rw (e, f) (h ∙ rw f refl)

-- the form of a line, by what the code tests
pub line_lem : (s : State) (l : List ℕ) → line_fault s l ≡
    cond (starts_with eqb l (239 ∷ 187 ∷ 191 ∷ [])) (whole cause.ByteOrderMark)
    (cond (ends_with eqb l (13 ∷ [])) (whole cause.CarriageReturn)
    (cond (list_any (λ y. eqb y 9) l) (whole cause.Tab)
    (cond (eqb (length l) 0) (whole cause.Empty)
    (cond (any_empty (words l)) (whole cause.Spaces)
    (words_fault s (words l))))))
unfolding line_fault
line_lem s l = rw (mark_lem l, cr_lem l, tab_lem 9 l) refl

-- ---- words

-- a word that says something if a test holds says something just then
said_if_lem : (test : Bool) (x : ℕ) → is_some (said_if test x) ≡ test
said_if_lem true x = refl
said_if_lem false x = refl

pub junction_met : (w : List ℕ) → is_some (junction_said w) ≡ is_junction w
unfolding junction_said
junction_met w = said_if_lem _ _

pub cost_met : (w : List ℕ) → is_some (cost_said w) ≡ is_cost w
unfolding cost_said
cost_met w = said_if_lem _ _

-- a number that is not over `most`, by what the word says
abbrev pub at_most : (most : ℕ) → Option ℕ → Bool
at_most most (Some x) = leb x most
at_most most None = false

pub at_most_lem : (most : ℕ) (w : List ℕ) → at_most most (number_said w) ≡ is_at_most most w
unfolding number_said is_at_most
at_most_lem most w = by (is_number w)
  where
    by : (b : Bool) → at_most most (said_if b (number_of w)) ≡ b && leb (number_of w) most
    by true = refl
    by false = refl

-- a word of another length than one is no letter
pub no_letter : (w : List ℕ) → (length w ≡ 1 → ⊥) → None ≡ letter_of w
unfolding letter_of same
no_letter [] n = refl
no_letter (x ∷ []) n = absurd (n refl)
no_letter (x ∷ y ∷ w) n = rw (and-false (eqb x 112), and-false (eqb x 97), and-false (eqb x 111), and-false (eqb x 113)) refl

-- one of one byte is that byte
pub letter_lem : (w : List ℕ) → length w ≡ 1 → letter_of w ≡
    cond (eqb (get_or w 0 0) 112) (Some Problem)
    (cond (eqb (get_or w 0 0) 97) (Some Arc)
    (cond (eqb (get_or w 0 0) 111) (Some Seat)
    (cond (eqb (get_or w 0 0) 113) (Some Question)
    None)))
unfolding letter_of same
letter_lem [] e = absurd (omega arith)
letter_lem (x ∷ []) e = rw (and-true (eqb x 112), and-true (eqb x 97), and-true (eqb x 111), and-true (eqb x 113)) refl
letter_lem (x ∷ y ∷ w) e = absurd (omega arith)

-- ---- the words behind the letter

-- behind the last of them no word is asked for
want_none : (form : Form) → want_at form (length (wants form)) ≡ None
want_none Problem = refl
want_none Arc = refl
want_none Seat = refl
want_none Question = refl

-- word k is asked for, and is missing, off, or what it must be
module _ (form : Form) (k : ℕ) (ws : List Want) (e : ws ≡ wants form) (h : k < length ws) where
  want_here : want_at form k ≡ Some (get_or ws k Sp)
  want_here = ap (λ v. slice_get v k) (sym e) ∙ slice_get-get_or ws k Sp h

  pub off_missing : (left : List (List ℕ)) → left ≡ [] → Err (whole (cause.TooFew form)) ≡ first_off form k left
  unfolding first_off
  off_missing left q = rw (q, want_here) refl

  pub off_here : (left rest : List (List ℕ)) (w : List ℕ) → left ≡ w ∷ rest → false ≡ meets (get_or ws k Sp) w → Err (at (k + 2) (not_met (get_or ws k Sp))) ≡ first_off form k left
  unfolding first_off
  off_here left rest w q m = let s : k + 2 ≡ suc (suc k) = omega arith in rw (q, want_here, ← m, s) refl

  pub off_on : (left rest : List (List ℕ)) (w : List ℕ) → left ≡ w ∷ rest → true ≡ meets (get_or ws k Sp) w → first_off form (k + 1) rest ≡ first_off form k left
  unfolding first_off
  off_on left rest w q m = rw (q, want_here, ← m, add-one) refl

-- no word more is asked for
module _ (form : Form) (ws : List Want) (e : ws ≡ wants form) where
  want_last : want_at form (length ws) ≡ None
  want_last = ap (λ v. want_at form (length v)) e ∙ want_none form

  pub off_more : (left rest : List (List ℕ)) (w : List ℕ) → left ≡ w ∷ rest → Err (at (length ws + 2) (cause.TooMany form)) ≡ first_off form (length ws) left
  unfolding first_off
  off_more left rest w q = let s : length ws + 2 ≡ suc (suc (length ws)) = omega arith in rw (q, want_last, s) refl

  pub off_none : (left : List (List ℕ)) → left ≡ [] → Ok tt ≡ first_off form (length ws) left
  unfolding first_off
  off_none left q = rw (q, want_last) refl

-- ---- the first word and the others

-- the form that the first word names, if there is one
abbrev pub first_letter : Option (Bor (List ℕ)) → Option Form
first_letter (Some word) = letter_of word.now
first_letter None = None

-- the first of some words, and those behind it
abbrev pub FirstWord : (r : Option (Bor (List ℕ))) (ws rest : List (List ℕ)) → Type 0
FirstWord r ws rest = MatchOption r ((ws ≡ []) × (rest ≡ [])) (λ x. ws ≡ x.now ∷ rest)

module _ (s : State) (ws rest : List (List ℕ)) where
  pub no_form : (r : Option (Bor (List ℕ))) → FirstWord r ws rest → first_letter r ≡ None → at 1 cause.Letter ≡ words_fault s ws
  unfolding words_fault
  no_form (Some w) q e = rw (q, e) refl
  no_form None q e = rw q.0 refl

  pub words_right : (r : Option (Bor (List ℕ))) (form : Form) → FirstWord r ws rest → first_letter r ≡ Some form → Ok tt ≡ first_off form 0 rest → place_fault form s ≡ words_fault s ws
  unfolding words_fault
  words_right (Some w) form q e f = rw (q, e, ← f) refl
  words_right None form q e f = cc

  pub words_off : (r : Option (Bor (List ℕ))) (form : Form) (fault : Fault) → FirstWord r ws rest → first_letter r ≡ Some form → Err fault ≡ first_off form 0 rest → fault ≡ words_fault s ws
  unfolding words_fault
  words_off (Some w) form fault q e f = rw (q, e, ← f) refl
  words_off None form fault q e f = cc
