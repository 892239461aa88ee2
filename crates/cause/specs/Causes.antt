-- Why a line of a text is refused with 14, as docs/FORMAT.md tells it. Assumes nothing.
use Rattle.std.specs.Prelude.{ℕ, suc, ◌-◌, ⊤, Bool, cond, ◌&&◌, List, [], ◌∷◌, Option, Some, None, Result, Ok, Err, eqb, ltb, leb, length, get_or, slice_get}
use Rattle.std.specs.List.{list_any}
use Rattle.text.specs.Bytes.{same, cut_at, words, is_number, number_after, number_of}
use Rattle.text.specs.Program.{is_junction, is_cost}
use Rattle.reader.specs.declared.lists.Sizes.{Sizes}
use Rattle.reader.specs.declared.lists.State.{State}
use Rattle.cause.specs.declared.Form.{Form}
use Rattle.cause.specs.declared.Form.TheVariants.{Problem, Arc, Seat, Question}
use Rattle.cause.specs.declared.Want.{Want}
use Rattle.cause.specs.declared.Want.TheVariants as want
use Rattle.cause.specs.declared.Cause.{Cause}
use Rattle.cause.specs.declared.Cause.TheVariants as cause
use Rattle.cause.specs.declared.Fault.{Fault}

-- a cause that speaks of a word, counted from 1; of none
abbrev pub at : (word : ℕ) (cause : Cause) → Fault
at word c = record { cause = c; word = Some word }

abbrev pub whole : (cause : Cause) → Fault
whole c = record { cause = c; word = None }

-- ---- words

-- a number of one to nine digits, and not over `most`
unfoldable pub is_at_most : (most : ℕ) (word : List ℕ) → Bool
unfolding is_number number_after
is_at_most most word = is_number word && leb (number_of word) most

-- a word is what it must be: `sp`, at most 256 junctions, at most 1,024 arcs, a junction, a cost
abbrev pub meets : Want → (word : List ℕ) → Bool
meets want.Sp word = same word (115 ∷ 112 ∷ [])
meets want.Junctions word = is_at_most 256 word
meets want.Arcs word = is_at_most 1024 word
meets want.Junction word = is_junction word
meets want.Cost word = is_cost word

-- what stands behind the letter: `p sp n m`, `a tail head cost`, `o junction`, `q from to`
abbrev pub wants : Form → List Want
wants Problem = want.Sp ∷ want.Junctions ∷ want.Arcs ∷ []
wants Arc = want.Junction ∷ want.Junction ∷ want.Cost ∷ []
wants Seat = want.Junction ∷ []
wants Question = want.Junction ∷ want.Junction ∷ []

-- what the word number k behind the letter must be, from 0, or that none may stand there
abbrev pub want_at : Form → (k : ℕ) → Option Want
want_at form k = slice_get (wants form) k

-- what a word is refused for that is not what it must be
abbrev pub not_met : Want → Cause
not_met want.Sp = cause.NotSp
not_met want.Junctions = cause.NotJunctions
not_met want.Arcs = cause.NotArcs
not_met want.Junction = cause.NotJunction
not_met want.Cost = cause.NotCost

-- a word more is what is wanted there, and the words after it are; none is wanted
abbrev pub one_more : Form → (k : ℕ) → Option Want → (word : List ℕ) (after : Result ⊤ Fault) → Result ⊤ Fault
one_more form k (Some w) word after = cond (meets w word) after (Err (at (suc (suc k)) (not_met w)))
one_more form k None word after = Err (at (suc (suc k)) (cause.TooMany form))

-- no word is left: none is wanted, or there are too few
abbrev pub none_left : Form → Option Want → Result ⊤ Fault
none_left form (Some w) = Err (whole (cause.TooFew form))
none_left form None = Ok tt

-- the words behind the letter are gone through from the left, from number k on; the letter is word 1 of the line
unfoldable pub first_off : Form → (k : ℕ) (ws : List (List ℕ)) → Result ⊤ Fault
unfolding is_at_most is_junction is_cost same
first_off form k [] = none_left form (want_at form k)
first_off form k (w ∷ ws) = one_more form k (want_at form k) w (first_off form (suc k) ws)

-- the form that the first word names
unfoldable pub letter_of : (word : List ℕ) → Option Form
unfolding same
letter_of word =
    cond (same word (112 ∷ [])) (Some Problem)
    (cond (same word (97 ∷ [])) (Some Arc)
    (cond (same word (111 ∷ [])) (Some Seat)
    (cond (same word (113 ∷ [])) (Some Question)
    None)))

-- ---- the place among the lines

-- an arc behind `p`: one more than `p` says
abbrev pub arc_place : Sizes → Cause
arc_place p = cause.ArcTooMany p.arcs

-- an order entry behind `p`: before the last arc, or one more than `p` says
abbrev pub seat_place : State → Sizes → Cause
seat_place s p = cond (eqb s.listed p.arcs) (cause.SeatTooMany p.junctions) (cause.ArcsShort p.arcs s.listed)

-- a question behind `p`: before the last arc, before the last order entry, or one more than 64
abbrev pub question_place : State → Sizes → Cause
question_place s p =
    cond (eqb s.listed p.arcs)
    (cond (eqb s.seated p.junctions) cause.QuestionTooMany (cause.OrderShort p.junctions s.seated))
    (cause.ArcsShort p.arcs s.listed)

-- a line before `p`, or what it is behind it
abbrev pub behind_problem : Option Sizes → (Sizes → Cause) → Cause
behind_problem (Some p) by_sizes = by_sizes p
behind_problem None by_sizes = cause.BeforeProblem

abbrev pub place_fault : Form → State → Fault
place_fault Problem s = whole cause.SecondProblem
place_fault Arc s = whole (behind_problem s.sizes arc_place)
place_fault Seat s = whole (behind_problem s.sizes (seat_place s))
place_fault Question s = whole (behind_problem s.sizes (question_place s))

-- ---- a line

-- the words first, and the place if they are right
unfoldable pub words_fault : State → (ws : List (List ℕ)) → Fault
unfolding letter_of first_off
words_fault s [] = at 1 cause.Letter
words_fault s (w ∷ ws) = by_letter (letter_of w)
  where
    by_words : Form → Result ⊤ Fault → Fault
    by_words form (Ok t) = place_fault form s
    by_words form (Err fault) = fault

    by_letter : Option Form → Fault
    by_letter (Some form) = by_words form (first_off form 0 ws)
    by_letter None = at 1 cause.Letter

-- the three bytes EF BB BF at the start
unfoldable pub begins_with_mark : (line : List ℕ) → Bool
begins_with_mark line =
    leb 3 (length line) && eqb (get_or line 0 0) 239 && eqb (get_or line 1 0) 187 && eqb (get_or line 2 0) 191

-- CR at the end
unfoldable pub ends_in_cr : (line : List ℕ) → Bool
ends_in_cr line = leb 1 (length line) && eqb (get_or line (length line - 1) 0) 13

-- a byte stands in a line: cut there it has more parts than one
unfoldable pub holds : (byte : ℕ) (line : List ℕ) → Bool
unfolding cut_at
holds byte line = ltb 1 (length (cut_at byte line))

-- a word is empty: two spaces in a row, or one at an end
unfoldable pub any_empty : (ws : List (List ℕ)) → Bool
any_empty ws = list_any (λ w. eqb (length w) 0) ws

-- why a line that ends with LF is refused, after lines that say s
unfoldable pub line_fault : State → (line : List ℕ) → Fault
unfolding begins_with_mark ends_in_cr holds any_empty words_fault cut_at
line_fault s line =
    cond (begins_with_mark line) (whole cause.ByteOrderMark)
    (cond (ends_in_cr line) (whole cause.CarriageReturn)
    (cond (holds 9 line) (whole cause.Tab)
    (cond (eqb (length line) 0) (whole cause.Empty)
    (cond (any_empty (words line)) (whole cause.Spaces)
    (words_fault s (words line))))))

-- why a text may not end after lines that say s: `p`, an arc or an order entry is missing
abbrev pub end_fault : State → Fault
end_fault s = whole (by s.sizes)
  where
    by : Option Sizes → Cause
    by (Some p) = cond (eqb s.listed p.arcs) (cause.EndsInOrder p.junctions s.seated) (cause.EndsInArcs p.arcs s.listed)
    by None = cause.NoProblem
