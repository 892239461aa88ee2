-- What the reader's answers say in the words of the definition. Assumes nothing.
use Rattle.std.proofs.Common.{Bor}
use Rattle.std.specs.Prelude.{ℕ, suc, ◌-◌, ◌≤◌, Bool, cond, ◌&&◌, List, [], ◌∷◌, ◌≡◌, Option, Some, None, eqb, ltb, leb, length, get_or, take, drop}
use Rattle.text.specs.declared.Parts.{Parts}
use Rattle.text.specs.declared.Line.{Line as LineRead}
use Rattle.text.specs.declared.Line.TheVariants.{Comment, Problem, Arc, Seat, Question}
use Rattle.text.specs.Bytes.{same, cut_at, is_number, number_after, number_of}
use Rattle.text.specs.Program.{Line, comment, problem, arc, seat, question, other, is_junction, is_cost, cost_of_word}

-- ---- parts and words

-- the parts that follow a part which ends at `at`
unfoldable pub parts_after : (mark : ℕ) (bytes : List ℕ) (at : ℕ) → List (List ℕ)
unfolding cut_at
parts_after mark bytes at = cond (ltb at (length bytes)) (cut_at mark (drop (suc at) bytes)) []

-- some bytes begin with a part that ends at `at`
pub record PartEnd (bytes : List ℕ) (mark at : ℕ) : Type 0 where
  pub high : at ≤ length bytes
  pub cut : cut_at mark bytes ≡ take at bytes ∷ parts_after mark bytes at

-- the parts that are still to be read
abbrev pub parts_left : Parts → List (List ℕ)
parts_left p = left p.rest
  where
    left : Option (Bor (List ℕ)) → List (List ℕ)
    left (Some bytes) = cut_at p.mark bytes.now
    left None = []

-- ---- what a word says

abbrev pub said_if : (test : Bool) (x : ℕ) → Option ℕ
said_if test x = cond test (Some x) None

unfoldable pub number_said : (word : List ℕ) → Option ℕ
unfolding is_number number_after
number_said word = said_if (is_number word) (number_of word)

unfoldable pub letter_said : (word : List ℕ) → Option ℕ
letter_said word = said_if (eqb (length word) 1) (get_or word 0 0)

unfoldable pub sp_said : (word : List ℕ) → Option ℕ
unfolding same
sp_said word = said_if (same word (115 ∷ 112 ∷ [])) 0

unfoldable pub junction_said : (word : List ℕ) → Option ℕ
unfolding is_junction number_after
junction_said word = said_if (is_junction word) (number_of word - 1)

unfoldable pub cost_said : (word : List ℕ) → Option ℕ
unfolding is_cost cost_of_word
cost_said word = said_if (is_cost word) (cost_of_word word)

-- the first of some words, by what it says, and the words after it
pub data FirstWord : Type 0 where
  first : (x : ℕ) (rest : List (List ℕ)) → FirstWord
  nothing : FirstWord

abbrev pub first_said : (value : Option ℕ) (rest : List (List ℕ)) → FirstWord
first_said (Some x) rest = first x rest
first_said None rest = nothing

abbrev pub taken_from : (said : List ℕ → Option ℕ) (ws : List (List ℕ)) → FirstWord
taken_from said [] = nothing
taken_from said (word ∷ rest) = first_said (said word) rest

-- ---- what a line says, by the words after its first

abbrev pub line_back : Option LineRead → Line
line_back (Some Comment) = comment
line_back (Some (Problem n m)) = problem n m
line_back (Some (Arc t h c)) = arc t.0 h.0 c.0
line_back (Some (Seat j)) = seat j.0
line_back (Some (Question u v)) = question u.0 v.0
line_back None = other

-- a line that has no word more
abbrev pub last : (line : Line) (ws : List (List ℕ)) → Line
last l [] = l
last l (w ∷ ws) = other

-- the next word, or another line
abbrev pub next : (word : FirstWord) (rest : ℕ → List (List ℕ) → Line) → Line
next (first x rest) f = f x rest
next nothing f = other

unfoldable pub problem_said : (ws : List (List ℕ)) → Line
unfolding sp_said number_said
problem_said ws =
    next (taken_from sp_said ws) λ s ws. next (taken_from number_said ws) λ n ws. next (taken_from number_said ws) λ m ws.
    last (cond (leb n 256 && leb m 1024) (problem n m) other) ws

unfoldable pub arc_said : (ws : List (List ℕ)) → Line
unfolding junction_said cost_said
arc_said ws =
    next (taken_from junction_said ws) λ t ws. next (taken_from junction_said ws) λ h ws. next (taken_from cost_said ws) λ c ws.
    last (arc t h c) ws

unfoldable pub seat_said : (ws : List (List ℕ)) → Line
unfolding junction_said
seat_said ws = next (taken_from junction_said ws) λ j ws. last (seat j) ws

unfoldable pub question_said : (ws : List (List ℕ)) → Line
unfolding junction_said
question_said ws =
    next (taken_from junction_said ws) λ u ws. next (taken_from junction_said ws) λ v ws. last (question u v) ws
