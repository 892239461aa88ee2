-- Where a text is refused, by which number and why, as docs/FORMAT.md tells it. Assumes nothing.
use Rattle.std.specs.Prelude.{ℕ, suc, ◌≤◌, ◌≡◌, ⊤, Bool, true, false, cond, List, [], ◌∷◌, ◌++◌, Some, Result, Ok, Err, eqb, ltb, length}
use Rattle.rules.specs.Replies.{refusal_number, Reply, refused, edges, done, far, drive, no_walk, looked}
use Rattle.rules.specs.Net.{Net, net}
use Rattle.rules.specs.Graph.{Graph, graph}
use Rattle.rules.specs.Hierarchy.{edge_costs}
use Rattle.rules.specs.Calls.{BuildLeaves, build_leaves, customise_leaves}
use Rattle.text.specs.Bytes.{lf, cut_at, words}
use Rattle.text.specs.Program
use Rattle.text.specs.Program.{Line, comment, problem, arc, seat, question, other, line_of, text, breaks, read_all, edges_line, refused_line, noughts, answer}
use Rattle.reader.specs.declared.lists.State.{State}
use Rattle.reader.specs.State.{nothing_yet, junctions_told}
use Rattle.cause.specs.declared.Cause.{Cause}
use Rattle.cause.specs.declared.Cause.TheVariants as cause
use Rattle.cause.specs.declared.Fault.{Fault}
use Rattle.cause.specs.Causes.{at, whole, line_fault, end_fault}
use Rattle.fault.specs.declared.Sought.{Sought}
use Rattle.fault.specs.declared.Sought.TheVariants as sought
use Rattle.fault.specs.declared.Spot.{Spot}
use Rattle.fault.specs.declared.Wrong.{Wrong}

-- ---- the lines before one

-- `p` tells how many junctions and arcs there are; an arc, an order entry and a question are one more
abbrev pub counted : State → Line → State
counted s comment = s
counted s (problem n m) =
    record {
      sizes = Some (record { junctions = n; arcs = m });
      listed = s.listed;
      seated = s.seated;
      asked = s.asked;
    }
counted s (arc t h c) = record { sizes = s.sizes; listed = suc s.listed; seated = s.seated; asked = s.asked }
counted s (seat j) = record { sizes = s.sizes; listed = s.listed; seated = suc s.seated; asked = s.asked }
counted s (question u v) = record { sizes = s.sizes; listed = s.listed; seated = s.seated; asked = suc s.asked }
counted s other = s

-- so few lines of each form that they can be counted
pub record Few (s : State) (most : ℕ) : Type 0 where
  pub arcs_few : s.listed ≤ most
  pub seats_few : s.seated ≤ most
  pub questions_few : s.asked ≤ most

-- ---- the line that is looked for

-- the line of a number; that of `p`; that of the arc, or of the order entry, before which there are k
abbrev pub is_sought : Sought → (before : State) (number : ℕ) → Line → Bool
is_sought (sought.Line k) s number line = eqb number k
is_sought sought.Problem s number (problem n m) = true
is_sought (sought.Arc k) s number (arc t h c) = eqb s.listed k
is_sought (sought.Seat k) s number (seat j) = eqb s.seated k
is_sought what s number line = false

-- a line: its number, its text, whether LF ends it, and what the lines before it say
pub record Place : Type 0 where
  pub number : ℕ
  pub bytes : List ℕ
  pub ended : Bool
  pub before : State

abbrev pub place : (number : ℕ) (line : List ℕ) (ended : Bool) (before : State) → Place
place number line ended s = record { number = number; bytes = line; ended = ended; before = s }

-- the first line that is looked for; else what stands behind the last LF
unfoldable pub seek : Sought → (before : State) (number : ℕ) (parts : List (List ℕ)) → Place
unfolding line_of cut_at
seek what s number [] = place number [] false s
seek what s number (line ∷ []) = place number line false s
seek what s number (line ∷ next ∷ rest) =
    cond (is_sought what s number (line_of (words line))) (place number line true s)
    (seek what (counted s (line_of (words line))) (suc number) (next ∷ rest))

unfoldable pub place_of : Sought → (input : List ℕ) → Place
unfolding seek cut_at
place_of what input = seek what nothing_yet 1 (cut_at lf input)

-- the line of a number
abbrev pub numbered : (number : ℕ) (input : List ℕ) → Place
numbered number input = place_of (sought.Line number) input

-- a place as the code has it
abbrev pub place_back : Spot → Place
place_back spot = place spot.number spot.bytes.now spot.ended spot.before

-- ---- why

-- 14: a line that breaks the rules; the text's end; a last line without LF
unfoldable pub broken_at : Place → Fault
unfolding line_fault
broken_at there =
    cond there.ended (line_fault there.before there.bytes)
    (cond (eqb (length there.bytes) 0) (end_fault there.before) (whole cause.Unended))

-- a refusal of build or customise stands at `p` for 1, at an order entry for 4, at the first for 6, else at an arc
abbrev pub sought_by : (number place : ℕ) → Sought
sought_by number p =
    cond (eqb number 1) sought.Problem
    (cond (eqb number 4) (sought.Seat p)
    (cond (eqb number 6) (sought.Seat 0)
    (sought.Arc p)))

-- the first junction that a line names, 0 if it names none
abbrev pub first_junction : Line → ℕ
first_junction comment = 0
first_junction (problem n m) = 0
first_junction (arc t h c) = t
first_junction (seat j) = j
first_junction (question u v) = u
first_junction other = 0

-- 3: the arc's tail is no junction, or else its head
abbrev pub end_word : (tail junctions : ℕ) → ℕ
end_word tail n = cond (ltb tail n) 3 2

-- 4: a junction that stands there a second time, or none
abbrev pub seat_cause : (junction junctions : ℕ) → Cause
seat_cause j n = cond (ltb j n) cause.SeatTwice (cause.SeatOver n)

abbrev pub net_fault : (number junctions : ℕ) → Line → Fault
net_fault number n line =
    cond (eqb number 1) (at 3 cause.NoJunction)
    (cond (eqb number 3) (at (end_word (first_junction line) n) (cause.EndOver n))
    (cond (eqb number 4) (at 2 (seat_cause (first_junction line) n))
    (cond (eqb number 6) (whole cause.EdgesOver)
    (cond (eqb number 9) (at 4 cause.NotCost)
    (whole cause.Elsewhere)))))

-- what a line says, if LF ends it
abbrev pub line_there : Place → Line
line_there there = cond there.ended (line_of (words there.bytes)) other

-- what is wrong with a text: nothing, or a line, the refusal's number and the cause
pub data Verdict : Type 0 where
  keeps : Verdict
  wrong : (line number : ℕ) (fault : Fault) → Verdict

-- a verdict as the code has it
abbrev pub told : Result ⊤ Wrong → Verdict
told (Ok t) = keeps
told (Err w) = wrong w.line (refusal_number w.refusal) w.fault

abbrev pub refused_at : (number : ℕ) → Place → Verdict
refused_at number there = wrong there.number number (net_fault number (junctions_told there.before.sizes) (line_there there))

-- ---- the net

-- what customise replies, and build before it, in the rooms of the program
unfoldable pub cost_reply : (N : Net) (rank : List ℕ) (G : Graph) → Reply
unfolding customise_leaves
cost_reply N rank G = (customise_leaves N rank G (edge_costs (noughts 4096) (noughts 4096))).reply

unfoldable pub built_reply : (N : Net) → BuildLeaves → Reply
unfolding cost_reply
built_reply N b = by b.reply
  where
    by : Reply → Reply
    by (edges e) = cost_reply N b.rank b.rows
    by (refused n p) = refused n p
    by done = done
    by (far d) = far d
    by (drive d k) = drive d k
    by no_walk = no_walk
    by (looked t) = looked t

-- n junctions, as `answer_read` asks of them
unfoldable pub net_reply : (n : ℕ) (N : Net) → Reply
unfolding built_reply build_leaves
net_reply n N =
    built_reply N
    (build_leaves N.tails N.heads N.order (noughts n) (graph (noughts (suc n)) (noughts 4096)))

-- ---- the whole text

unfoldable pub judged : (input : List ℕ) → Reply → Verdict
unfolding place_of
judged input (refused number p) = refused_at number (place_of (sought_by number p) input)
judged input (edges e) = keeps
judged input done = keeps
judged input (far d) = keeps
judged input (drive d k) = keeps
judged input no_walk = keeps
judged input (looked t) = keeps

-- 14 where reading breaks off, else what build or customise refuses, else nothing
unfoldable pub verdict_read : (input : List ℕ) → Program.Reading → Verdict
unfolding broken_at place_of judged net_reply
verdict_read input (breaks line) = wrong line 14 (broken_at (numbered line input))
verdict_read input (text r) = judged input (net_reply r.junctions (net r.tails r.heads r.costs r.order))

-- too long a text is refused at line 0
unfoldable pub verdict : (input : List ℕ) → Verdict
unfolding read_all verdict_read
verdict input = cond (ltb 65536 (length input)) (wrong 0 14 (whole cause.TooLong)) (verdict_read input (read_all input))

-- ---- the two programs

-- what is told of a text, beside what `route` answers: `refused N` with the same number, or the number of edges first
abbrev pub Alike : Verdict → (answer : List ℕ) → Type 0
Alike keeps answer = (e : ℕ) × (rest : List ℕ) × (answer ≡ edges_line e ++ rest)
Alike (wrong line number fault) answer = answer ≡ refused_line number

abbrev pub ToldAsAnswered : Type 0
ToldAsAnswered = (input : List ℕ) → Alike (verdict input) (answer input)
