-- What the program's one function answers, as one definition of what it gets. Assumes nothing.
use Rattle.std.specs.Prelude.{ℕ, ⊤, Result, Ok, Err, ◌≤◌, ◌≡◌, List, ◌++◌, length}
use Rattle.rules.specs.declared.Refusal.{Refusal}
use Rattle.rules.specs.Replies.{refusal_number}
use Rattle.text.specs.Program.{answer, refused_line}

-- how many bytes the answer has, and the bytes
pub record AnswerLeaves : Type 0 where
  pub size : ℕ
  pub output : List ℕ

-- of a page that holds the answer
abbrev pub answer_left : List ℕ → AnswerLeaves
answer_left page = record { size = length page; output = page }

unfoldable pub answer_leaves : List ℕ → AnswerLeaves
unfolding answer
answer_leaves input = answer_left (answer input)

-- "Any earlier refusal prints only `refused N`": what a page holds with that line, if anything was refused
abbrev pub answered : Result ⊤ Refusal → List ℕ → List ℕ
answered (Ok done) page = page
answered (Err r) page = page ++ refused_line (refusal_number r)

-- lists of a text within its limits, as many questions' ends as starts
pub record Limits (tails froms tos : List ℕ) : Type 0 where
  pub arcs_fit : length tails ≤ 1024
  pub questions_fit : length froms ≤ 64
  pub ends_there : length tos ≡ length froms
