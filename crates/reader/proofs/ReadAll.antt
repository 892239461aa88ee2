-- The reader, line after line, comes to what the definition reads. Assumes nothing.
use Rattle.std.proofs.Common.{ℕ, suc, ◌+◌, ◌≤◌, ◌<◌, ◌≡◌, refl, Bool, true, false, cond, List, [], ◌∷◌, Option, Some, None, Bor, length, take, arith, take_all, lt-ltb, ne_eqb}
use Rattle.std.specs.Slice.{IsGetRangeResult}
use Rattle.std.proofs.lemmas.Bool.{cond_both}
use Rattle.std.proofs.lemmas.Bool.Decides.{nat_tests}
use Rattle.text.specs.Bytes.{lf, cut_at, words, number_of}
use Rattle.text.specs.Program.{Line, other, word, line_of, is_comment, is_problem, is_arc, is_seat, is_question, ended_lines, lines_of, Read, breaks, fits, with, read_on, read_all}
use Rattle.text.specs.ReadBack.{PartEnd}
use Rattle.text.proofs.Cuts.{parts_behind}
use Rattle.text.proofs.LineOf.{some_part}
use Rattle.reader.specs.State.{LineFits}
use Rattle.reader.specs.ReadOn.{placed, unfit, placed_of}

-- ---- one line

module _ (bytes : List ℕ) (end : ℕ) (p : PartEnd bytes lf end) where
  -- the first line ends with LF
  pub line_here : (behind : Bor (List ℕ)) → IsGetRangeResult bytes (end + 1) (length bytes) (Some behind) → lines_of bytes ≡ line_of (words (take end bytes)) ∷ lines_of behind.now
  unfolding ended_lines
  line_here behind h =
      let (x, xs, e) = some_part lf behind.now in
      let c = parts_behind lf bytes end (Some behind) p h in
      rw (c, e) refl

  -- it has none
  pub line_unended : 0 < length bytes → IsGetRangeResult bytes (end + 1) (length bytes) None → lines_of bytes ≡ other ∷ []
  unfolding ended_lines
  line_unended some h =
      let c = parts_behind lf bytes end None p h in
      let t : take end bytes ≡ bytes = take_all end bytes (omega (arith, p.high, h.0)) in
      rw (c, t, ne_eqb (length bytes) 0 (λ q. omega arith)) refl

module _ (r : Read) (bytes : List ℕ) (l : Line) where
  -- the line is stored, and reading goes on behind it
  pub goes_on : (r' : Read) (ls : List Line) → lines_of bytes ≡ l ∷ ls → placed r' ≡ placed_of r l → (line : ℕ) → read_on r line (lines_of bytes) ≡ read_on r' (suc line) ls
  unfolding read_on
  goes_on r' ls e f line = rw e (by (fits r l) refl f)
    where
      by : (b : Bool) → fits r l ≡ b → placed r' ≡ cond b (placed (with r l)) unfit → cond (fits r l) (read_on (with r l) (suc line) ls) (breaks line) ≡ read_on r' (suc line) ls
      by true q f = let m : r' ≡ with r l = cc in rw (q, m) refl
      by false q f = cc

  -- it may not stand there
  pub stops : (ls : List Line) → lines_of bytes ≡ l ∷ ls → unfit ≡ placed_of r l → (line : ℕ) → read_on r line (lines_of bytes) ≡ breaks line
  unfolding read_on
  stops ls e f line = rw e (by (fits r l) refl f)
    where
      by : (b : Bool) → fits r l ≡ b → unfit ≡ cond b (placed (with r l)) unfit → cond (fits r l) (read_on (with r l) (suc line) ls) (breaks line) ≡ breaks line
      by true q f = cc
      by false q f = rw q refl

-- what is no line stops it
pub stops_other : (r : Read) (bytes : List ℕ) (ls : List Line) → lines_of bytes ≡ other ∷ ls → (line : ℕ) → read_on r line (lines_of bytes) ≡ breaks line
unfolding fits
stops_other r bytes ls e = stops r bytes other ls e refl

-- a line that the definition reads leaves what has been read its room
pub line_fits : (ws : List (List ℕ)) → LineFits (line_of ws)
unfolding line_of is_problem
line_fits ws =
    cond_both (is_comment ws) _ _ LineFits (λ e. tt)
    (λ n. cond_both (is_problem ws) _ _ LineFits small
    (λ n. cond_both (is_arc ws) _ _ LineFits (λ e. tt)
    (λ n. cond_both (is_seat ws) _ _ LineFits (λ e. tt)
    (λ n. cond_both (is_question ws) _ _ LineFits (λ e. tt) (λ n. tt)))))
  where
    small : is_problem ws ≡ true → (number_of (word ws 2) ≤ 256) × (number_of (word ws 3) ≤ 1024)
    small e = grind (arith, nat_tests)

-- what the next line comes to: it is not ended, or no line, or may not stand there, or reading goes on behind it
module _ (r : Read) (bytes : List ℕ) (end : ℕ) (p : PartEnd bytes lf end) where
  pub stops_unended : (get : Option (Bor (List ℕ))) → IsGetRangeResult bytes (end + 1) (length bytes) get → get ≡ None → 0 < length bytes → (line : ℕ) → read_on r line (lines_of bytes) ≡ breaks line
  stops_unended get h e some = stops_other r bytes [] (line_unended bytes end p some (rw e at h))

  module _ (behind : Bor (List ℕ)) (get : Option (Bor (List ℕ))) (h : IsGetRangeResult bytes (end + 1) (length bytes) get) (e : get ≡ Some behind) where
    pub stops_unread : other ≡ line_of (words (take end bytes)) → (line : ℕ) → read_on r line (lines_of bytes) ≡ breaks line
    stops_unread f = stops_other r bytes (lines_of behind.now) (rw f (line_here bytes end p behind (rw e at h)))

    pub stops_unfit : (l : Line) → l ≡ line_of (words (take end bytes)) → unfit ≡ placed_of r l → (line : ℕ) → read_on r line (lines_of bytes) ≡ breaks line
    stops_unfit l f g = stops r bytes l (lines_of behind.now) (rw f (line_here bytes end p behind (rw e at h))) g

    pub goes_behind : (l : Line) (r' : Read) → l ≡ line_of (words (take end bytes)) → placed r' ≡ placed_of r l → (line : ℕ) → read_on r line (lines_of bytes) ≡ read_on r' (suc line) (lines_of behind.now)
    goes_behind l r' f g = goes_on r bytes l r' (lines_of behind.now) (rw f (line_here bytes end p behind (rw e at h))) g

pub line_room : (l : Line) (ws : List (List ℕ)) → l ≡ line_of ws → LineFits l
line_room l ws e = rw e (line_fits ws)

-- behind the last byte no line is left
pub no_line_left : (rest : List ℕ) → length rest ≡ 0 → lines_of rest ≡ []
unfolding ended_lines cut_at
no_line_left [] e = refl
no_line_left (x ∷ xs) e = absurd (omega arith)

-- too long an input gives line 0
pub too_long : (l : List ℕ) → 65536 < length l → breaks 0 ≡ read_all l
unfolding read_all
too_long l long = rw (lt-ltb 65536 (length l) long) refl
