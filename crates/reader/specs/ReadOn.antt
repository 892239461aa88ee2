-- What the reader has read, in the words of the definition. Assumes nothing.
use Rattle.std.proofs.Common.{Bor}
use Rattle.std.specs.Prelude.{ℕ, suc, ◌<◌, ◌≡◌, true, cond, List, Option, Some, None, Result, Ok, Err, is_some, length, take}
use Rattle.reader.specs.declared.lists.Lists.{Lists}
use Rattle.reader.specs.declared.Counts.{Counts}
use Rattle.reader.specs.declared.Breaks.{Breaks}
use Rattle.reader.specs.State.{junctions_told, arcs_told}
use Rattle.text.specs.Program.{Line, lines_of, Read, Reading, text, breaks, fits, with, read_on}

-- ---- the lists

-- what has been read so far stands at the beginning of each list
abbrev pub so_far : Lists → Read
so_far t =
    record {
      started = is_some t.state.sizes;
      junctions = junctions_told t.state.sizes;
      arcs = arcs_told t.state.sizes;
      tails = take t.state.listed t.tails;
      heads = take t.state.listed t.heads;
      costs = take t.state.listed t.costs;
      order = take t.state.seated t.order;
      froms = take t.state.asked t.froms;
      tos = take t.state.asked t.tos;
    }

-- what one line more comes to: it may not stand there, or what has been read then
pub data Placed : Type 0 where
  placed : Read → Placed
  unfit : Placed

abbrev pub placed_of : Read → Line → Placed
placed_of r l = cond (fits r l) (placed (with r l)) unfit

abbrev pub step_back : {A : Type 0} (step : Option A) (t : Lists) → Placed
step_back (Some x) t = placed (so_far t)
step_back None t = unfit

-- reading goes on behind a line with what was read by then, or stops at that line
pub record Behind (bytes : List ℕ) (t : Lists) (rest : List ℕ) (t' : Lists) : Type 0 where
  pub shorter : length rest < length bytes
  pub says : (line : ℕ) → read_on (so_far t) line (lines_of bytes) ≡ read_on (so_far t') (suc line) (lines_of rest)

abbrev pub Onwards : (bytes : List ℕ) (t : Lists) (onward : Option (Bor (List ℕ))) (t' : Lists) → Type 0
Onwards bytes t (Some rest) t' = Behind bytes t rest.now t'
Onwards bytes t None t' = (line : ℕ) → read_on (so_far t) line (lines_of bytes) ≡ breaks line

-- ---- the end

-- what the reader answers, with the lists as it leaves them, in the words of the definition
abbrev pub reading_of : (reading : Result Counts Breaks) (t : Lists) → Reading
reading_of (Ok c) t =
    text (record {
      started = true;
      junctions = c.junctions;
      arcs = c.arcs;
      tails = take c.arcs t.tails;
      heads = take c.arcs t.heads;
      costs = take c.arcs t.costs;
      order = take c.junctions t.order;
      froms = take c.questions t.froms;
      tos = take c.questions t.tos;
    })
reading_of (Err b) t = breaks b.line
