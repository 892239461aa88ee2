-- "The program": what `route` reads and what it prints, as one function from the input's bytes to the output's bytes. Assumes nothing.
use Rattle.std.specs.Prelude.{ℕ, suc, ◌-◌, Bool, true, false, cond, not, ◌&&◌, ◌||◌, List, [], ◌∷◌, ◌++◌, map, eqb, ltb, leb, length, get_or, replicate, take}
use Rattle.rules.specs.Costs.{closed}
use Rattle.rules.specs.Replies.{Reply, refused, edges, done, far, drive, no_walk, looked}
use Rattle.rules.specs.Net.{Net, net}
use Rattle.rules.specs.Graph.{Graph, graph}
use Rattle.rules.specs.Hierarchy.{EdgeCosts, edge_costs}
use Rattle.rules.specs.Calls.{BuildLeaves, CustomiseLeaves, RouteLeaves, build_leaves, customise_leaves, route_leaves}
use Rattle.text.specs.Bytes.{lf, space, same, cut_at, words, is_number, number_after, number_of, decimal}

-- ---- a line

-- what a line says: "Lines whose first word is `c` are skipped. Then `p sp n m`, m lines `a tail head cost`, n lines `o junction`, any number
-- of `q from to`"; "any other line"
pub data Line : Type 0 where
  comment : Line
  problem : (junctions arcs : ℕ) → Line
  arc : (tail head cost : ℕ) → Line
  seat : (junction : ℕ) → Line
  question : (from to : ℕ) → Line
  other : Line

-- the k-th word, from 0
abbrev pub word : (ws : List (List ℕ)) (k : ℕ) → List ℕ
word ws k = get_or ws k []

-- "junctions from 1"; "a junction 0 .. is 14"
unfoldable pub is_junction : (w : List ℕ) → Bool
unfolding is_number number_after
is_junction w = is_number w && not (eqb (number_of w) 0)

-- "cost `-` is CLOSED"
unfoldable pub is_cost : (w : List ℕ) → Bool
unfolding is_number same
is_cost w = is_number w || same w (45 ∷ [])

unfoldable pub cost_of_word : (w : List ℕ) → ℕ
unfolding same number_after
cost_of_word w = cond (same w (45 ∷ [])) closed (number_of w)

-- a comment: "Lines whose first word is `c`"
unfoldable pub is_comment : (ws : List (List ℕ)) → Bool
unfolding same
is_comment ws = same (word ws 0) (99 ∷ [])

-- `p sp n m`; "Over 256 junctions, 1,024 arcs .. is 14"
unfoldable pub is_problem : (ws : List (List ℕ)) → Bool
unfolding same is_number number_after
is_problem ws =
    eqb (length ws) 4
    && same (word ws 0) (112 ∷ [])
    && same (word ws 1) (115 ∷ 112 ∷ [])
    && is_number (word ws 2)
    && is_number (word ws 3)
    && leb (number_of (word ws 2)) 256
    && leb (number_of (word ws 3)) 1024

-- `a tail head cost`
unfoldable pub is_arc : (ws : List (List ℕ)) → Bool
unfolding same is_junction is_cost
is_arc ws =
    eqb (length ws) 4
    && same (word ws 0) (97 ∷ [])
    && is_junction (word ws 1)
    && is_junction (word ws 2)
    && is_cost (word ws 3)

-- `o junction`
unfoldable pub is_seat : (ws : List (List ℕ)) → Bool
unfolding same is_junction
is_seat ws = eqb (length ws) 2 && same (word ws 0) (111 ∷ []) && is_junction (word ws 1)

-- `q from to`
unfoldable pub is_question : (ws : List (List ℕ)) → Bool
unfolding same is_junction
is_question ws =
    eqb (length ws) 3 && same (word ws 0) (113 ∷ []) && is_junction (word ws 1) && is_junction (word ws 2)

-- what the words of a line say; junctions are counted from 0 from here on
unfoldable pub line_of : (ws : List (List ℕ)) → Line
unfolding is_comment is_problem is_arc is_seat is_question cost_of_word number_after
line_of ws =
    cond (is_comment ws) comment
    (cond (is_problem ws) (problem (number_of (word ws 2)) (number_of (word ws 3)))
    (cond (is_arc ws) (arc (number_of (word ws 1) - 1) (number_of (word ws 2) - 1) (cost_of_word (word ws 3)))
    (cond (is_seat ws) (seat (number_of (word ws 1) - 1))
    (cond (is_question ws) (question (number_of (word ws 1) - 1) (number_of (word ws 2) - 1))
    other))))

-- ---- the lines

-- "lines ended by LF"; "a last line without LF is 14": what stands after the last LF, if anything does, is no line that may stand there
unfoldable pub ended_lines : (texts : List (List ℕ)) → List Line
unfolding line_of
ended_lines [] = []
ended_lines (text ∷ []) = cond (eqb (length text) 0) [] (other ∷ [])
ended_lines (text ∷ next ∷ rest) = line_of (words text) ∷ ended_lines (next ∷ rest)

abbrev pub lines_of : (input : List ℕ) → List Line
lines_of input = ended_lines (cut_at lf input)

-- what has been read so far
pub record Read : Type 0 where
  pub started : Bool
  pub junctions : ℕ
  pub arcs : ℕ
  pub tails : List ℕ
  pub heads : List ℕ
  pub costs : List ℕ
  pub order : List ℕ
  pub froms : List ℕ
  pub tos : List ℕ

abbrev pub nothing_read : Read
nothing_read =
    record { started = false; junctions = 0; arcs = 0; tails = []; heads = []; costs = []; order = []; froms = []; tos = [] }

-- what reading comes to: the text, or the line that breaks its rules
pub data Reading : Type 0 where
  text : Read → Reading
  breaks : (line : ℕ) → Reading

-- whether the line may stand where it does: `p` first, then m `a`, then n `o`, then at most 64 `q`
unfoldable pub fits : Read → Line → Bool
fits r comment = true
fits r (problem n m) = not r.started
fits r (arc t h c) = r.started && ltb (length r.tails) r.arcs
fits r (seat j) = r.started && eqb (length r.tails) r.arcs && ltb (length r.order) r.junctions
fits r (question u v) =
    r.started
    && eqb (length r.tails) r.arcs
    && eqb (length r.order) r.junctions
    && ltb (length r.froms) 64
fits r other = false

-- what has been read with one line more
unfoldable pub with : Read → Line → Read
with r comment = r
with r (problem n m) =
    record { started = true; junctions = n; arcs = m; tails = []; heads = []; costs = []; order = []; froms = []; tos = [] }
with r (arc t h c) =
    record {
      started = r.started;
      junctions = r.junctions;
      arcs = r.arcs;
      tails = r.tails ++ (t ∷ []);
      heads = r.heads ++ (h ∷ []);
      costs = r.costs ++ (c ∷ []);
      order = r.order;
      froms = r.froms;
      tos = r.tos;
    }
with r (seat j) =
    record {
      started = r.started;
      junctions = r.junctions;
      arcs = r.arcs;
      tails = r.tails;
      heads = r.heads;
      costs = r.costs;
      order = r.order ++ (j ∷ []);
      froms = r.froms;
      tos = r.tos;
    }
with r (question u v) =
    record {
      started = r.started;
      junctions = r.junctions;
      arcs = r.arcs;
      tails = r.tails;
      heads = r.heads;
      costs = r.costs;
      order = r.order;
      froms = r.froms ++ (u ∷ []);
      tos = r.tos ++ (v ∷ []);
    }
with r other = r

-- nothing is missing: `p`, all arcs and the whole order have been read
unfoldable pub whole : Read → Bool
whole r = r.started && eqb (length r.tails) r.arcs && eqb (length r.order) r.junctions

-- "Lines count from 1"; "one that ends early the line after its last": reading on from line k
unfoldable pub read_on : (r : Read) (k : ℕ) (lines : List Line) → Reading
unfolding fits with whole
read_on r k [] = cond (whole r) (text r) (breaks k)
read_on r k (l ∷ ls) = cond (fits r l) (read_on (with r l) (suc k) ls) (breaks k)

-- "Over .. 65,536 bytes .. is 14"; "too long an input gives line 0"
unfoldable pub read_all : (input : List ℕ) → Reading
unfolding read_on ended_lines cut_at
read_all input = cond (ltb 65536 (length input)) (breaks 0) (read_on nothing_read 1 (lines_of input))

-- ---- the answer

-- `edges E`, LF
unfoldable pub edges_line : (e : ℕ) → List ℕ
unfolding decimal
edges_line e = (101 ∷ 100 ∷ 103 ∷ 101 ∷ 115 ∷ space ∷ []) ++ decimal e ++ (lf ∷ [])

-- `refused N`, LF
unfoldable pub refused_line : (n : ℕ) → List ℕ
unfolding decimal
refused_line n = (114 ∷ 101 ∷ 102 ∷ 117 ∷ 115 ∷ 101 ∷ 100 ∷ space ∷ []) ++ decimal n ++ (lf ∷ [])

-- numbers, each after a space
unfoldable pub spaced : (numbers : List ℕ) → List ℕ
unfolding decimal
spaced [] = []
spaced (x ∷ xs) = (space ∷ []) ++ decimal x ++ spaced xs

-- "from, to, distance, number of arcs, arc numbers counted from 1. No walk: `from to none`. A refused question: `from to refused N`"
unfoldable pub reply_line : (from to : ℕ) (left : RouteLeaves) → List ℕ
unfolding decimal spaced refused_line
reply_line from to left = decimal (suc from) ++ spaced (suc to ∷ []) ++ ending left.reply
  where
    ending : Reply → List ℕ
    ending (drive d k) = spaced (d ∷ k ∷ map suc (take k left.route)) ++ (lf ∷ [])
    ending no_walk = (space ∷ 110 ∷ 111 ∷ 110 ∷ 101 ∷ lf ∷ [])
    ending (refused n p) = (space ∷ []) ++ refused_line n
    ending (edges e) = lf ∷ []
    ending done = lf ∷ []
    ending (far d) = lf ∷ []
    ending (looked t) = lf ∷ []

-- "Heads room is 4,096, route room 256"; up and down have as many places as heads
abbrev pub noughts : (n : ℕ) → List ℕ
noughts n = replicate n 0

-- "Then per question", each asked of the same lists
unfoldable pub reply_lines : (N : Net) (rank : List ℕ) (G : Graph) (C : EdgeCosts) (froms tos : List ℕ) → List ℕ
unfolding reply_line route_leaves
reply_lines N rank G C [] tos = []
reply_lines N rank G C (u ∷ us) [] = []
reply_lines N rank G C (u ∷ us) (v ∷ vs) =
    reply_line u v (route_leaves N rank G C u v (noughts 256)) ++ reply_lines N rank G C us vs

-- "First line: E. Then per question"; "Any earlier refusal prints only `refused N`": once the graph has been customised
unfoldable pub answer_customised : (N : Net) (b : BuildLeaves) (e : ℕ) (froms tos : List ℕ) (c : CustomiseLeaves) → List ℕ
unfolding edges_line refused_line reply_lines
answer_customised N b e froms tos c = ending c.reply
  where
    ending : Reply → List ℕ
    ending done = edges_line e ++ reply_lines N b.rank b.rows c.costs froms tos
    ending (refused n p) = refused_line n
    ending (edges k) = []
    ending (far d) = []
    ending (drive d k) = []
    ending no_walk = []
    ending (looked t) = []

-- once the graph has been built
unfoldable pub answer_built : (N : Net) (froms tos : List ℕ) (b : BuildLeaves) → List ℕ
unfolding answer_customised refused_line customise_leaves
answer_built N froms tos b = ending b.reply
  where
    ending : Reply → List ℕ
    ending (edges e) =
        answer_customised N b e froms tos (customise_leaves N b.rank b.rows (edge_costs (noughts 4096) (noughts 4096)))
    ending (refused n p) = refused_line n
    ending done = []
    ending (far d) = []
    ending (drive d k) = []
    ending no_walk = []
    ending (looked t) = []

unfoldable pub answer_read : Reading → List ℕ
unfolding answer_built refused_line build_leaves
answer_read (breaks line) = refused_line 14
answer_read (text r) =
    answer_built (net r.tails r.heads r.costs r.order) r.froms r.tos
    (build_leaves r.tails r.heads r.order (noughts r.junctions) (graph (noughts (suc r.junctions)) (noughts 4096)))

-- the whole answer
unfoldable pub answer : (input : List ℕ) → List ℕ
unfolding read_all answer_read
answer input = answer_read (read_all input)
