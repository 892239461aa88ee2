-- The whole answer, case by case: what the page holds is what the definition says. Assumes nothing.
use Rattle.std.specs.Bool.{⊤}
use Rattle.std.specs.Result.{IsErrAnd}
use Rattle.std.proofs.Common.{Result, Ok, Err}
use Prim.Native.Nat.{ℕ, suc, ◌+◌, ◌≤◌}
use mathlib.Core.Path.{◌≡◌, refl, sym, ap, ◌∙◌, subst}
use mathlib.Core.List.{List, [], ◌++◌}
use native.Mathlib.Omega.{arith}
use lib.ListN.{length, take, length-take}
use Rattle.rules.specs.declared.Refusal.{Refusal}
use Rattle.rules.specs.Replies.{refused, edges, done, refusal_number, refusal_place, build_reply, fill_reply}
use Rattle.rules.specs.Net.{Net, net}
use Rattle.rules.specs.Refusals.{passes}
use Rattle.rules.specs.Graph.{Graph, graph}
use Rattle.rules.specs.Hierarchy.{EdgeCosts, edge_costs}
use Rattle.rules.specs.Calls.{BuildLeaves, build_left, build_leaves, CustomiseLeaves, customise_left, customise_checks, customise_leaves}
use Rattle.theory.proofs.Demand3Holds.{stands, still_passes}
use Rattle.text.specs.Program.{edges_line, refused_line, reply_lines, noughts, read_all, answer, answer_read, answer_built, answer_customised}
use Rattle.text.proofs.Noughts.{in_noughts}
use Rattle.reader.specs.declared.Counts.{Counts}
use Rattle.reader.specs.declared.Breaks.{Breaks}
use Rattle.reader.specs.declared.lists.Lists.{Lists}
use Rattle.reader.specs.ReadOn.{reading_of}
use Rattle.reader.specs.State.{CountsWithin}
use Rattle.program.specs.Answered.{AnswerLeaves, answer_left, answer_leaves, answered}

-- ---- what was refused

-- a refusal that a call passes on
pub err_passed : {X : Type 0} (r : Result X Refusal) (q : Refusal) → IsErrAnd r (λ e. e ≡ q) → r ≡ Err q
err_passed (Ok x) q h = absurd h
err_passed (Err e) q h = ap (λ x. Err x) h

-- nothing is told but the refusal
pub refusal_told : (r : Result ⊤ Refusal) (q : Refusal) (page told : List ℕ) → r ≡ Err q → page ≡ [] → refused_line (refusal_number q) ≡ told → answered r page ≡ told
refusal_told r q page told e f h = rw (e, f) h

-- ---- once the graph has been built

module _ (N : Net) (b : BuildLeaves) (e : ℕ) (froms tos : List ℕ) (c : CustomiseLeaves) where
  pub customise_refused : (r : Result ⊤ Refusal) (q : Refusal) (C : EdgeCosts) → customise_left C (fill_reply r) ≡ c → r ≡ Err q
      → refused_line (refusal_number q) ≡ answer_customised N b e froms tos c
  unfolding answer_customised
  customise_refused r q C f g =
      let f' : customise_left C (refused (refusal_number q) (refusal_place q)) ≡ c = rw g at f in
      ap (λ x. answer_customised N b e froms tos x) f'

  pub customise_done : (r : Result ⊤ Refusal) (u : ⊤) (C : EdgeCosts) → customise_left C (fill_reply r) ≡ c → r ≡ Ok u
      → edges_line e ++ reply_lines N b.rank b.rows C froms tos ≡ answer_customised N b e froms tos c
  unfolding answer_customised
  customise_done r u C f g =
      let f' : customise_left C done ≡ c = rw g at f in
      ap (λ x. answer_customised N b e froms tos x) f'

-- customise accepts the lists that it left
pub done_passes : (N : Net) (rank : List ℕ) (G : Graph) (C₀ : EdgeCosts) (r : Result ⊤ Refusal) (u : ⊤) (C : EdgeCosts)
    → customise_left C (fill_reply r) ≡ customise_leaves N rank G C₀ → r ≡ Ok u
    → customise_checks N rank G C ≡ passes
done_passes N rank G C₀ r u C f g =
    let f' : customise_left C done ≡ customise_leaves N rank G C₀ = rw g at f in
    still_passes (stands N rank G C₀ C (sym f'))

-- ---- once the text has been read

module _ (N : Net) (froms tos : List ℕ) (b : BuildLeaves) where
  pub build_refused : (r : Result ℕ Refusal) (q : Refusal) (rank : List ℕ) (G : Graph) → build_left rank G (build_reply r) ≡ b → r ≡ Err q
      → refused_line (refusal_number q) ≡ answer_built N froms tos b
  unfolding answer_built
  build_refused r q rank G f g =
      let f' : build_left rank G (refused (refusal_number q) (refusal_place q)) ≡ b = rw g at f in
      ap (λ x. answer_built N froms tos x) f'

  pub build_told : (r : Result ℕ Refusal) (e : ℕ) (rank : List ℕ) (G : Graph) → build_left rank G (build_reply r) ≡ b → r ≡ Ok e
      → answer_customised N (build_left rank G (edges e)) e froms tos (customise_leaves N rank G (edge_costs (noughts 4096) (noughts 4096))) ≡ answer_built N froms tos b
  unfolding answer_built
  build_told r e rank G f g =
      let f' : build_left rank G (edges e) ≡ b = rw g at f in
      ap (λ x. answer_built N froms tos x) f'

-- in the rooms of a graph of n junctions
pub answered_in_noughts : (N : Net) (tails heads order froms tos told : List ℕ) → length order ≤ 256
    → told ≡ answer_built N froms tos (build_leaves tails heads order (take (length order) (noughts 256)) (graph (take (length order + 1) (noughts 257)) (noughts 4096)))
    → told ≡ answer_built N froms tos (build_leaves tails heads order (noughts (length order)) (graph (noughts (suc (length order))) (noughts 4096)))
answered_in_noughts N tails heads order froms tos told h w =
    in_noughts (λ rank G. told ≡ answer_built N froms tos (build_leaves tails heads order rank G)) (length order) h w

-- ---- the whole

-- a page with the answer is all that is left
pub answer_left_lem : (input page : List ℕ) → page ≡ answer input → answer_left page ≡ answer_leaves input
unfolding answer_leaves
answer_left_lem input page w = rw w refl

-- the promise allows one outcome
pub one_answer : (input page page' : List ℕ) → answer_left page ≡ answer_leaves input → answer_left page' ≡ answer_leaves input → page ≡ page'
one_answer input page page' e f = ap (λ (l : AnswerLeaves). l.output) (e ∙ sym f)

-- ---- what the reader answered

pub text_breaks : (input : List ℕ) (b : Breaks) (t : Lists) → reading_of (Err b) t ≡ read_all input → refused_line 14 ≡ answer input
unfolding answer answer_read
text_breaks input b t s = ap answer_read s

-- the answer is that to what was read
pub read_answered : (input : List ℕ) (r : Result Counts Breaks) (t : Lists) → reading_of r t ≡ read_all input → answer_read (reading_of r t) ≡ answer input
unfolding answer
read_answered input r t s = ap answer_read s

module _ (c : Counts) (t : Lists) (fit : CountsWithin c) (room : length t.order ≡ 256) where
  -- as many places as junctions
  order_long : length (take c.junctions t.order) ≡ c.junctions
  order_long = omega (arith, length-take c.junctions t.order, fit.junctions_fit)

  pub text_answered : (told : List ℕ)
      → told ≡ answer_built (net (take c.arcs t.tails) (take c.arcs t.heads) (take c.arcs t.costs) (take c.junctions t.order)) (take c.questions t.froms) (take c.questions t.tos) (build_leaves (take c.arcs t.tails) (take c.arcs t.heads) (take c.junctions t.order) (noughts (length (take c.junctions t.order))) (graph (noughts (suc (length (take c.junctions t.order)))) (noughts 4096)))
      → told ≡ answer_read (reading_of (Ok c) t)
  unfolding answer_read
  text_answered told w =
      subst (λ n. told ≡ answer_built (net (take c.arcs t.tails) (take c.arcs t.heads) (take c.arcs t.costs) (take c.junctions t.order)) (take c.questions t.froms) (take c.questions t.tos) (build_leaves (take c.arcs t.tails) (take c.arcs t.heads) (take c.junctions t.order) (noughts n) (graph (noughts (suc n)) (noughts 4096)))) order_long w
