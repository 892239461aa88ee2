-- What build and customise reply to the net of a text, case by case. Assumes nothing.
use Rattle.std.proofs.Common.{ℕ, ◌≤◌, ◌<◌, ◌≡◌, refl, subst, ◌∙◌, List, Result, Ok, Err, length, lt-ltb, le-ltb}
use Rattle.std.specs.Prelude.{⊤}
use Rattle.rules.specs.declared.Refusal.{Refusal}
use Rattle.rules.specs.Replies.{Reply, refusal_number, refusal_place, build_reply, fill_reply}
use Rattle.rules.specs.Net.{Net, net}
use Rattle.rules.specs.Graph.{Graph}
use Rattle.rules.specs.Calls.{BuildLeaves, build_left}
use Rattle.text.specs.Program.{Read, text, breaks, read_all}
use Rattle.cause.specs.declared.Cause.TheVariants as cause
use Rattle.cause.specs.Causes.{whole}
use Rattle.fault.specs.Faults.{place_of, numbered, broken_at, sought_by, Verdict, keeps, wrong, refused_at, cost_reply, built_reply, net_reply, judged, verdict_read, verdict}

module _ (N : Net) (b : BuildLeaves) (rank : List ℕ) (G : Graph) where
  -- build refuses
  pub build_refused : (q : Refusal) → build_left rank G (build_reply (Err q)) ≡ b → fill_reply (Err q) ≡ built_reply N b
  unfolding built_reply
  build_refused q f = subst (λ x. fill_reply (Err q) ≡ built_reply N x) f refl

  -- customise is asked
  pub build_told : (e : ℕ) (told : Reply) → build_left rank G (build_reply (Ok e)) ≡ b → told ≡ cost_reply N rank G → told ≡ built_reply N b
  unfolding built_reply
  build_told e told f h = subst (λ x. told ≡ built_reply N x) f h

-- ---- what the text comes to

-- a net that is taken, or refused at a line
abbrev pub net_told : (input : List ℕ) → Result ⊤ Refusal → Verdict
net_told input (Ok t) = keeps
net_told input (Err q) = refused_at (refusal_number q) (place_of (sought_by (refusal_number q) (refusal_place q)) input)

pub judged_lem : (input : List ℕ) (r : Result ⊤ Refusal) (reply : Reply) → fill_reply r ≡ reply → net_told input r ≡ judged input reply
unfolding judged
judged_lem input (Ok t) reply e = subst (λ x. keeps ≡ judged input x) e refl
judged_lem input (Err q) reply e = subst (λ x. net_told input (Err q) ≡ judged input x) e refl

-- the text is too long
pub verdict_long : (input : List ℕ) → 65536 < length input → wrong 0 14 (whole cause.TooLong) ≡ verdict input
unfolding verdict
verdict_long input h = rw (lt-ltb 65536 (length input) h) refl

module _ (input : List ℕ) (short : length input ≤ 65536) where
  verdict_short : verdict_read input (read_all input) ≡ verdict input
  unfolding verdict
  verdict_short = rw (le-ltb 65536 (length input) short) refl

  -- it breaks the rules
  pub verdict_breaks : (line : ℕ) → breaks line ≡ read_all input → wrong line 14 (broken_at (numbered line input)) ≡ verdict input
  unfolding verdict_read
  verdict_breaks line e = subst (λ x. wrong line 14 (broken_at (numbered line input)) ≡ verdict_read input x) e refl ∙ verdict_short

  -- it is read
  pub verdict_text : (r : Read) → text r ≡ read_all input → judged input (net_reply r.junctions (net r.tails r.heads r.costs r.order)) ≡ verdict input
  unfolding verdict_read
  verdict_text r e =
      subst (λ x. judged input (net_reply r.junctions (net r.tails r.heads r.costs r.order)) ≡ verdict_read input x) e refl
      ∙ verdict_short
