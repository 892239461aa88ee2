-- The number that is told of a text is the one that `route` prints, and a text that keeps the rules is answered. Assumes nothing.
use Prim.Native.Nat.{ℕ, suc, ◌-◌}
use mathlib.Core.Path.{◌≡◌, refl, sym, ap, subst}
use mathlib.Core.Bool.{Bool, true, false, cond}
use mathlib.Core.List.{List, [], ◌++◌}
use lib.Dec.{ltb}
use lib.ListN.{length, replicate}
use borrow.Author.Tests.{ltb-true}
use Rattle.rules.specs.Net.{Net, net, rank_list}
use Rattle.rules.specs.Graph.{Graph, graph, first_list, heads_list, edge_count}
use Rattle.rules.specs.Hierarchy.{EdgeCosts, edge_costs}
use Rattle.rules.specs.Replies.{edges, done}
use Rattle.rules.specs.Refusals.{Verdict, passes, fails, check6}
use Rattle.rules.specs.Calls.{unless, BuildLeaves, build_left, build_checks, build_leaves, customise_left, customised_costs, customise_checks, customise_leaves}
use Rattle.text.specs.Program
use Rattle.text.specs.Program.{text, breaks, reply_lines, noughts, answer, answer_read, answer_built, answer_customised, read_all}
use Rattle.reader.proofs.ReadAll.{too_long}
use Rattle.cause.specs.declared.Cause.TheVariants as cause
use Rattle.cause.specs.Causes.{whole}
use Rattle.fault.specs.Faults as Told
use Rattle.fault.specs.Faults.{wrong, cost_reply, built_reply, net_reply, judged, verdict_read, verdict, Alike, ToldAsAnswered}

module _ (input : List ℕ) (N : Net) (froms tos : List ℕ) where
  -- customise takes the costs, or refuses
  by_costs : (v : Verdict) (b : BuildLeaves) (e : ℕ) (before after : EdgeCosts)
      → let c = unless v (customise_left before) (customise_left after done) in
      Alike (judged input c.reply) (answer_customised N b e froms tos c)
  unfolding judged answer_customised
  by_costs passes b e before after = (e, reply_lines N b.rank b.rows after froms tos, refl)
  by_costs (fails k p) b e before after = refl

  alike_costs : (rank : List ℕ) (G : Graph) (e : ℕ) → Alike (judged input (cost_reply N rank G)) (answer_customised N (build_left rank G (edges e)) e froms tos (customise_leaves N rank G (edge_costs (noughts 4096) (noughts 4096))))
  unfolding cost_reply customise_leaves
  alike_costs rank G e =
      let C = edge_costs (noughts 4096) (noughts 4096) in
      by_costs (customise_checks N rank G C) (build_left rank G (edges e)) e C (customised_costs N G C)

  -- build takes the roads, or refuses, by its checks or by 6
  by_rows : (v w : Verdict) (rank rank' rank'' : List ℕ) (G G' G'' : Graph) (e : ℕ)
      → let b = unless v (build_left rank G) (unless w (build_left rank' G') (build_left rank'' G'' (edges e))) in
      Alike (judged input (built_reply N b)) (answer_built N froms tos b)
  unfolding judged built_reply answer_built
  by_rows passes passes rank rank' rank'' G G' G'' e = alike_costs rank'' G'' e
  by_rows passes (fails k p) rank rank' rank'' G G' G'' e = refl
  by_rows (fails k p) w rank rank' rank'' G G' G'' e = refl

  alike_net : (n : ℕ) → Alike (judged input (net_reply n N)) (answer_built N froms tos (build_leaves N.tails N.heads N.order (noughts n) (graph (noughts (suc n)) (noughts 4096))))
  unfolding net_reply build_leaves
  alike_net n =
      let M = net N.tails N.heads [] N.order in
      let G = graph (noughts (suc n)) (noughts 4096) in
      by_rows (build_checks N.tails N.heads N.order (noughts n) G.first) (check6 (edge_count M) G.heads)
      (noughts n) (replicate (length (noughts n)) 0) (rank_list N.order)
      G (graph (replicate (length G.first) 0) (replicate (length G.heads) 0))
      (graph (first_list M) (heads_list M ++ replicate (length G.heads - edge_count M) 0)) (edge_count M)

alike_read : (input : List ℕ) (r : Program.Reading) → Alike (verdict_read input r) (answer_read r)
unfolding verdict_read answer_read
alike_read input (breaks line) = refl
alike_read input (text r) = alike_net input (net r.tails r.heads r.costs r.order) r.froms r.tos r.junctions

-- too long a text is told and refused with 14; any other is read
pub told_as_answered : ToldAsAnswered
unfolding verdict answer answer_read
told_as_answered input = by (ltb 65536 (length input)) refl
  where
    choice : Bool → Told.Verdict
    choice long = cond long (wrong 0 14 (whole cause.TooLong)) (verdict_read input (read_all input))

    by : (long : Bool) → ltb 65536 (length input) ≡ long → Alike (verdict input) (answer input)
    by true e = subst (λ v. Alike v (answer input)) (sym (ap choice e)) (ap answer_read (sym (too_long input (ltb-true 65536 (length input) e))))
    by false e = subst (λ v. Alike v (answer input)) (sym (ap choice e)) (alike_read input (read_all input))
