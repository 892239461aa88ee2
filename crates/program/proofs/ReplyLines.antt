-- What the whole answer needs of the replies: each fits, all of them fit, and they follow one another. Assumes nothing.
use Prim.Native.Nat.{ℕ, zero, suc, ◌+◌, ◌*◌, ◌-◌, ◌≤◌, ◌<◌}
use mathlib.Core.Path.{◌≡◌, refl, sym, ap, ◌∙◌, subst}
use mathlib.Core.Bool.{◌&&◌}
use mathlib.Core.List.{List, [], ◌∷◌, ◌++◌, append-nil, append_assoc}
use native.Mathlib.Omega.{arith}
use native.Mathlib.Numerals.{add-one}
use lib.Dec.{T, eqb, ltb}
use lib.ListN.{length, get_or, take, replicate, length-append, length-replicate, get_or-append}
use Rattle.std.proofs.Common.{Option, Some, None, Result, Ok, Err}
use Rattle.std.proofs.lemmas.List.{get_or-take, length-take}
use Rattle.rules.specs.declared.Drive.{Drive}
use Rattle.rules.specs.declared.Refusal.{Refusal}
use Rattle.rules.specs.Costs.{closed}
use Rattle.rules.specs.Replies.{route_reply, refused}
use Rattle.rules.specs.Net.{Net, arcs, tail, head, in_force, size}
use Rattle.rules.specs.Route.{route_list}
use Rattle.rules.specs.Calls.{RouteLeaves, route_left, route_leaves, customise_checks, route_checks}
use Rattle.theory.specs.Demand3.{is_walk, SomeWalk}
use Rattle.theory.proofs.Words.{and_l, and_r, ltb_e}
use Rattle.theory.proofs.AnyLists.{route_on_any_lists}
use Rattle.text.specs.Program.{reply_line, reply_lines, noughts}
use Rattle.print.specs.Written.{ArcsShort, ReplyShort}
use Rattle.rules.specs.Graph.{Graph}
use Rattle.rules.specs.Hierarchy.{EdgeCosts}
use Rattle.rules.specs.Refusals.{passes, check11, fails}

-- ---- a reply of route is short

-- the arcs of a walk are listed
walk_listed : (N : Net) (from : ℕ) (way : List ℕ) (to : ℕ) → T (is_walk N from way to) → (i : ℕ) → i < length way → get_or way i 0 < arcs N
unfolding is_walk
walk_listed N from [] to t i h = absurd (omega arith)
walk_listed N from (a ∷ way) to t zero h =
    ltb_e a (arcs N) (and_l (ltb a (arcs N)) (in_force N a) (and_l (ltb a (arcs N) && in_force N a) (eqb (tail N a) from) (and_l (ltb a (arcs N) && in_force N a && eqb (tail N a) from) (is_walk N (head N a) way to) t)))
walk_listed N from (a ∷ way) to t (suc i) h =
    walk_listed N (head N a) way to (and_r (ltb a (arcs N) && in_force N a && eqb (tail N a) from) (is_walk N (head N a) way to) t) i (omega arith)

walk_short : (N : Net) (from to d k : ℕ) (route : List ℕ) → SomeWalk N from to d k route → length route ≡ 256 → arcs N ≤ 1024 → (k ≤ length route) × ArcsShort (take k route)
unfolding route_list
walk_short N from to d k route w e m =
    let r : length route ≡ length w.way + (length route - length w.way) =
    ap length w.listed ∙ length-append w.way (replicate (length route - length w.way) closed) ∙ rw (length-replicate (length route - length w.way) closed) refl in
    let few : k ≤ length route = omega (arith, w.count) in (
      few,
      record {
        few = omega (arith, length-take k route);
        low = λ i h.
            let l : i < k = omega (arith, length-take k route) in
            let g : get_or route i 0 ≡ get_or w.way i 0 =
            ap (λ l. get_or l i 0) w.listed ∙ get_or-append w.way (replicate (length route - length w.way) closed) 0 i (omega (arith, w.count)) in
            omega (arith, get_or-take k route i 0 l, g, walk_listed N from w.way to w.walks i (omega (arith, w.count)));
      },
    )

-- what route answers, with 256 places and at most 1,024 arcs
pub reply_short : (N : Net) (rank : List ℕ) (G : Graph) (C : EdgeCosts) (from to : ℕ) (before route : List ℕ) (r : Result (Option Drive) Refusal) → route_left route (route_reply r) ≡ route_leaves N rank G C from to before → length route ≡ 256 → arcs N ≤ 1024 → ReplyShort r route
reply_short N rank G C from to before route (Ok (Some f)) e h m =
    walk_short N from to f.distance f.arcs route
    (subst (λ (l : RouteLeaves). SomeWalk N from to f.distance f.arcs l.route) (sym e)
    (route_on_any_lists N rank G C from to before f.distance f.arcs (sym (ap (λ (l : RouteLeaves). l.reply) e))))
    h m
reply_short N rank G C from to before route (Ok None) e h m = tt
reply_short N rank G C from to before route (Err q) e h m = tt

-- ---- one question, over lists that customise accepts

module _ (N : Net) (rank : List ℕ) (G : Graph) (C : EdgeCosts) (from to : ℕ) (c : customise_checks N rank G C ≡ passes) where
  -- 11 is all that is left to fail
  pub question_refused : (route : List ℕ) (k p : ℕ) → check11 (size N) from to ≡ fails k p → route_left route (refused k p) ≡ route_leaves N rank G C from to route
  unfolding route_leaves route_checks
  question_refused route k p e = rw (c, e) refl

  -- where it passes, all of route's checks do
  pub question_passes : check11 (size N) from to ≡ passes → route_checks N rank G C from to ≡ passes
  unfolding route_checks
  question_passes e = rw (c, e) refl

-- ---- the replies, one more at a time

module _ (N : Net) (rank : List ℕ) (G : Graph) (C : EdgeCosts) where
  replies_suc : (us vs : List ℕ) (i : ℕ) → i < length us → i < length vs → reply_lines N rank G C (take (suc i) us) (take (suc i) vs) ≡ reply_lines N rank G C (take i us) (take i vs) ++ reply_line (get_or us i 0) (get_or vs i 0) (route_leaves N rank G C (get_or us i 0) (get_or vs i 0) (noughts 256))
  unfolding reply_lines
  replies_suc [] vs i h g = absurd (omega arith)
  replies_suc (u ∷ us) [] i h g = absurd (omega arith)
  replies_suc (u ∷ us) (v ∷ vs) zero h g = append-nil (reply_line u v (route_leaves N rank G C u v (noughts 256)))
  replies_suc (u ∷ us) (v ∷ vs) (suc i) h g =
      rw (replies_suc us vs i (omega arith) (omega arith), append_assoc (reply_line u v (route_leaves N rank G C u v (noughts 256))) (reply_lines N rank G C (take i us) (take i vs)) (reply_line (get_or us i 0) (get_or vs i 0) (route_leaves N rank G C (get_or us i 0) (get_or vs i 0) (noughts 256)))) refl

  pub replies_more : (us vs : List ℕ) (i : ℕ) → i < length us → i < length vs → reply_lines N rank G C (take (i + 1) us) (take (i + 1) vs) ≡ reply_lines N rank G C (take i us) (take i vs) ++ reply_line (get_or us i 0) (get_or vs i 0) (route_leaves N rank G C (get_or us i 0) (get_or vs i 0) (noughts 256))
  replies_more us vs i h g = rw (add-one i) (replies_suc us vs i h g)

-- ---- the questions, one after the other

module _ (N : Net) (rank : List ℕ) (G : Graph) (C : EdgeCosts) (froms tos before : List ℕ) where
  -- i questions have been answered
  pub record Answering (page : List ℕ) (i : ℕ) : Type 0 where
    pub wrote : page ≡ before ++ reply_lines N rank G C (take i froms) (take i tos)
    pub few : length page ≤ 27 + 1400 * i

  pub answering_none : length before ≤ 27 → Answering before 0
  unfolding reply_lines
  answering_none h = record { wrote = sym (append-nil before); few = omega arith }

  pub answering_more : (page page' : List ℕ) (i u v : ℕ) → Answering page i → i < length froms → i < length tos → u ≡ get_or froms i 0 → v ≡ get_or tos i 0
      → page' ≡ page ++ reply_line u v (route_leaves N rank G C u v (noughts 256))
      → length page' ≤ length page + 1400 → Answering page' (i + 1)
  answering_more page page' i u v a h k e f w g =
      record {
        wrote = w ∙ rw (e, f, a.wrote, replies_more N rank G C froms tos i h k) (append_assoc before (reply_lines N rank G C (take i froms) (take i tos)) (reply_line (get_or froms i 0) (get_or tos i 0) (route_leaves N rank G C (get_or froms i 0) (get_or tos i 0) (noughts 256))));
        few = omega (arith, a.few);
      }
