-- What route leaves: the arcs driven and CLOSED behind them, or CLOSED everywhere with the first trouble met, or none. Assumes nothing.
use Prim.Native.Nat.{ℕ, zero, suc, ◌+◌, ◌-◌, ◌≤◌, ◌<◌}
use mathlib.Core.Path.{◌≡◌, refl, sym, ap, ◌∙◌}
use mathlib.Core.Bool.{false}
use mathlib.Core.List.{List, [], ◌∷◌, ◌++◌, append_assoc, append-nil}
use native.Mathlib.Omega.{arith}
use native.Mathlib.Numerals.{add-one}
use lib.Dec.{eqb, ltb}
use lib.ListN.{length, set, take, replicate, length-set}
use lib.Seq.{take-suc-set}
use borrow.Author.Tests.{ltb-true, ltb-false, eq-eqb}
use Rattle.rules.specs.Calls.{route_left, driven_leaves}
use Rattle.rules.specs.Costs.{closed}
use Rattle.rules.specs.Replies.{refused, drive}
use Rattle.rules.specs.Route.{Event, drives, misfits, trouble, driven, route_list}
use Rattle.theory.proofs.Words.{either, split}
use Rattle.lists.proofs.Filled.{filled_whole}
use Rattle.unpack.specs.Opening.{ran, put}
use Rattle.unpack.specs.declared.Stuck.TheVariants.{Full, Misfit}
use Rattle.std.specs.Prelude.{Result, Ok, Err}
use Rattle.unpack.specs.declared.Stuck.{Stuck}
use Rattle.unpack.proofs.Put.{Stops, stops_short, put_nil, put_misfit, put_more, put_full}
use Rattle.drive.specs.Driving.{left_after}

-- ---- events written to the end, or not

-- all events were written behind the first `at` arcs
record Written (es : List Event) (at : ℕ) (route : List ℕ) (free : ℕ) (then : List ℕ) : Type 0 where
  pub free_is : free ≡ at + length (driven es)
  pub room : free ≤ length route
  pub long : length then ≡ length route
  pub holds : take free then ≡ take at route ++ driven es
  pub clear : trouble (length route - at) es ≡ 0

-- the answer "next free place" says so
put_written : (es : List Event) (at : ℕ) (route : List ℕ) (free : ℕ) (then : List ℕ) → at ≤ length route → ran (Ok free) then ≡ put es at route
    → Written es at route free then
unfolding trouble driven
put_written [] at route free then h e =
    let g : ran (Ok free) then ≡ ran (Ok at) route = e ∙ put_nil at route in
    let n : Ok free ≡ Ok at = ap (λ r. r.answer) g in
    let f : free ≡ at = cc in
    let r : then ≡ route = ap (λ r. r.route) g in
    record {
      free_is = omega arith;
      room = omega arith;
      long = ap length r;
      holds = rw (f, r) (sym (append-nil (take at route)));
      clear = none_left (length route - at);
    }
  where
    none_left : (k : ℕ) → trouble k [] ≡ 0
    none_left zero = refl
    none_left (suc k) = refl
put_written (misfits ∷ es) at route free then h e =
    let n : Ok free ≡ Err Misfit = ap (λ r. r.answer) (e ∙ put_misfit es at route) in
    let z : ◌≡◌ {A = ℕ} 0 1 = cc in
    absurd (omega arith)
put_written (drives i ∷ es) at route free then h e =
    either (split (ltb at (length route)))
    (λ t.
    let l : at < length route = ltb-true at (length route) t in
    let s = length-set route at i in
    let W = put_written es (at + 1) (set route at i) free then (omega arith) (e ∙ put_more i es at route t) in
    let left : length route - at ≡ suc (length (set route at i) - (at + 1)) = omega arith in
    record {
      free_is = omega (arith, W.free_is);
      room = omega (arith, W.room);
      long = W.long ∙ s;
      holds =
          W.holds
          ∙ ap (λ m. take m (set route at i) ++ driven es) (add-one at)
          ∙ ap (λ l. l ++ driven es) (take-suc-set route at i l)
          ∙ append_assoc (take at route) (i ∷ []) (driven es);
      clear = rw left W.clear;
    })
    (λ t.
    let n : Ok free ≡ Err Full = ap (λ r. r.answer) (e ∙ put_full i es at route t) in
    let z : ◌≡◌ {A = ℕ} 0 1 = cc in
    absurd (omega arith))

-- the paper's number of an answer that stops
abbrev trouble_of : Result ℕ Stuck → ℕ
trouble_of (Ok at) = 0
trouble_of (Err Full) = 12
trouble_of (Err Misfit) = 13

-- an answer that stops is the first trouble met
put_trouble : (es : List Event) (at : ℕ) (route : List ℕ) (answer : Result ℕ Stuck) (then : List ℕ) → at ≤ length route → Stops answer
    → ran answer then ≡ put es at route → (trouble (length route - at) es ≡ trouble_of answer) × (length then ≡ length route)
unfolding trouble
put_trouble [] at route answer then h s e = absurd (stops_short answer at s (ap (λ r. r.answer) (e ∙ put_nil at route)))
put_trouble (misfits ∷ es) at route answer then h s e =
    let g = e ∙ put_misfit es at route in
    let q : answer ≡ Err Misfit = ap (λ r. r.answer) g in
    (misfit (length route - at) ∙ ap trouble_of (sym q), ap (λ r. length r.route) g)
  where
    misfit : (k : ℕ) → trouble k (misfits ∷ es) ≡ 13
    misfit zero = refl
    misfit (suc k) = refl
put_trouble (drives i ∷ es) at route answer then h s e =
    either (split (ltb at (length route)))
    (λ t.
    let l : at < length route = ltb-true at (length route) t in
    let n = length-set route at i in
    let W = put_trouble es (at + 1) (set route at i) answer then (omega arith) s (e ∙ put_more i es at route t) in
    let left : length route - at ≡ suc (length (set route at i) - (at + 1)) = omega arith in
    (rw left W.0, W.1 ∙ n))
    (λ t.
    let g = e ∙ put_full i es at route t in
    let q : answer ≡ Err Full = ap (λ r. r.answer) g in
    let z : length route - at ≡ 0 = omega (arith, ltb-false at (length route) t) in
    (rw z (ap trouble_of (sym q)), ap (λ r. length r.route) g))

-- ---- what is left

leaves_clear : (way : List Event) (d room : ℕ) → trouble room way ≡ 0
    → driven_leaves way d room ≡ route_left (driven way ++ replicate (room - length (driven way)) closed) (drive d (length (driven way)))
unfolding driven_leaves route_list
leaves_clear way d room e = rw (eq-eqb (trouble room way) 0 e) refl

leaves_trouble : (way : List Event) (d room k : ℕ) → trouble room way ≡ k → eqb k 0 ≡ false
    → driven_leaves way d room ≡ route_left (replicate room closed) (refused k 0)
unfolding driven_leaves
leaves_trouble way d room k e n = rw (e, n) refl

-- an answer that stops leaves CLOSED everywhere
stopped_left : (told : Result ℕ Stuck) (d : ℕ) (then : List ℕ) → Stops told → left_after told d then ≡ route_left (replicate (length then) closed) (refused (trouble_of told) 0)
stopped_left (Ok k) d then s = absurd s
stopped_left (Err Full) d then s = ap (λ l. route_left l (refused 12 0)) (filled_whole then closed)
stopped_left (Err Misfit) d then s = ap (λ l. route_left l (refused 13 0)) (filled_whole then closed)

some_trouble : (told : Result ℕ Stuck) → Stops told → eqb (trouble_of told) 0 ≡ false
some_trouble (Ok k) s = absurd s
some_trouble (Err Full) s = refl
some_trouble (Err Misfit) s = refl

left_stopped : (way : List Event) (d : ℕ) (told : Result ℕ Stuck) (route then : List ℕ) → Stops told → ran told then ≡ put way 0 route
    → left_after told d then ≡ driven_leaves way d (length route)
left_stopped way d told route then s e =
    let W = put_trouble way 0 route told then (omega arith) s e in
    let whole : length route - 0 ≡ length route = omega arith in
    stopped_left told d then s
    ∙ ap (λ n. route_left (replicate n closed) (refused (trouble_of told) 0)) W.1
    ∙ sym (leaves_trouble way d (length route) (trouble_of told) (rw whole at W.0) (some_trouble told s))

-- "The reply is distance and number of arcs; the route list holds arc numbers in driving order, and 4,294,967,295 in all other places"
left_driven : (way : List Event) (d free : ℕ) (route then : List ℕ) → ran (Ok free) then ≡ put way 0 route
    → left_after (Ok free) d then ≡ driven_leaves way d (length route)
left_driven way d free route then e =
    let W = put_written way 0 route free then (omega arith) e in
    let arcs : free ≡ length (driven way) = omega (arith, W.free_is) in
    let whole : length route - 0 ≡ length route = omega arith in
    let list : take free then ++ replicate (length then - free) closed ≡ driven way ++ replicate (length route - length (driven way)) closed =
    rw (W.holds, W.long, arcs) refl in
    ap (λ l. route_left l (drive d free)) list
    ∙ ap (λ k. route_left (driven way ++ replicate (length route - length (driven way)) closed) (drive d k)) arcs
    ∙ sym (leaves_clear way d (length route) (rw whole at W.clear))

-- so what is left after the way has been driven is what the definition says
pub left_after_lem : (way : List Event) (d : ℕ) (told : Result ℕ Stuck) (route then : List ℕ) → ran told then ≡ put way 0 route
    → left_after told d then ≡ driven_leaves way d (length route)
left_after_lem way d (Ok free) route then e = left_driven way d free route then e
left_after_lem way d (Err why) route then e = left_stopped way d (Err why) route then tt e

-- and the arcs fit the list
pub left_fits : (way : List Event) (told : Result ℕ Stuck) (route then : List ℕ) → ran told then ≡ put way 0 route → (k : ℕ) → told ≡ Ok k → k ≤ length then
left_fits way told route then e k g =
    let W = put_written way 0 route k then (omega arith) (rw (← g) e) in
    omega (arith, W.room, W.long)
