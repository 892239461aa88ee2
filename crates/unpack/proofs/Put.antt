-- Events written into the route list: one after the other, and what it says that they were written to the end or not. Assumes nothing.
use Prim.Native.Nat.{ℕ, ◌+◌, ◌≤◌, ◌<◌}
use mathlib.Core.Path.{◌≡◌, refl, sym, ap, ◌∙◌}
use mathlib.Core.Bool.{true, false}
use mathlib.Core.List.{List, [], ◌∷◌, ◌++◌}
use native.Mathlib.Omega.{arith}
use lib.Dec.{ltb}
use lib.ListN.{length, set}
use borrow.Author.Tests.{lt-ltb, le-ltb}
use Rattle.rules.specs.Route.{Event, drives, misfits}
use Rattle.theory.proofs.Words.{either, split}
use Rattle.std.specs.Prelude.{Result, Ok, Err}
use Rattle.unpack.specs.declared.Stuck.{Stuck}
use Rattle.unpack.specs.declared.Stuck.TheVariants.{Full, Misfit}
use Rattle.unpack.specs.Opening.{ran, put}

-- ---- one arc

-- an arc for which there is no place
pub arc_full : (i at : ℕ) (route : List ℕ) → length route ≤ at → ran (Err Full) route ≡ put (drives i ∷ []) at route
unfolding put
arc_full i at route h = rw (le-ltb at (length route) h) refl

-- an arc that is written down
pub arc_written : (i at : ℕ) (route : List ℕ) → at < length route → ran (Ok (at + 1)) (set route at i) ≡ put (drives i ∷ []) at route
unfolding put
arc_written i at route h = rw (lt-ltb at (length route) h) refl

-- a piece that fits nothing
pub put_one_misfit : (at : ℕ) (route : List ℕ) → ran (Err Misfit) route ≡ put (misfits ∷ []) at route
unfolding put
put_one_misfit at route = refl

-- ---- one part after the other

-- an answer after which nothing more is written
abbrev pub Stops : Result ℕ Stuck → Type 0
Stops (Ok at) = ⊥
Stops (Err why) = Unit {0}

-- every answer but the next free place
pub stops_e : (answer : Result ℕ Stuck) → ((free : ℕ) → answer ≡ Ok free → ⊥) → Stops answer
stops_e (Ok at) n = n at refl
stops_e (Err why) n = tt

-- no event, nothing written
pub put_nil : (at : ℕ) (route : List ℕ) → put [] at route ≡ ran (Ok at) route
unfolding put
put_nil at route = refl

-- a misfit ends it
pub put_misfit : (es : List Event) (at : ℕ) (route : List ℕ) → put (misfits ∷ es) at route ≡ ran (Err Misfit) route
unfolding put
put_misfit es at route = refl

-- an arc for which there is a place is followed by the rest
pub put_more : (i : ℕ) (es : List Event) (at : ℕ) (route : List ℕ) → ltb at (length route) ≡ true → put (drives i ∷ es) at route ≡ put es (at + 1) (set route at i)
unfolding put
put_more i es at route e = rw e refl

-- one for which there is none ends it
pub put_full : (i : ℕ) (es : List Event) (at : ℕ) (route : List ℕ) → ltb at (length route) ≡ false → put (drives i ∷ es) at route ≡ ran (Err Full) route
unfolding put
put_full i es at route e = rw e refl

-- where a part was written to its end the next part follows it
pub put_on : (es fs : List Event) (at : ℕ) (route : List ℕ) (free : ℕ) (then : List ℕ) → ran (Ok free) then ≡ put es at route
    → put (es ++ fs) at route ≡ put fs free then
put_on [] fs at route free then e =
    let g : ran (Ok free) then ≡ ran (Ok at) route = e ∙ put_nil at route in
    let n : Ok free ≡ Ok at = ap (λ r. r.answer) g in
    let f : free ≡ at = cc in
    let r : then ≡ route = ap (λ r. r.route) g in
    rw (f, r) refl
put_on (misfits ∷ es) fs at route free then e =
    let n : Ok free ≡ Err Misfit = ap (λ r. r.answer) (e ∙ put_misfit es at route) in
    let z : ◌≡◌ {A = ℕ} 0 1 = cc in
    absurd (omega arith)
put_on (drives i ∷ es) fs at route free then e =
    either (split (ltb at (length route)))
    (λ t. put_more i (es ++ fs) at route t ∙ put_on es fs (at + 1) (set route at i) free then (e ∙ put_more i es at route t))
    (λ t.
    let n : Ok free ≡ Err Full = ap (λ r. r.answer) (e ∙ put_full i es at route t) in
    let z : ◌≡◌ {A = ℕ} 0 1 = cc in
    absurd (omega arith))

-- what stops does not go on
pub stops_short : (q : Result ℕ Stuck) (at : ℕ) → Stops q → q ≡ Ok at → ⊥
stops_short (Ok free) at s e = s
stops_short (Err why) at s e = let z : ◌≡◌ {A = ℕ} 0 1 = cc in omega arith

-- where it was not, nothing follows
pub put_stop : (es fs : List Event) (at : ℕ) (route : List ℕ) (answer : Result ℕ Stuck) (then : List ℕ) → Stops answer → ran answer then ≡ put es at route
    → ran answer then ≡ put (es ++ fs) at route
put_stop [] fs at route answer then s e = absurd (stops_short answer at s (ap (λ r. r.answer) (e ∙ put_nil at route)))
put_stop (misfits ∷ es) fs at route answer then s e = e ∙ put_misfit es at route ∙ sym (put_misfit (es ++ fs) at route)
put_stop (drives i ∷ es) fs at route answer then s e =
    either (split (ltb at (length route)))
    (λ t. put_stop es fs (at + 1) (set route at i) answer then s (e ∙ put_more i es at route t) ∙ sym (put_more i (es ++ fs) at route t))
    (λ t. e ∙ put_full i es at route t ∙ sym (put_full i (es ++ fs) at route t))
