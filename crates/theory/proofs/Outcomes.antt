-- Each promise allows one outcome: the paper's numbers tell the answers apart, so reply and lent lists are determined. Assumes nothing.
use Prim.Native.Nat.{ℕ}
use Rattle.std.specs.Prelude.{Option, Some, None, Result, Ok, Err, ⊤}
use Rattle.rules.specs.declared.Drive.{Drive}
use mathlib.Core.Path.{◌≡◌, refl, sym, ap, ◌∙◌}
use mathlib.Core.List.{List, [], ◌∷◌}
use lib.ListN.{get_or}
use Rattle.rules.specs.declared.Refusal.{Refusal}
use Rattle.rules.specs.declared.Refusal.TheVariants.{JunctionCount, ArcLists, ArcEnd, OrderEntry, RankOrFirstRoom, HeadsRoom, NotAHierarchy, ArcWithoutEdge, ArcCost, CostLists, StartOrTarget, RouteRoom, PieceFitsNothing, Text, DistanceRoom, TooFar, ArcNumber}
use Rattle.rules.specs.declared.Direction.{Direction}
use Rattle.rules.specs.Net.{Net}
use Rattle.rules.specs.Replies.{Reply, refused, edges, done, far, drive, no_walk, looked, refusal_number, refusal_place, build_reply, fill_reply, change_reply, distance_reply, route_reply}
use Rattle.rules.specs.Calls.{BuildLeaves, build_left, build_leaves, CustomiseLeaves, customise_left, customise_leaves, ChangeLeaves, change_left, change_leaves, DistanceLeaves, distance_left, distance_leaves, SweepLeaves, sweep_left, sweep_leaves, RouteLeaves, route_left, route_leaves}
use Rattle.rules.specs.Graph.{Graph}
use Rattle.rules.specs.Hierarchy.{EdgeCosts}

-- ---- refusals

-- the refusal that a number and a place tell
abbrev pub refusal_of : (number place : ℕ) → Refusal
refusal_of number place =
    get_or
    (JunctionCount
    ∷ JunctionCount
    ∷ ArcLists
    ∷ ArcEnd place
    ∷ OrderEntry place
    ∷ RankOrFirstRoom
    ∷ HeadsRoom
    ∷ NotAHierarchy
    ∷ ArcWithoutEdge place
    ∷ ArcCost place
    ∷ CostLists
    ∷ StartOrTarget
    ∷ RouteRoom
    ∷ PieceFitsNothing
    ∷ Text place
    ∷ DistanceRoom
    ∷ TooFar place
    ∷ ArcNumber
    ∷ [])
    number
    JunctionCount

-- number and place tell it back
pub refusal_back : (r : Refusal) → refusal_of (refusal_number r) (refusal_place r) ≡ r
refusal_back JunctionCount = refl
refusal_back ArcLists = refl
refusal_back (ArcEnd arc) = refl
refusal_back (OrderEntry position) = refl
refusal_back RankOrFirstRoom = refl
refusal_back HeadsRoom = refl
refusal_back NotAHierarchy = refl
refusal_back (ArcWithoutEdge arc) = refl
refusal_back (ArcCost arc) = refl
refusal_back CostLists = refl
refusal_back StartOrTarget = refl
refusal_back RouteRoom = refl
refusal_back PieceFitsNothing = refl
refusal_back (Text line) = refl
refusal_back DistanceRoom = refl
refusal_back (TooFar junction) = refl
refusal_back ArcNumber = refl

-- ---- answers

-- a reply read back: what to make of a refusal, of one number, of two and of none
abbrev read_reply : {A : Type 0} (refuse : Refusal → A) (one : ℕ → A) (two : ℕ → ℕ → A) (bare : A) (reply : Reply) → A
read_reply refuse one two bare (refused k p) = refuse (refusal_of k p)
read_reply refuse one two bare (edges e) = one e
read_reply refuse one two bare done = bare
read_reply refuse one two bare (far d) = one d
read_reply refuse one two bare (drive d k) = two d k
read_reply refuse one two bare no_walk = bare
read_reply refuse one two bare (looked t) = one t

-- answers that can be read back from their replies are told apart by them
answers : {A : Type 0} (reply : A → Reply) (refuse : Refusal → A) (one : ℕ → A) (two : ℕ → ℕ → A) (bare : A)
    → ((x : A) → read_reply refuse one two bare (reply x) ≡ x) → (a b : A) → reply a ≡ reply b → a ≡ b
answers reply refuse one two bare back a b e = sym (back a) ∙ ap (read_reply refuse one two bare) e ∙ back b

-- the reply of each call tells its answers apart
pub build_answers : (a b : Result ℕ Refusal) → build_reply a ≡ build_reply b → a ≡ b
build_answers =
    answers build_reply Err Ok (λ d k. Ok 0) (Ok 0)
    (elim [ Ok e ↦ refl | Err r ↦ ap Err (refusal_back r) ])

pub fill_answers : (a b : Result ⊤ Refusal) → fill_reply a ≡ fill_reply b → a ≡ b
fill_answers =
    answers fill_reply Err (λ e. Ok tt) (λ d k. Ok tt) (Ok tt)
    (elim [ Ok x ↦ refl | Err r ↦ ap Err (refusal_back r) ])

pub change_answers : (a b : Result ℕ Refusal) → change_reply a ≡ change_reply b → a ≡ b
change_answers =
    answers change_reply Err Ok (λ d k. Ok 0) (Ok 0)
    (elim [ Ok t ↦ refl | Err r ↦ ap Err (refusal_back r) ])

pub distance_answers : (a b : Result (Option ℕ) Refusal) → distance_reply a ≡ distance_reply b → a ≡ b
distance_answers =
    answers distance_reply Err (λ d. Ok (Some d)) (λ d k. Ok None) (Ok None)
    (elim [ Ok (Some d) ↦ refl | Ok None ↦ refl | Err r ↦ ap Err (refusal_back r) ])

pub route_answers : (a b : Result (Option Drive) Refusal) → route_reply a ≡ route_reply b → a ≡ b
route_answers =
    answers route_reply Err (λ d. Ok None) (λ d k. Ok (Some (record { distance = d; arcs = k }))) (Ok None)
    (elim [ Ok (Some x) ↦ refl | Ok None ↦ refl | Err r ↦ ap Err (refusal_back r) ])

-- ---- outcomes

-- whatever build is lent, its promise allows one outcome: answer, rank, first and heads
pub build_determined : (tails heads order rank₀ : List ℕ) (G₀ : Graph) (r r' : Result ℕ Refusal) (rank rank' : List ℕ) (G G' : Graph)
    → build_left rank G (build_reply r) ≡ build_leaves tails heads order rank₀ G₀
    → build_left rank' G' (build_reply r') ≡ build_leaves tails heads order rank₀ G₀
    → (r ≡ r') × (rank ≡ rank') × (G ≡ G')
build_determined tails heads order rank₀ G₀ r r' rank rank' G G' e e' =
    let s = e ∙ sym e' in (
      build_answers r r' (ap (λ (x : BuildLeaves). x.reply) s),
      ap (λ (x : BuildLeaves). x.rank) s,
      ap (λ (x : BuildLeaves). x.rows) s,
    )

-- customise's promise: answer, up and down
pub customise_determined : (N : Net) (rank : List ℕ) (G : Graph) (C₀ : EdgeCosts) (r r' : Result ⊤ Refusal) (C C' : EdgeCosts)
    → customise_left C (fill_reply r) ≡ customise_leaves N rank G C₀
    → customise_left C' (fill_reply r') ≡ customise_leaves N rank G C₀
    → (r ≡ r') × (C ≡ C')
customise_determined N rank G C₀ r r' C C' e e' =
    let s = e ∙ sym e' in
    (fill_answers r r' (ap (λ (x : CustomiseLeaves). x.reply) s), ap (λ (x : CustomiseLeaves). x.costs) s)

-- change's promise: answer, cost list, up and down
pub change_determined : (N : Net) (rank : List ℕ) (G : Graph) (C₀ : EdgeCosts) (arc cost : ℕ) (r r' : Result ℕ Refusal) (costs costs' : List ℕ) (C C' : EdgeCosts)
    → change_left costs C (change_reply r) ≡ change_leaves N rank G C₀ arc cost
    → change_left costs' C' (change_reply r') ≡ change_leaves N rank G C₀ arc cost
    → (r ≡ r') × (costs ≡ costs') × (C ≡ C')
change_determined N rank G C₀ arc cost r r' costs costs' C C' e e' =
    let s = e ∙ sym e' in (
      change_answers r r' (ap (λ (x : ChangeLeaves). x.reply) s),
      ap (λ (x : ChangeLeaves). x.arc_costs) s,
      ap (λ (x : ChangeLeaves). x.costs) s,
    )

-- distance's promise: the answer
pub distance_determined : (order rank : List ℕ) (G : Graph) (C : EdgeCosts) (from to : ℕ) (r r' : Result (Option ℕ) Refusal)
    → distance_left (distance_reply r) ≡ distance_leaves order rank G C from to
    → distance_left (distance_reply r') ≡ distance_leaves order rank G C from to
    → r ≡ r'
distance_determined order rank G C from to r r' e e' =
    distance_answers r r' (ap (λ (x : DistanceLeaves). x.reply) (e ∙ sym e'))

-- the promise of either sweep: the answer and the distances
pub sweep_determined : (order rank : List ℕ) (G : Graph) (C : EdgeCosts) (d : Direction) (j : ℕ) (distances₀ : List ℕ)
    (r r' : Result ⊤ Refusal) (distances distances' : List ℕ)
    → sweep_left distances (fill_reply r) ≡ sweep_leaves order rank G C d j distances₀
    → sweep_left distances' (fill_reply r') ≡ sweep_leaves order rank G C d j distances₀
    → (r ≡ r') × (distances ≡ distances')
sweep_determined order rank G C d j distances₀ r r' distances distances' e e' =
    let s = e ∙ sym e' in
    (fill_answers r r' (ap (λ (x : SweepLeaves). x.reply) s), ap (λ (x : SweepLeaves). x.distances) s)

-- route's promise: answer and route
pub route_determined : (N : Net) (rank : List ℕ) (G : Graph) (C : EdgeCosts) (from to : ℕ) (route₀ : List ℕ)
    (r r' : Result (Option Drive) Refusal) (route route' : List ℕ)
    → route_left route (route_reply r) ≡ route_leaves N rank G C from to route₀
    → route_left route' (route_reply r') ≡ route_leaves N rank G C from to route₀
    → (r ≡ r') × (route ≡ route')
route_determined N rank G C from to route₀ r r' route route' e e' =
    let s = e ∙ sym e' in
    (route_answers r r' (ap (λ (x : RouteLeaves). x.reply) s), ap (λ (x : RouteLeaves). x.route) s)
