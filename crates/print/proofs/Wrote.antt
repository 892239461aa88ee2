-- Numbers in digits, and numbers behind spaces. Assumes nothing.
use Rattle.std.proofs.Common.{Option, Result, Ok}
use Rattle.rules.specs.declared.Drive.{Drive}
use Rattle.rules.specs.declared.Refusal.{Refusal}
use Prim.Native.Nat.{ℕ, zero, suc, ◌+◌, ◌/◌, ◌%◌, ◌^◌, ◌≤◌, ◌<◌}
use mathlib.Core.Path.{◌≡◌, refl, sym, ap, ◌∙◌}
use mathlib.Core.Bool.{Bool, true, false}
use mathlib.Core.List.{List, [], ◌∷◌, ◌++◌, map, map-append, append-nil, append_assoc}
use native.Mathlib.Omega.{arith}
use native.Mathlib.Numerals.{add-one}
use native.Mathlib.Nat.{pow-suc}
use lib.Dec.{ltb}
use lib.ListN.{length, get_or, take, length-append, length-take}
use lib.Seq.{take-suc}
use borrow.Author.Tests.{lt-ltb, le-ltb, ltb-false}
use Rattle.text.specs.Bytes.{lf, space, decimal_within, decimal}
use Rattle.rules.specs.Replies.{drive, no_walk, refused}
use Rattle.rules.specs.Calls.{route_left}
use Rattle.text.specs.Program.{spaced, edges_line, refused_line, reply_line}
use Rattle.print.specs.Written.{drive_written}

-- ---- digits

-- more room for digits changes nothing once they fit
within_enough : (k n : ℕ) → n < 10 ^ suc k → decimal_within (suc (suc k)) n ≡ decimal_within (suc k) n
unfolding decimal_within
within_enough zero n h = let less : n < 10 = h in rw (lt-ltb n 10 less) refl
within_enough (suc k) n h = by (λ m g. within_enough k m g) (ltb n 10) refl
  where
    by : ((m : ℕ) → m < 10 ^ suc k → decimal_within (suc (suc k)) m ≡ decimal_within (suc k) m) → (b : Bool) → ltb n 10 ≡ b → decimal_within (suc (suc (suc k))) n ≡ decimal_within (suc (suc k)) n
    by again true e = rw e refl
    by again false e =
        let less : n / 10 < 10 ^ suc k = omega (arith, pow-suc 10 (suc k)) in
        rw (e, again (n / 10) less) refl

-- no more digits than the number needs
within_short : (j k n : ℕ) → n < 10 ^ suc k → length (decimal_within j n) ≤ suc k
unfolding decimal_within
within_short zero k n h = omega arith
within_short (suc j) k n h = by (λ i m g. within_short j i m g) k h (ltb n 10) refl
  where
    by : ((i m : ℕ) → m < 10 ^ suc i → length (decimal_within j m) ≤ suc i) → (k : ℕ) → n < 10 ^ suc k → (b : Bool) → ltb n 10 ≡ b → length (decimal_within (suc j) n) ≤ suc k
    by again k h true e = rw e (omega arith)
    by again zero h false e = let less : n < 10 = h in absurd (omega (arith, ltb-false n 10 e))
    by again (suc k) h false e =
        let less : n / 10 < 10 ^ suc k = omega (arith, pow-suc 10 (suc k)) in
        rw (e, length-append (decimal_within j (n / 10)) ((48 + n % 10) ∷ [])) (omega (arith, again k (n / 10) less))

-- numbers of four digits, and of any 64-bit number
pub decimal_short : (n : ℕ) → n < 10000 → length (decimal n) ≤ 4
unfolding decimal
decimal_short n h = within_short 20 3 n h

pub decimal_few : (n : ℕ) → n < 18446744073709551616 → length (decimal n) ≤ 20
unfolding decimal
decimal_few n h = within_short 20 19 n (omega arith)

-- one digit
pub decimal_one : (n : ℕ) → n < 10 → decimal n ≡ (48 + n) ∷ []
unfolding decimal
decimal_one n h = rw (lt-ltb n 10 h) refl

-- the last digit comes behind the others
pub decimal_more : (n : ℕ) → 10 ≤ n → n < 18446744073709551616 → decimal n ≡ decimal (n / 10) ++ ((48 + n % 10) ∷ [])
unfolding decimal decimal_within
decimal_more n h g = let less : n / 10 < 10 ^ 19 = omega arith in rw (le-ltb n 10 h, within_enough 18 (n / 10) less) refl

-- so the others leave a place of the twenty
pub decimal_room : (n : ℕ) → 10 ≤ n → n < 18446744073709551616 → length (decimal (n / 10)) ≤ 19
decimal_room n h g =
    omega (arith, decimal_few n g, ap length (decimal_more n h g), length-append (decimal (n / 10)) ((48 + n % 10) ∷ []))

-- ---- numbers behind spaces

-- one number
pub spaced_one : (x : ℕ) → spaced (x ∷ []) ≡ (space ∷ []) ++ decimal x
unfolding spaced
spaced_one x = append-nil ((space ∷ []) ++ decimal x)

pub spaced_short : (x : ℕ) → x < 10000 → length (spaced (x ∷ [])) ≤ 5
spaced_short x h = rw (spaced_one x) (omega (arith, decimal_short x h))

spaced_append : (xs ys : List ℕ) → spaced (xs ++ ys) ≡ spaced xs ++ spaced ys
unfolding spaced
spaced_append [] ys = refl
spaced_append (x ∷ xs) ys = rw (spaced_append xs ys, append_assoc ((space ∷ []) ++ decimal x) (spaced xs) (spaced ys)) refl

-- one arc number more, counted from 1
pub arcs_more : (arcs : List ℕ) (i : ℕ) → i < length arcs → spaced (map suc (take (i + 1) arcs)) ≡ spaced (map suc (take i arcs)) ++ spaced ((get_or arcs i 0 + 1) ∷ [])
arcs_more arcs i h =
    rw (add-one i, add-one (get_or arcs i 0), take-suc arcs i 0 h, map-append suc (take i arcs) (get_or arcs i 0 ∷ []), spaced_append (map suc (take i arcs)) (suc (get_or arcs i 0) ∷ [])) refl

spaced_three : (x y : ℕ) (zs : List ℕ) → spaced (x ∷ y ∷ zs) ≡ spaced (x ∷ []) ++ spaced (y ∷ []) ++ spaced zs
spaced_three x y zs = spaced_append (x ∷ y ∷ []) zs ∙ ap (λ p. p ++ spaced zs) (spaced_append (x ∷ []) (y ∷ []))

-- what follows the two junctions of a drive, in the order in which it is written
pub drive_is : (d : ℕ) (arcs : List ℕ) → drive_written d arcs ≡ spaced (d ∷ []) ++ spaced (length arcs ∷ []) ++ spaced (map suc arcs) ++ (lf ∷ [])
unfolding drive_written
drive_is d arcs = ap (λ b. b ++ (lf ∷ [])) (spaced_three d (length arcs) (map suc arcs))

-- ---- on a page that has room

-- the answer's lines, part by part
pub edges_parts : (page : List ℕ) (e : ℕ) → page ++ edges_line e ≡ page ++ (101 ∷ 100 ∷ 103 ∷ 101 ∷ 115 ∷ space ∷ []) ++ decimal e ++ (lf ∷ [])
unfolding edges_line
edges_parts page e = simp append_assoc

pub refused_parts : (page : List ℕ) (n : ℕ) → page ++ refused_line n ≡ page ++ (114 ∷ 101 ∷ 102 ∷ 117 ∷ 115 ∷ 101 ∷ 100 ∷ space ∷ []) ++ decimal n ++ (lf ∷ [])
unfolding refused_line
refused_parts page n = simp append_assoc

pub spaced_parts : (page : List ℕ) (x : ℕ) → page ++ spaced (x ∷ []) ≡ page ++ (space ∷ []) ++ decimal x
spaced_parts page x = rw (spaced_one x) (simp append_assoc)

pub drive_parts : (page : List ℕ) (d : ℕ) (arcs : List ℕ) → page ++ drive_written d arcs ≡ page ++ spaced (d ∷ []) ++ spaced (length arcs ∷ []) ++ spaced (map suc arcs) ++ (lf ∷ [])
drive_parts page d arcs = rw (drive_is d arcs) (simp append_assoc)

-- a number of one digit, and one of more: the others first
pub digit_last : (page : List ℕ) (x : ℕ) → 10 ≤ x → x < 18446744073709551616 → page ++ decimal x ≡ page ++ decimal (x / 10) ++ ((48 + x % 10) ∷ [])
digit_last page x h g = rw (decimal_more x h g) (simp append_assoc)

pub digit_alone : (page : List ℕ) (x : ℕ) → x < 10 → page ++ decimal x ≡ page ++ ((48 + x % 10) ∷ [])
digit_alone page x h = let e : x % 10 ≡ x = omega arith in rw (e, decimal_one x h) refl

-- a reply's parts: its two junctions, counted from 1, and what route answers
module _ (from to : ℕ) where
  drive_is_told : (d k : ℕ) (route : List ℕ)
      → reply_line from to (route_left route (drive d k)) ≡ decimal (suc from) ++ spaced (suc to ∷ []) ++ (spaced (d ∷ k ∷ map suc (take k route)) ++ (lf ∷ []))
  unfolding reply_line
  drive_is_told d k route = refl

  no_walk_is_told : (route : List ℕ)
      → reply_line from to (route_left route no_walk) ≡ decimal (suc from) ++ spaced (suc to ∷ []) ++ (space ∷ 110 ∷ 111 ∷ 110 ∷ 101 ∷ lf ∷ [])
  unfolding reply_line
  no_walk_is_told route = refl

  refused_is_told : (n p : ℕ) (route : List ℕ)
      → reply_line from to (route_left route (refused n p)) ≡ decimal (suc from) ++ spaced (suc to ∷ []) ++ ((space ∷ []) ++ refused_line n)
  unfolding reply_line
  refused_is_told n p route = refl

drive_short : (d k : ℕ) (route : List ℕ) → k ≤ length route → spaced (d ∷ k ∷ map suc (take k route)) ++ (lf ∷ []) ≡ drive_written d (take k route)
unfolding drive_written
drive_short d k route h = let e : length (take k route) ≡ k = omega (arith, length-take k route) in rw e refl

module _ (page : List ℕ) (from to : ℕ) where
  -- any ending stands behind the two junctions
  started : (rest : List ℕ) → page ++ (decimal (suc from) ++ spaced (suc to ∷ []) ++ rest) ≡ page ++ decimal (from + 1) ++ spaced ((to + 1) ∷ []) ++ rest
  started rest = rw (add-one from, add-one to) (simp append_assoc)

  pub drive_told : (d k : ℕ) (route : List ℕ) → k ≤ length route
      → page ++ reply_line from to (route_left route (drive d k)) ≡ page ++ decimal (from + 1) ++ spaced ((to + 1) ∷ []) ++ drive_written d (take k route)
  drive_told d k route h = rw (drive_is_told from to d k route, drive_short d k route h) (started (drive_written d (take k route)))

  pub no_walk_told : (route : List ℕ)
      → page ++ reply_line from to (route_left route no_walk) ≡ page ++ decimal (from + 1) ++ spaced ((to + 1) ∷ []) ++ (space ∷ 110 ∷ 111 ∷ 110 ∷ 101 ∷ lf ∷ [])
  no_walk_told route = rw (no_walk_is_told from to route) (started (space ∷ 110 ∷ 111 ∷ 110 ∷ 101 ∷ lf ∷ []))

  pub refused_told : (n p : ℕ) (route : List ℕ)
      → page ++ reply_line from to (route_left route (refused n p)) ≡ page ++ decimal (from + 1) ++ spaced ((to + 1) ∷ []) ++ (space ∷ []) ++ refused_line n
  refused_told n p route =
      rw (refused_is_told from to n p route) (started ((space ∷ []) ++ refused_line n) ∙ sym (append_assoc (page ++ decimal (from + 1) ++ spaced ((to + 1) ∷ [])) (space ∷ []) (refused_line n)))

  -- the two junctions, written one after the other
  pub junctions_written : (first second : List ℕ) (x y : ℕ) → x ≡ from → y ≡ to → first ≡ page ++ decimal (x + 1) → second ≡ first ++ spaced ((y + 1) ∷ [])
      → second ≡ page ++ decimal (from + 1) ++ spaced ((to + 1) ∷ [])
  junctions_written first second x y e f g h = h ∙ rw (g, e, f) refl

-- what route answers, if it is accepted
pub answer_is : (answer : Result (Option Drive) Refusal) (o p : Option Drive) → answer ≡ Ok o → o ≡ p → answer ≡ Ok p
answer_is answer o p e f = e ∙ ap (λ (x : Option Drive). Ok x) f
