-- Ways that pass no place twice: a loop can be cut out, a list of different places below n has at most n of them, and so a least way is
-- short and cheap. Assumes nothing.
use Prim.Native.Nat.{ℕ, zero, suc, ◌+◌, ◌*◌, ◌≤◌, ◌<◌}
use native.Mathlib.Nat.{suc-mul, mul-le-mul_right}
use native.Mathlib.Omega.{arith}
use native.Mathlib.Decide.{ℕ_discrete}
use mathlib.Core.Path.{◌≡◌, refl, sym, ap, ◌∙◌}
use mathlib.Core.Logic.{⊎_elim, by_cases}
use mathlib.Core.List.Memᴰ.{head as first}
use mathlib.Core.List.Memᴰ.{not-nil as not_in_empty}
use mathlib.Core.List.Memᴰ.{tail as then}
use mathlib.Core.List.{List, [], ◌∷◌, Memᴰ as In}
use mathlib.Core.List.Memᴰ.{cases_cons as first_or_then}
use mathlib.Core.List.Memᴰ.{cast as same_in}
use mathlib.Core.List.Memᴰ.{eq_of_singleton as the_one}
use lib.ListN.{length}
use Rattle.theory.proofs.Ways.{Way, stay, go}

-- nothing stands twice in the list
pub data Apart : List ℕ → Type 0 where
  empty : Apart []
  more : {x : ℕ} {xs : List ℕ} → (In x xs → ⊥) → Apart xs → Apart (x ∷ xs)

-- each number of the list is below n
abbrev pub Under : (n : ℕ) (xs : List ℕ) → Type 0
Under n xs = (x : ℕ) → In x xs → x < n

-- one more number below n in front
under_more : {n x : ℕ} {xs : List ℕ} → x < n → Under n xs → Under n (x ∷ xs)
under_more {n} {x} l u y m = ⊎_elim (λ (e : y ≡ x). let h : y < n = omega arith in h) (u y) (first_or_then m)

-- what is left of a list of different numbers without the number n
record Rest (n : ℕ) (xs : List ℕ) : Type 0 where
  rest : List ℕ
  apart : Apart rest
  under : Under n rest
  part : (x : ℕ) → In x rest → In x xs
  one_less : length xs ≤ suc (length rest)

-- what is left when n is taken out
without : (n : ℕ) {xs : List ℕ} → Apart xs → Under (suc n) xs → Rest n xs
without n empty u = record { rest = []; apart = empty; under = λ x m. absurd (not_in_empty m); part = λ x m. m; one_less = omega arith }
without n (more {x = x} {xs = xs} h a) u =
    by_cases (ℕ_discrete x n)
    (λ e. record {
      rest = xs;
      apart = a;
      part = λ y m. then m;
      one_less = omega arith;
      under = λ y m. by_cases (ℕ_discrete y n) (λ f. absurd (h (same_in (e ∙ sym f) m))) (λ ne. let l = u y (then m) in omega arith);
    })
    (λ ne. let r = without n a (λ y m. u y (then m)) in
    record {
      rest = x ∷ r.rest;
      apart = more (λ m. h (r.part x m)) r.apart;
      under = under_more (let l = u x (first refl) in omega arith) r.under;
      part = λ y m. ⊎_elim (λ e. first e) (λ k. then (r.part y k)) (first_or_then m);
      one_less = let l = r.one_less in omega arith;
    })

-- the pigeonhole: of different numbers below n there are at most n
pub no_more : (n : ℕ) {xs : List ℕ} → Apart xs → Under n xs → length xs ≤ n
no_more zero empty u = omega arith
no_more zero (more {x = x} h a) u = let l = u x (first refl) in absurd (omega arith)
no_more (suc n) a u = let r = without n a u in omega (arith, r.one_less, no_more n r.apart r.under)

-- x stands in the list or it does not
stands : (x : ℕ) (xs : List ℕ) → Dec (In x xs)
stands x [] = no not_in_empty
stands x (y ∷ ys) =
    by_cases (ℕ_discrete x y)
    (λ e. yes (first e))
    (λ ne. by_cases (stands x ys) (λ m. yes (then m)) (λ nm. no (λ m. ⊎_elim ne nm (first_or_then m))))

-- the list without its first number
later : {x : ℕ} {xs : List ℕ} → Apart (x ∷ xs) → Apart xs
later (more h a) = a

-- the places that a way passes, in the order of driving
unfoldable pub places : {step : ℕ → ℕ → Type 0} {cost : ℕ → ℕ → ℕ} {s t w : ℕ} → Way step cost s t w → List ℕ
places (stay {s = s} e) = s ∷ []
places (go {s = s} r p e) = s ∷ places p

-- the number of its steps
unfoldable pub steps : {step : ℕ → ℕ → Type 0} {cost : ℕ → ℕ → ℕ} {s t w : ℕ} → Way step cost s t w → ℕ
steps (stay e) = 0
steps (go r p e) = suc (steps p)

module _ {step : ℕ → ℕ → Type 0} {cost : ℕ → ℕ → ℕ} where
  -- it passes one place more than it has steps
  pub places_steps : {s t w : ℕ} (p : Way step cost s t w) → length (places p) ≡ suc (steps p)
  unfolding places steps
  places_steps (stay e) = refl
  places_steps (go r p e) = ap suc (places_steps p)

  -- the places of a way are below n if its steps lead there
  pub places_under : {n s t w : ℕ} → ((u v : ℕ) → step u v → v < n) → s < n → (p : Way step cost s t w) → Under n (places p)
  unfolding places
  places_under h l (stay e) = under_more l (λ x m. absurd (not_in_empty m))
  places_under h l (go {s = s} {u = u} r p e) = under_more l (places_under h (h s u r) p)

  -- a way that passes no place twice has fewer steps than there are places
  pub few_steps : {n s t w : ℕ} → ((u v : ℕ) → step u v → v < n) → s < n → (p : Way step cost s t w) → Apart (places p) → steps p < n
  few_steps {n} h l p a = omega (arith, no_more n a (places_under h l p), places_steps p)

  -- what is left of a way from a place on
  record Cut {u t w : ℕ} (p : Way step cost u t w) (v : ℕ) : Type 0 where
    total : ℕ
    way : Way step cost v t total
    cheaper : total ≤ w
    apart : Apart (places p) → Apart (places way)

  -- a way that passes v holds one from v on
  cut : {u v t w : ℕ} (p : Way step cost u t w) → In v (places p) → Cut p v
  unfolding places
  cut {w = w} (stay e) m = rw (the_one m) (record { total = w; way = stay e; cheaper = omega arith; apart = λ a. a })
  cut {v = v} {w = w} (go {s = s} r p e) m =
      ⊎_elim
      (λ (h : v ≡ s). rw h (record { total = w; way = go r p e; cheaper = omega arith; apart = λ a. a }))
      (λ k. let c = cut p k in
      record { total = c.total; way = c.way; cheaper = omega (arith, c.cheaper); apart = λ a. c.apart (later a) })
      (first_or_then m)

  -- a way without its loops
  erase : {s t w : ℕ} → Way step cost s t w → (x : ℕ) × (p : Way step cost s t x) × (x ≤ w) × Apart (places p)
  unfolding places
  erase {w = w} (stay e) = (w, stay e, omega arith, more not_in_empty empty)
  erase (go {s = s} {u = u} r p e) =
      let (x, q, l, a) = erase p in
      by_cases (stands s (places q))
      (λ m. let c = cut q m in (c.total, c.way, omega (arith, c.cheaper), c.apart a))
      (λ h. (cost s u + x, go r q refl, omega arith, more h a))

  -- a way of steps that cost at most M costs at most M for each of them
  pub total_bound : {M s t w : ℕ} → ((u v : ℕ) → step u v → cost u v ≤ M) → (p : Way step cost s t w) → w ≤ steps p * M
  unfolding steps
  total_bound h (stay e) = omega arith
  total_bound {M} h (go {s = s} {u = u} r p e) = omega (arith, total_bound h p, h s u r, suc-mul (steps p) M)

  -- for any way there is one that is no dearer and costs at most M for each of the n places but one
  pub bounded : {n M s t w : ℕ} → ((u v : ℕ) → step u v → v < n) → ((u v : ℕ) → step u v → cost u v ≤ M) → s < n
      → Way step cost s t w → (x : ℕ) × Way step cost s t x × (x ≤ w) × (x + M ≤ n * M)
  bounded {n} {M} below small l p =
      let (x, q, c, a) = erase p in
      (x, q, c, omega (arith, total_bound small q, suc-mul (steps q) M, mul-le-mul_right M (few_steps below l q a)))

  -- a least way of steps that cost something passes no place twice
  pub least_apart : {s t w : ℕ} → ((u v : ℕ) → step u v → 1 ≤ cost u v) → (p : Way step cost s t w)
      → ((x : ℕ) → Way step cost s t x → w ≤ x) → Apart (places p)
  unfolding places
  least_apart h (stay e) least = more not_in_empty empty
  least_apart h (go {s = s} {u = u} r p e) least =
      more {x = s}
      (λ m. let c = cut p m in omega (arith, c.cheaper, least c.total c.way, h s u r))
      (least_apart h p (λ x q. let l = least (cost s u + x) (go r q refl) in omega arith))
