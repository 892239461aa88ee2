-- Laws of the words that the rules are built from: every later proof cites these and does not open the words. Assumes nothing.
use Prim.Native.Nat.{ℕ, zero, suc, ◌+◌, ◌≤◌, ◌<◌, min}
use mathlib.Core.Path.{◌≡◌, refl, sym, ap, ◌∙◌, subst}
use mathlib.Core.Logic.{◌⊎◌, inl, inr, ◌≢◌}
use mathlib.Core.Bool.{Bool, true, false, cond, ◌||◌}
use mathlib.Core.List.{List, [], ◌∷◌}
use native.Mathlib.Omega.{arith}
use native.Mathlib.Nat.{add-zero, zero-add}
use lib.Dec.{T, eqb, ltb, leb}
-- the kit's laws of tests, under our names
pub use lib.Dec.{not_T as not_i, T_not as not_e, eqb→eq as eqb_e, ltb→lt as ltb_e, lt→ltb as ltb_i, leb→le as leb_e, le→leb as leb_i}
pub use lib.Ieee.Fits.{and_l, and_r}
pub use mir.Facts.{yes_and as and_i, or_yes as or_e, eqb_no as neb_e, no_eqb as neb_i}
pub use denote.Floats.{is_true as holds_true, passes as true_holds}
use lib.ListN.{length, get_or}
use lib.Seq.{ext_get_or}
use borrow.Author.Tests.{eqb-true, eqb-false, eq-eqb, ltb-true, ltb-false, leb-true, leb-false}
use Rattle.rules.specs.Words.{some, each, lowest, least, those, tabulate, has}

-- ---- tests

-- no two constructors are the same: `cc` makes 0 ≡ 1 of an equation that says so
pub clash : {A : Type 0} → ◌≡◌ {A = ℕ} 0 1 → A
clash e = absurd (omega arith)

-- true is not false
pub true_false : {A : Type 0} → true ≡ false → A
true_false e = clash (cc)

-- a test holds or is false
pub split : (b : Bool) → (b ≡ true) ⊎ (b ≡ false)
split true = inl refl
split false = inr refl

-- a sum taken apart, the sum first
pub either : {A B C : Type 0} → A ⊎ B → (A → C) → (B → C) → C
either (inl a) f g = f a
either (inr b) f g = g b

-- two numbers are the same or differ
pub same_or_not : (a b : ℕ) → (a ≡ b) ⊎ (a ≢ b)
same_or_not a b = either (split (eqb a b)) (λ e. inl (eqb-true a b e)) (λ e. inr (eqb-false a b e))

pub or_l : (a b : Bool) → T a → T (a || b)
or_l true b t = tt
or_l false b t = absurd t

pub or_r : (a b : Bool) → T b → T (a || b)
or_r true b t = tt
or_r false b t = t

-- two tests that hold of the same are the same
pub same_test : (a b : Bool) → (T a → T b) → (T b → T a) → a ≡ b
same_test true true f g = refl
same_test true false f g = absurd (f tt)
same_test false true f g = absurd (g tt)
same_test false false f g = refl

-- tests on numbers
pub eqb_i : (a b : ℕ) → a ≡ b → T (eqb a b)
eqb_i a b e = true_holds (eqb a b) (eq-eqb a b e)

-- a choice by a test
pub cond_true : {A : Type 0} (t : Bool) (a b : A) → T t → cond t a b ≡ a
cond_true true a b h = refl
cond_true false a b h = absurd h

pub cond_false : {A : Type 0} (t : Bool) (a b : A) → (T t → ⊥) → cond t a b ≡ b
cond_false true a b h = absurd (h tt)
cond_false false a b h = refl

-- a number below the top was not put in for it: the test held
pub cond_made : (t : Bool) (a top : ℕ) → cond t a top < top → T t × (cond t a top ≡ a)
cond_made true a top h = (tt, refl)
cond_made false a top h = absurd (omega arith)

-- ---- some and each

pub some_i : (f : ℕ → Bool) (n i : ℕ) → i < n → T (f i) → T (some f n)
unfolding some
some_i f zero i h t = absurd (omega arith)
some_i f (suc n) i h t =
    either (split (eqb i n))
    (λ e. or_r (some f n) (f n) (subst (λ k. T (f k)) (eqb-true i n e) t))
    (λ e. or_l (some f n) (f n) (some_i f n i (omega (arith, eqb-false i n e)) t))

pub some_e : (f : ℕ → Bool) (n : ℕ) → T (some f n) → (i : ℕ) × (i < n) × T (f i)
unfolding some
some_e f zero t = absurd t
some_e f (suc n) t =
    either (or_e (some f n) (f n) t)
    (λ s. let (i, h, u) = some_e f n s in (i, omega arith, u))
    (λ s. (n, omega arith, s))

pub each_i : (f : ℕ → Bool) (n : ℕ) → ((i : ℕ) → i < n → T (f i)) → T (each f n)
unfolding each
each_i f zero h = tt
each_i f (suc n) h = and_i (each f n) (f n) (each_i f n (λ i l. h i (omega arith))) (h n (omega arith))

pub each_e : (f : ℕ → Bool) (n i : ℕ) → T (each f n) → i < n → T (f i)
unfolding each
each_e f zero i t h = absurd (omega arith)
each_e f (suc n) i t h =
    either (split (eqb i n))
    (λ e. subst (λ k. T (f k)) (sym (eqb-true i n e)) (and_r (each f n) (f n) t))
    (λ e. each_e f n i (and_l (each f n) (f n) t) (omega (arith, eqb-false i n e)))

-- ---- the least

pub least_start : (f : ℕ → ℕ) (top n : ℕ) → least f top n ≤ top
unfolding least
least_start f top zero = omega arith
least_start f top (suc n) = omega (arith, least_start f top n)

pub least_le : (f : ℕ → ℕ) (top n i : ℕ) → i < n → least f top n ≤ f i
unfolding least
least_le f top zero i h = absurd (omega arith)
least_le f top (suc n) i h =
    either (split (eqb i n))
    (λ e. omega (arith, ap f (eqb-true i n e)))
    (λ e. omega (arith, least_le f top n i (omega (arith, eqb-false i n e))))

-- the least is the top or is given by some number
pub least_made : (f : ℕ → ℕ) (top n : ℕ) → (least f top n ≡ top) ⊎ ((i : ℕ) × (i < n) × (least f top n ≡ f i))
unfolding least
least_made f top zero = inl refl
least_made f top (suc n) = by (least_made f top n) (split (leb (least f top n) (f n)))
  where
    by : (least f top n ≡ top) ⊎ ((i : ℕ) × (i < n) × (least f top n ≡ f i))
        → (leb (least f top n) (f n) ≡ true) ⊎ (leb (least f top n) (f n) ≡ false)
        → (min (least f top n) (f n) ≡ top) ⊎ ((i : ℕ) × (i < suc n) × (min (least f top n) (f n) ≡ f i))
    by (inl e) (inl l) = inl (omega (arith, leb-true (least f top n) (f n) l))
    by (inr (i, h, e)) (inl l) = inr (i, omega arith, omega (arith, leb-true (least f top n) (f n) l))
    by s (inr l) = inr (n, omega arith, omega (arith, leb-false (least f top n) (f n) l))

-- what gives the same gives the same least
pub least_same : (f g : ℕ → ℕ) (top n : ℕ) → ((i : ℕ) → i < n → f i ≡ g i) → least f top n ≡ least g top n
unfolding least
least_same f g top zero h = refl
least_same f g top (suc n) h =
    let e : least f top n ≡ least g top n = least_same f g top n (λ i l. h i (omega arith)) in
    omega (arith, h n (omega arith))

-- anything no greater than each is no greater than the least
pub least_above : (f : ℕ → ℕ) (top n d : ℕ) → d ≤ top → ((i : ℕ) → i < n → d ≤ f i) → d ≤ least f top n
unfolding least
least_above f top zero d h g = h
least_above f top (suc n) d h g = omega (arith, least_above f top n d h (λ i l. g i (omega arith)), g n (omega arith))

-- where nothing is less than the top it is the top
pub least_top : (f : ℕ → ℕ) (top n : ℕ) → ((i : ℕ) → i < n → top ≤ f i) → least f top n ≡ top
least_top f top n h = omega (arith, least_start f top n, least_above f top n top (omega arith) h)

pub least_once : (f g : ℕ → ℕ) (top n z : ℕ) → z < n → top ≤ f z → ((w : ℕ) → w ≢ z → g w ≡ f w) → least g top n ≡ min (least f top n) (g z)
unfolding least
least_once f g top zero z l h e = absurd (omega arith)
least_once f g top (suc n) z l h e =
    either (same_or_not z n)
    (λ d. omega (arith, least_same g f top n (λ i b. e i (λ x. omega arith)), ap f d, ap g d, least_start f top n))
    (λ d. omega (arith, least_once f g top n z (omega arith) h e, e n (λ x. d (sym x))))

-- ---- the lowest

pub lowest_from : (f : ℕ → Bool) (i k : ℕ) → i ≤ lowest f i k
unfolding lowest
lowest_from f i zero = omega arith
lowest_from f i (suc k) =
    either (split (f i)) (λ e. rw e (omega arith)) (λ e. rw e (omega (arith, lowest_from f (suc i) k)))

pub lowest_to : (f : ℕ → Bool) (i k : ℕ) → lowest f i k ≤ i + k
unfolding lowest
lowest_to f i zero = omega arith
lowest_to f i (suc k) =
    either (split (f i)) (λ e. rw e (omega arith)) (λ e. rw e (omega (arith, lowest_to f (suc i) k)))

-- where it is no end it passes
pub lowest_passes : (f : ℕ → Bool) (i k : ℕ) → lowest f i k < i + k → T (f (lowest f i k))
unfolding lowest
lowest_passes f i zero h = absurd (omega arith)
lowest_passes f i (suc k) h =
    either (split (f i))
    (λ e. rw e (true_holds (f i) e))
    (λ e. rw e (lowest_passes f (suc i) k (let g : cond (f i) i (lowest f (suc i) k) < i + suc k = h in omega (arith, rw e at g))))

-- nothing before it passes
pub lowest_before : (f : ℕ → Bool) (i k j : ℕ) → i ≤ j → j < lowest f i k → T (f j) → ⊥
unfolding lowest
lowest_before f i zero j l h t = omega arith
lowest_before f i (suc k) j l h t =
    let g : j < cond (f i) i (lowest f (suc i) k) = h in
    either (split (f i))
    (λ e. omega (arith, rw e at g))
    (λ e. either (split (eqb i j))
    (λ d. true_false (sym (holds_true (f j) t) ∙ ap f (sym (eqb-true i j d)) ∙ e))
    (λ d. lowest_before f (suc i) k j (omega (arith, eqb-false i j d)) (rw e at g) t))

-- it is no later than any that passes
pub lowest_le : (f : ℕ → Bool) (i k j : ℕ) → i ≤ j → T (f j) → lowest f i k ≤ j
lowest_le f i k j l t =
    either (split (ltb j (lowest f i k)))
    (λ e. absurd (lowest_before f i k j l (ltb-true j (lowest f i k) e) t))
    (λ e. ltb-false j (lowest f i k) e)

-- it is the one that passes with none before it
pub lowest_is : (f : ℕ → Bool) (i k j : ℕ) → i ≤ j → j < i + k → T (f j) → ((q : ℕ) → i ≤ q → q < j → T (f q) → ⊥) → lowest f i k ≡ j
lowest_is f i k j l h t b =
    let u : lowest f i k ≤ j = lowest_le f i k j l t in
    either (split (ltb (lowest f i k) j))
    (λ e.
    let v = ltb-true (lowest f i k) j e in
    absurd (b (lowest f i k) (lowest_from f i k) v (lowest_passes f i k (omega arith))))
    (λ e. omega (arith, ltb-false (lowest f i k) j e))

-- where none passes it is the end
pub lowest_none : (f : ℕ → Bool) (i k : ℕ) → ((q : ℕ) → i ≤ q → q < i + k → T (f q) → ⊥) → lowest f i k ≡ i + k
lowest_none f i k b =
    let u : lowest f i k ≤ i + k = lowest_to f i k in
    either (split (ltb (lowest f i k) (i + k)))
    (λ e.
    let v = ltb-true (lowest f i k) (i + k) e in
    absurd (b (lowest f i k) (lowest_from f i k) v (lowest_passes f i k v)))
    (λ e. omega (arith, ltb-false (lowest f i k) (i + k) e))

-- tests that agree have the same lowest
pub lowest_same : (f g : ℕ → Bool) (i k : ℕ) → ((q : ℕ) → i ≤ q → q < i + k → f q ≡ g q) → lowest f i k ≡ lowest g i k
unfolding lowest
lowest_same f g i zero h = refl
lowest_same f g i (suc k) h =
    rw (h i (omega arith) (omega arith))
    (ap (cond (g i) i) (lowest_same f g (suc i) k (λ q l m. h q (omega arith) (omega arith))))

-- ---- entries of lists

pub has_here : (x y : ℕ) (xs : List ℕ) → x ≡ y → T (has (x ∷ xs) y)
unfolding has
has_here x y xs e = or_l (eqb x y) (has xs y) (eqb_i x y e)

pub has_there : (x y : ℕ) (xs : List ℕ) → T (has xs y) → T (has (x ∷ xs) y)
unfolding has
has_there x y xs t = or_r (eqb x y) (has xs y) t

pub has_nil : (y : ℕ) → T (has [] y) → ⊥
unfolding has
has_nil y t = t

pub has_cons : (x y : ℕ) (xs : List ℕ) → T (has (x ∷ xs) y) → (x ≡ y) ⊎ T (has xs y)
unfolding has
has_cons x y xs t = either (or_e (eqb x y) (has xs y) t) (λ e. inl (eqb_e x y e)) (λ h. inr h)

-- an entry stands at some place, and what stands at a place is an entry
pub has_at : (xs : List ℕ) (y : ℕ) → T (has xs y) → (k : ℕ) × (k < length xs) × (get_or xs k 0 ≡ y)
has_at [] y t = absurd (has_nil y t)
has_at (x ∷ xs) y t =
    either (has_cons x y xs t)
    (λ e. (0, omega arith, e))
    (λ h. let (k, l, e) = has_at xs y h in (suc k, omega arith, e))

pub at_has : (xs : List ℕ) (k : ℕ) → k < length xs → T (has xs (get_or xs k 0))
at_has [] k h = absurd (omega arith)
at_has (x ∷ xs) zero h = has_here x x xs refl
at_has (x ∷ xs) (suc k) h = has_there x (get_or xs k 0) xs (at_has xs k (omega arith))

-- those that pass are the entries, and no others
pub those_e : (f : ℕ → Bool) (i k q : ℕ) → T (has (those f i k) q) → (i ≤ q) × (q < i + k) × T (f q)
unfolding those
those_e f i zero q t = absurd (has_nil q t)
those_e f i (suc k) q t =
    either (split (f i))
    (λ e. either (has_cons i q (those f (suc i) k) (rw e at t))
    (λ d. (omega arith, omega arith, subst (λ j. T (f j)) d (true_holds (f i) e)))
    (λ h. let (a, b, c) = those_e f (suc i) k q h in (omega arith, omega arith, c)))
    (λ e. let (a, b, c) = those_e f (suc i) k q (rw e at t) in (omega arith, omega arith, c))

pub those_i : (f : ℕ → Bool) (i k q : ℕ) → i ≤ q → q < i + k → T (f q) → T (has (those f i k) q)
unfolding those
those_i f i zero q l h t = absurd (omega arith)
those_i f i (suc k) q l h t =
    either (split (eqb i q))
    (λ d.
    let e : f i ≡ true = ap f (eqb-true i q d) ∙ holds_true (f q) t in
    rw e (has_here i q (those f (suc i) k) (eqb-true i q d)))
    (λ d.
    let r : T (has (those f (suc i) k) q) = those_i f (suc i) k q (omega (arith, eqb-false i q d)) (omega arith) t in
    either (split (f i)) (λ e. rw e (has_there i q (those f (suc i) k) r)) (λ e. rw e r))

-- ---- lists made one by one

pub length_tabulate : (f : ℕ → ℕ) (i k : ℕ) → length (tabulate f i k) ≡ k
unfolding tabulate
length_tabulate f i zero = refl
length_tabulate f i (suc k) = ap suc (length_tabulate f (suc i) k)

get_d_tabulate : (f : ℕ → ℕ) (i k j d : ℕ) → j < k → get_or (tabulate f i k) j d ≡ f (i + j)
unfolding tabulate
get_d_tabulate f i zero j d h = absurd (omega arith)
get_d_tabulate f i (suc k) zero d h = ap f (sym (add-zero i))
get_d_tabulate f i (suc k) (suc j) d h =
    get_d_tabulate f (suc i) k j d (omega arith) ∙ ap f (let e : suc i + j ≡ i + suc j = omega arith in e)

-- a table from 0 has at each place what f gives for the place
pub tabulate_at : (f : ℕ → ℕ) (k j d : ℕ) → j < k → get_or (tabulate f 0 k) j d ≡ f j
tabulate_at f k j d h = get_d_tabulate f 0 k j d h ∙ ap f (zero-add j)

-- a list that has at each place what f gives there is the table of f
pub is_tabulate : (f : ℕ → ℕ) (xs : List ℕ) → ((k : ℕ) → k < length xs → get_or xs k 0 ≡ f k) → xs ≡ tabulate f 0 (length xs)
is_tabulate f xs h =
    ext_get_or 0 xs (tabulate f 0 (length xs)) (sym (length_tabulate f 0 (length xs)))
    (λ k l. h k l ∙ sym (tabulate_at f (length xs) k 0 l))

-- two numbers of which neither is below the other are the same
pub neither_below : (p q : ℕ) → (p < q → ⊥) → (q < p → ⊥) → p ≡ q
neither_below p q f g =
    either (split (ltb p q))
    (λ e. absurd (f (ltb-true p q e)))
    (λ e. either (split (ltb q p))
    (λ d. absurd (g (ltb-true q p d)))
    (λ d. omega (arith, ltb-false p q e, ltb-false q p d)))
