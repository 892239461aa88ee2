-- One list in order in another: what that says of both, and how the code finds out. Assumes nothing.
use Prim.Native.Nat.{ℕ, zero, suc, ◌+◌, ◌-◌, ◌≤◌, ◌<◌}
use mathlib.Core.Path.{◌≡◌, refl, sym, ◌∙◌}
use mathlib.Core.Logic.{◌⊎◌, inl, inr, ◌≢◌}
use mathlib.Core.Bool.{Bool, true, false}
use mathlib.Core.List.{List, [], ◌∷◌}
use native.Mathlib.Omega.{arith}
use native.Mathlib.Numerals.{add-one}
use lib.Dec.{T, eqb, ltb}
use lib.ListN.{length, get_or}
use lib.Seq.{slice, slice-cons, slice_empty, length-slice}
use borrow.Author.Tests.{eq-eqb, ne_eqb, eqb-true, eqb-false, ltb-true, ltb-false}
use Rattle.rules.specs.Words.{has}
use Rattle.rules.specs.Hierarchy.{ascends}
use Rattle.theory.proofs.Words.{either, split, true_false, has_here, has_there, has_nil, has_cons}
use Rattle.theory.proofs.GraphRows.{ascends_e, ascends_i, ascends_has}
use Rattle.hierarchy.specs.Tests.{in_order}

-- what comes in order in a list stands in it
pub order_has : (xs ys : List ℕ) (q : ℕ) → T (in_order xs ys) → T (has xs q) → T (has ys q)
unfolding in_order
order_has [] ys q t h = absurd (has_nil q h)
order_has (x ∷ xs) [] q t h = absurd t
order_has (x ∷ xs) (y ∷ ys) q t h =
    either (split (eqb y x))
    (λ e. either (has_cons x q xs h)
    (λ d. has_here y q ys (eqb-true y x e ∙ d))
    (λ g. has_there y q ys (order_has xs ys q (rw e at t) g)))
    (λ e. has_there y q ys (order_has (x ∷ xs) ys q (rw e at t) h))

-- what comes in order in a list that ascends ascends
pub order_ascends : (lo lo' n : ℕ) (xs ys : List ℕ) → lo ≤ lo' → T (in_order xs ys) → T (ascends lo' n ys) → T (ascends lo n xs)
unfolding in_order ascends
order_ascends lo lo' n [] ys l t a = tt
order_ascends lo lo' n (x ∷ xs) [] l t a = absurd t
order_ascends lo lo' n (x ∷ xs) (y ∷ ys) l t a =
    let (b, c, u) = ascends_e lo' n y ys a in
    either (split (eqb y x))
    (λ e.
    let d : y ≡ x = eqb-true y x e in
    ascends_i lo n x xs (omega arith) (omega arith) (order_ascends (suc x) (suc y) n xs ys (omega arith) (rw e at t) u))
    (λ e. order_ascends lo (suc y) n (x ∷ xs) ys (omega arith) (rw e at t) u)

-- of two lists that ascend, one of which has all entries of the other, the other comes in order in it
pub order_i : (lo lo' n : ℕ) (xs ys : List ℕ) → T (ascends lo n xs) → T (ascends lo' n ys) → ((q : ℕ) → T (has xs q) → T (has ys q)) → T (in_order xs ys)
unfolding in_order
order_i lo lo' n [] ys s t f = tt
order_i lo lo' n (x ∷ xs) [] s t f = absurd (has_nil x (f x (has_here x x xs refl)))
order_i lo lo' n (x ∷ xs) (y ∷ ys) s t f =
    let (a, b, u) = ascends_e lo n x xs s in
    let (c, d, v) = ascends_e lo' n y ys t in
    either (split (eqb y x))
    (λ e.
    rw e
    (order_i (suc x) (suc y) n xs ys u v
    (λ q h. either (has_cons y q ys (f q (has_there x q xs h)))
    (λ g. absurd (omega (arith, eqb-true y x e, ascends_has (suc x) n q xs u h)))
    (λ g. g))))
    (λ e.
    let apart : y ≢ x = eqb-false y x e in
    let above : y < x =
    either (has_cons y x ys (f x (has_here x x xs refl))) (λ g. absurd (apart g)) (λ g. (ascends_has (suc y) n x ys v g).0) in
    rw e
    (order_i lo (suc y) n (x ∷ xs) ys s v
    (λ q h. either (has_cons y q ys (f q h))
    (λ g.
    absurd (either (has_cons x q xs h) (λ k. omega arith) (λ k. omega (arith, ascends_has (suc x) n q xs u k))))
    (λ g. g))))

-- a longer list does not come in a shorter one
order_short : (xs ys : List ℕ) → length ys < length xs → in_order xs ys ≡ false
unfolding in_order
order_short [] ys l = absurd (omega arith)
order_short (x ∷ xs) [] l = refl
order_short (x ∷ xs) (y ∷ ys) l =
    either (split (eqb y x))
    (λ e. rw e (order_short xs ys (omega arith)))
    (λ e. rw e (order_short (x ∷ xs) ys (omega arith)))

-- ---- entries in a run, each the same as the one `gap` places behind it

-- they come in order there
abbrev run_holds : (h : List ℕ) (k end gap : ℕ) → Bool
run_holds h k end gap = in_order (slice k end h) (slice (k + gap) (end + gap) h)

-- each is the same as the one behind it
pub record Run (h : List ℕ) (k end gap : ℕ) : Type 0 where
  pub alike : (i : ℕ) → k ≤ i → i < end → get_or h (i + gap) 0 ≡ get_or h i 0

-- the first two of a run
run_first : (h : List ℕ) (k end gap : ℕ) → k < end → end + gap ≤ length h
    → run_holds h k end gap ≡ in_order (get_or h k 0 ∷ slice (suc k) end h) (get_or h (k + gap) 0 ∷ slice (suc k + gap) (end + gap) h)
run_first h k end gap l fits =
    let e : suc k + gap ≡ suc (k + gap) = omega arith in
    rw (e, slice-cons k end h 0 l (omega arith), slice-cons (k + gap) (end + gap) h 0 (omega arith) fits) refl

-- a run of d entries comes in order
run_holds_lem : (d : ℕ) (h : List ℕ) (k end gap : ℕ) → k + d ≡ end → end + gap ≤ length h → Run h k end gap → run_holds h k end gap ≡ true
unfolding in_order
run_holds_lem zero h k end gap e fits r =
    let x : k ≡ end = omega arith in
    rw (x, slice_empty end h) refl
run_holds_lem (suc d) h k end gap e fits r =
    run_first h k end gap (omega arith) fits
    ∙ rw (eq-eqb (get_or h (k + gap) 0) (get_or h k 0) (r.alike k (omega arith) (omega arith)))
    (run_holds_lem d h (suc k) end gap (omega arith) fits (record { alike = λ i l m. r.alike i (omega arith) m }))

-- what comes in order among as many is a run
holds_run : (d : ℕ) (h : List ℕ) (k end gap : ℕ) → k + d ≡ end → end + gap ≤ length h → T (run_holds h k end gap) → (i : ℕ) → k ≤ i → i < end
    → get_or h (i + gap) 0 ≡ get_or h i 0
unfolding in_order
holds_run zero h k end gap e fits t i l m = absurd (omega arith)
holds_run (suc d) h k end gap e fits t i l m =
    let u = rw (run_first h k end gap (omega arith) fits) at t in
    either (split (eqb (get_or h (k + gap) 0) (get_or h k 0)))
    (λ q. either (split (eqb i k))
    (λ x. let y : i ≡ k = eqb-true i k x in rw y (eqb-true (get_or h (k + gap) 0) (get_or h k 0) q))
    (λ x. let y : i ≢ k = eqb-false i k x in holds_run d h (suc k) end gap (omega arith) fits (rw q at u) i (omega arith) m))
    (λ q. absurd (rw (
      q,
      order_short (get_or h k 0 ∷ slice (suc k) end h) (slice (suc k + gap) (end + gap) h)
          (omega (arith, length-slice (suc k) end h (omega arith), length-slice (suc k + gap) (end + gap) h fits)),
    ) at u))

-- nothing is a run
pub run_none : (h : List ℕ) (k gap : ℕ) → Run h k k gap
run_none h k gap = record { alike = λ i m n. absurd (omega arith) }

-- runs that meet or overlap are one
pub run_on : {h : List ℕ} {k a b end gap : ℕ} → Run h k a gap → Run h b end gap → b ≤ a → Run h k end gap
run_on {a = a} r s l =
    record { alike = λ i m n. either (split (ltb i a)) (λ o. r.alike i m (ltb-true i a o)) (λ o. s.alike i (omega (arith, ltb-false i a o)) n) }

-- a run by its test
pub run_e : (h : List ℕ) (k end gap : ℕ) → k ≤ end → end + gap ≤ length h → true ≡ run_holds h k end gap → Run h k end gap
run_e h k end gap l fits e = record { alike = holds_run (end - k) h k end gap (omega arith) fits (rw (sym e) tt) }

-- the test by a run
run_i : (h : List ℕ) (k end gap : ℕ) → k ≤ end → end + gap ≤ length h → Run h k end gap → true ≡ run_holds h k end gap
run_i h k end gap l fits r = sym (run_holds_lem (end - k) h k end gap (omega arith) fits r)

-- what is no run fails the test
no_run : (h : List ℕ) (k end gap : ℕ) → k ≤ end → end + gap ≤ length h → (Run h k end gap → ⊥) → false ≡ run_holds h k end gap
no_run h k end gap l fits n =
    either (split (run_holds h k end gap)) (λ e. absurd (n (run_e h k end gap l fits (sym e)))) (λ e. sym e)

-- the entries before `at` are the same, or some are not
pub record Compared (h : List ℕ) (k end gap at : ℕ) (same : Bool) : Type 0 where
  pub within : at ≤ end
  pub so_far : ((same ≡ true) × Run h k at gap) ⊎ ((same ≡ false) × (Run h k end gap → ⊥))

module _ {h : List ℕ} {k end gap at : ℕ} {same : Bool} (c : Compared h k end gap at same) where
  -- all compared
  pub compared_all : k ≤ end → end + gap ≤ length h → end ≤ at → same ≡ run_holds h k end gap
  compared_all m fits l =
      let e : at ≡ end = omega (arith, c.within) in
      either c.so_far (λ s. s.0 ∙ run_i h k end gap m fits (rw e at s.1)) (λ s. s.0 ∙ no_run h k end gap m fits s.1)

-- a part that fails the test fails it for the whole
pub part_fails : (h : List ℕ) (k end gap a b : ℕ) → k ≤ a → a ≤ b → b ≤ end → end + gap ≤ length h → false ≡ run_holds h a b gap → false ≡ run_holds h k end gap
part_fails h k end gap a b l m n fits e =
    no_run h k end gap (omega arith) fits
    (λ r. true_false (run_i h a b gap m (omega arith) (record { alike = λ i x y. r.alike i (omega arith) (omega arith) }) ∙ sym e))

-- what follows a run decides
pub last_part : (h : List ℕ) (k end gap at a : ℕ) (r : Bool) → k ≤ a → a ≤ at → a ≤ end → end + gap ≤ length h → Run h k at gap → r ≡ run_holds h a end gap
    → r ≡ run_holds h k end gap
last_part h k end gap at a r l m n fits s e =
    either (split r)
    (λ x. x ∙ run_i h k end gap (omega arith) fits (run_on s (run_e h a end gap n fits (sym x ∙ e)) m))
    (λ x. x ∙ part_fails h k end gap a end l n (omega arith) fits (sym x ∙ e))

-- rows of one length, by their ends
pub same_rows_are : (h : List ℕ) (k end j stop gap : ℕ) (r : Bool) → k ≤ end → end ≤ j → j ≤ stop → stop - j ≡ end - k → gap ≡ j - k → r ≡ run_holds h k end gap
    → r ≡ in_order (slice k end h) (slice j stop h)
same_rows_are h k end j stop gap r a b c d e g =
    let x : k + gap ≡ j = omega arith in
    let y : end + gap ≡ stop = omega arith in
    g ∙ rw (x, y) refl

-- ---- by looking at one entry after the other

-- the entries from `at` on are left to meet, the first of which is wanted, from `next` on
pub record Sought (h : List ℕ) (k end j stop at want next : ℕ) : Type 0 where
  pub within : at < end
  pub behind : end ≤ next
  pub room : next ≤ stop
  pub wanted : want ≡ get_or h at 0
  pub same : in_order (slice k end h) (slice j stop h) ≡ in_order (slice at end h) (slice next stop h)

-- that, or all are met
pub record Met (h : List ℕ) (k end j stop at want next : ℕ) : Type 0 where
  pub so_far : ((end ≤ at) × (true ≡ in_order (slice k end h) (slice j stop h))) ⊎ Sought h k end j stop at want next

module _ {h : List ℕ} {k end j stop at want next : ℕ} (s : Sought h k end j stop at want next) (stops : stop ≤ length h) where
  -- nowhere is left to look
  pub sought_none : stop ≤ next → false ≡ in_order (slice k end h) (slice j stop h)
  sought_none l =
      sym (s.same ∙ order_short (slice at end h) (slice next stop h)
      (omega (arith, s.within, s.behind, s.room, length-slice at end h (omega (arith, s.behind, s.room)), length-slice next stop h stops)))

  module _ (l : next < stop) where
    -- the first that is left, and what it is compared with
    first_two : in_order (slice at end h) (slice next stop h) ≡ in_order (get_or h at 0 ∷ slice (suc at) end h) (get_or h next 0 ∷ slice (suc next) stop h)
    first_two = rw (slice-cons at end h 0 s.within (omega (arith, s.behind)), slice-cons next stop h 0 l stops) refl

    -- they differ: on to the next
    pub sought_miss : (get_or h next 0 ≡ want → ⊥) → Sought h k end j stop at want (next + 1)
    unfolding in_order
    sought_miss n =
        record {
          within = s.within;
          behind = omega (arith, s.behind);
          room = omega arith;
          wanted = s.wanted;
          same = s.same ∙ first_two
              ∙ rw (ne_eqb (get_or h next 0) (get_or h at 0) (λ e. n (e ∙ sym s.wanted)), slice-cons at end h 0 s.within (omega (arith, s.behind)), add-one next) refl;
        }

    module _ (e : get_or h next 0 ≡ want) where
      -- they are the same
      both_on : in_order (slice k end h) (slice j stop h) ≡ in_order (slice (suc at) end h) (slice (suc next) stop h)
      unfolding in_order
      both_on = s.same ∙ first_two ∙ rw (eq-eqb (get_or h next 0) (get_or h at 0) (e ∙ s.wanted)) refl

      -- and more are left
      sought_more : at + 1 < end → Sought h k end j stop (at + 1) (get_or h (at + 1) 0) (next + 1)
      sought_more m =
          record {
            within = m;
            behind = omega (arith, s.behind);
            room = omega arith;
            wanted = refl;
            same = both_on ∙ rw (add-one at, add-one next) refl;
          }

      -- and none are
      sought_all : end ≤ at + 1 → true ≡ in_order (slice k end h) (slice j stop h)
      unfolding in_order
      sought_all m =
          let x : suc at ≡ end = omega (arith, s.within) in
          sym (both_on ∙ rw (x, slice_empty end h) refl)

      -- either way
      pub sought_hit : Met h k end j stop (at + 1) (get_or h (at + 1) 0) (next + 1)
      sought_hit =
          record {
            so_far = either (split (ltb (at + 1) end))
                (λ x. inr (sought_more (ltb-true (at + 1) end x)))
                (λ x. inl (ltb-false (at + 1) end x, sought_all (ltb-false (at + 1) end x)));
          }

module _ {h : List ℕ} {k end j stop at want next : ℕ} (m : Met h k end j stop at want next) where
  -- all are met
  pub met_all : end ≤ at → true ≡ in_order (slice k end h) (slice j stop h)
  met_all l = either m.so_far (λ d. d.1) (λ s. absurd (omega (arith, s.within)))

  -- some are not
  pub met_some : at < end → Sought h k end j stop at want next
  met_some l = either m.so_far (λ d. absurd (omega (arith, d.0))) (λ s. s)

  module _ (stops : stop ≤ length h) (l : next < stop) where
    -- one more
    pub met_hit : get_or h next 0 ≡ want → Met h k end j stop (at + 1) (get_or h (at + 1) 0) (next + 1)
    met_hit e = either m.so_far (λ d. record { so_far = inl (omega (arith, d.0), d.1) }) (λ s. sought_hit s stops l e)

    -- no more
    pub met_miss : (get_or h next 0 ≡ want → ⊥) → Met h k end j stop at want (next + 1)
    met_miss n = either m.so_far (λ d. record { so_far = inl d }) (λ s. record { so_far = inr (sought_miss s stops l n) })

-- at the last place
pub sought_end : {h : List ℕ} {k end j stop at want next : ℕ} → Sought h k end j stop at want next → stop ≤ length h → next < stop → stop ≤ next + 1
    → get_or h next 0 ≡ want → eqb (at + 1) end ≡ in_order (slice k end h) (slice j stop h)
sought_end {end = end} {at = at} s stops l m e =
    either (split (eqb (at + 1) end))
    (λ x. x ∙ met_all (sought_hit s stops l e) (omega (arith, eqb-true (at + 1) end x)))
    (λ x. let n : at + 1 ≢ end = eqb-false (at + 1) end x in x ∙ sought_none (met_some (sought_hit s stops l e) (omega (arith, s.within))) stops m)
