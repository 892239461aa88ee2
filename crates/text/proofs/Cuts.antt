-- Parts of a text, its words and its numbers. Assumes nothing.
use Rattle.std.proofs.Common.{ℕ, zero, suc, ◌+◌, ◌*◌, ◌-◌, ◌^◌, ◌≤◌, ◌<◌, ◌≡◌, refl, ◌∙◌, true, false, ◌&&◌, List, [], ◌∷◌, Option, Some, None, Bor, length, get_or, take, drop, eqb, ltb, leb, arith, add-one, take_all, length-drop, pow-suc, drop-cons, drop_of_length-le, lt-ltb, le-ltb, le-leb, eq-eqb, ne_eqb}
use Rattle.std.specs.Slice.{IsGetRangeResult}
use Prim.Native.Nat.compare
use Rattle.std.proofs.lemmas.Bool.Decides.{nat_tests}
use mathlib.Core.Bool.{and-false}
use native.Mathlib.Nat.{pow-le-pow_right}
use lib.Pointwise.{pointwise}
use Rattle.text.specs.Bytes.{same, cut_at, digits, number_after}
use Rattle.text.specs.ReadBack.{PartEnd, parts_after, parts_left, number_said}

-- ---- where a part ends

-- at its first mark, or at the end of all
pub part_at : (mark : ℕ) (bytes : List ℕ) (at : ℕ) → at ≤ length bytes → ((k : ℕ) → k < at → get_or bytes k 0 ≡ mark → ⊥) → (at < length bytes → get_or bytes at 0 ≡ mark) → cut_at mark bytes ≡ take at bytes ∷ parts_after mark bytes at
unfolding cut_at parts_after
part_at mark [] zero h none here = refl
part_at mark [] (suc at) h none here = absurd (omega arith)
part_at mark (x ∷ xs) zero h none here = rw (eq-eqb x mark (here (omega arith)), lt-ltb 0 (suc (length xs)) (omega arith)) refl
part_at mark (x ∷ xs) (suc at) h none here =
    let c = part_at mark xs at (omega arith) (λ k l. none (suc k) (omega arith)) (λ l. here (omega arith)) in
    let t : ltb (suc at) (suc (length xs)) ≡ ltb at (length xs) = rw compare.suc-suc refl in
    rw (ne_eqb x mark (none 0 (omega arith)), c, t) refl

-- the parts behind a part: what stands behind its mark, if it has one
pub parts_behind : (mark : ℕ) (bytes : List ℕ) (end : ℕ) (r : Option (Bor (List ℕ))) → PartEnd bytes mark end → IsGetRangeResult bytes (end + 1) (length bytes) r → cut_at mark bytes ≡ take end bytes ∷ parts_left (record { rest = r; mark = mark })
unfolding parts_after
parts_behind mark w end None p h =
    let e : length w ≤ end = omega (arith, p.high, h.0) in p.cut ∙ rw (le-ltb end (length w) e) refl
parts_behind mark w end (Some x) p h =
    let r = h.0 in
    let l : end < length w = omega (arith, r.0) in
    let n : length (drop (suc end) w) ≤ length w - suc end = omega (arith, length-drop (suc end) w) in
    let t : x.now ≡ drop (suc end) w = r.2 ∙ rw add-one (take_all (length w - suc end) (drop (suc end) w) n) in
    p.cut ∙ rw (lt-ltb end (length w) l, t) refl

-- ---- numbers

-- the first k digits of a word have been read, and come to `value`
pub record Counted (w : List ℕ) (value k : ℕ) : Type 0 where
  pub all : digits w ≡ digits (drop k w)
  pub says : number_after 0 w ≡ number_after value (drop k w)
  pub small : value < 10 ^ k

module _ (w : List ℕ) (value k : ℕ) (p : Counted w value k) where
  -- a ninth digit still fits
  pub counted_fits : k < length w → length w ≤ 9 → value < 100000000
  counted_fits h few = omega (arith, p.small, pow-le-pow_right {n = 10} (omega arith) {i = k} {j = 8} (omega arith))

  -- a digit more
  pub counted_more : k < length w → 48 ≤ get_or w k 0 → get_or w k 0 ≤ 57 → Counted w (value * 10 + (get_or w k 0 - 48)) (k + 1)
  unfolding digits number_after
  counted_more h a b = record {
    all = p.all ∙ rw (add-one, drop-cons w k 0, le-leb 48 (get_or w k 0) a, lt-ltb (get_or w k 0) 58 (omega arith)) refl;
    says = p.says ∙ rw (add-one, drop-cons w k 0) refl;
    small = rw (add-one, pow-suc 10 k) (omega (arith, p.small));
  }

  -- a byte that is no digit
  pub counted_not : k < length w → (leb 48 (get_or w k 0) && leb (get_or w k 0) 57) ≡ false → None ≡ number_said w
  unfolding number_said digits
  counted_not h e =
      let d : digits w ≡ false = p.all ∙ rw (drop-cons w k 0, under_58 (get_or w k 0), e) refl in
      rw (d, and-false (leb 1 (length w) && leb (length w) 9)) refl
    where
      under_58 : (x : ℕ) → ltb x 58 ≡ leb x 57
      under_58 x = grind (arith, nat_tests)

  -- after the last digit the number is known
  pub counted_all : length w ≤ k → (length w ≡ 0 → ⊥) → length w ≤ 9 → Some value ≡ number_said w
  unfolding number_said digits number_after
  counted_all h some few =
      let n : drop k w ≡ [] = drop_of_length-le w h in
      let d : digits w ≡ true = p.all ∙ rw n refl in
      let v : number_after 0 w ≡ value = p.says ∙ rw n refl in
      rw (d, v, le-leb 1 (length w) (omega arith), le-leb (length w) 9 few) refl

-- ---- words

-- two texts are the same as the check compares them
pub same_is : (w v : List ℕ) → pointwise eqb w v ≡ same w v
unfolding same
same_is [] [] = refl
same_is [] (y ∷ ys) = refl
same_is (x ∷ xs) [] = refl
same_is (x ∷ xs) (y ∷ ys) = rw (same_is xs ys) refl
