-- The flagged places of one word, from one bit that is set to the next. Assumes nothing.
use Prim.Native.Nat.{ℕ, suc, ◌+◌, ◌-◌, ◌*◌, ◌/◌, ◌%◌, ◌^◌, ◌≤◌, ◌<◌, min}
use mathlib.Core.Path.{◌≡◌, sym, ap, ◌∙◌, subst}
use mathlib.Core.Logic.{◌≢◌}
use mathlib.Core.Bool.{Bool, true}
use mathlib.Core.List.{List}
use native.Mathlib.Omega.{arith}
use lib.Bits.{bit_and}
use lib.Count.{count_trailing_zeros}
use lib.Dec.{T, eqb, ltb}
use lib.ListN.{length, get_or, set}
use lib.Pow.{pow_mono, shr_le, shr_lt, shr-shr, split as parts}
use borrow.Author.Tests.{ltb-true, ltb-false}
use Rattle.theory.proofs.Words.{either, split, eqb_i, eqb_e}
use Rattle.reconsider.specs.Flags.{flagged}
use Rattle.reconsider.specs.Marks.{MarkedOf}
use Rattle.reconsider.proofs.Bits.{Lowest, lowest_bit, without, below_off, shifted_off, cleared}
use Rattle.reconsider.proofs.Flags.{word_from, flag_bit}
use Rattle.reconsider.proofs.Marks.{marked_off, marked_one, marked_join, marked_end}

-- so many bits of the word have had their turn, and rest has the others
pub record Wording (heads flags : List ℕ) (from end : ℕ) (marks₀ : List Bool) (rest : ℕ) (marks : List Bool) : Type 0 where
  pub past : ℕ
  pub within : from % 64 + past ≤ 64
  pub left : rest ≡ word_from flags from / 2 ^ past * 2 ^ past
  pub marked : MarkedOf heads (flagged flags) from (min end (from + past)) marks₀ marks

-- none yet
pub wording_start : {heads flags : List ℕ} {marks : List Bool} {from end : ℕ} → Wording heads flags from end marks (word_from flags from) marks
wording_start {flags = flags} {from = from} =
    let w = word_from flags from in
    record { past = 0; within = omega arith; left = sym (parts w 0) ∙ omega arith; marked = marked_off (λ k h l t. omega arith) }

module _ {heads flags : List ℕ} {from end : ℕ} {marks₀ : List Bool} {rest : ℕ} {marks : List Bool} (K : Wording heads flags from end marks₀ rest marks) where
  -- rest has the bits of the word that are left
  rest_bit : (b : ℕ) → K.past ≤ b → rest / 2 ^ b ≡ word_from flags from / 2 ^ b
  rest_bit b h = ap (λ v. v / 2 ^ b) K.left ∙ cleared (word_from flags from) K.past b h

  -- and so the flags of their places
  rest_flag : (k : ℕ) → from + K.past ≤ k → k < (from / 64 + 1) * 64 → flagged flags k ≡ eqb (rest / 2 ^ (k - from) % 2) 1
  rest_flag k h l = flag_bit flags from k (omega arith) l ∙ ap (λ v. eqb (v % 2) 1) (sym (rest_bit (k - from) (omega arith)))

  -- a place is not flagged where rest does not have its bit
  rest_off : (k : ℕ) → from + K.past ≤ k → k < (from / 64 + 1) * 64 → rest / 2 ^ (k - from) % 2 ≡ 0 → T (flagged flags k) → ⊥
  rest_off k h l e t = omega (arith, eqb_e (rest / 2 ^ (k - from) % 2) 1 (subst T (rest_flag k h l) t))

  -- if rest has no bit more for the places before the end, all have had their turn
  marked_far : from < end → ((k : ℕ) → from ≤ k → k < end → rest / 2 ^ (k - from) % 2 ≡ 0)
      → MarkedOf heads (flagged flags) from (min end ((from / 64 + 1) * 64)) marks₀ marks
  marked_far l off =
      marked_join (omega arith) (omega (arith, K.within)) K.marked (marked_off (λ k h m t.
      rest_off k (omega arith) (omega arith) (off k (omega arith) (omega arith)) t))

  -- as where it has none at all
  pub wording_none : from < end → rest ≡ 0 → MarkedOf heads (flagged flags) from (min end ((from / 64 + 1) * 64)) marks₀ marks
  wording_none l e = marked_far l (λ k h m. omega (arith, shr_le rest (k - from)))

  module _ (fits : get_or flags (from / 64) 0 < 2 ^ 64) (some : rest ≢ 0) where
    -- its lowest bit
    low : Lowest rest (count_trailing_zeros 64 rest)
    low = lowest_bit 64 rest (omega arith) (omega (arith, K.left, parts (word_from flags from) K.past, shr_le (get_or flags (from / 64) 0) (from % 64)))

    -- is one of those that are left
    low_left : K.past ≤ count_trailing_zeros 64 rest
    low_left =
        let t = count_trailing_zeros 64 rest in
        either (split (ltb t K.past))
        (λ d.
        let e : rest / 2 ^ t % 2 ≡ 0 = ap (λ v. v / 2 ^ t % 2) K.left ∙ shifted_off (word_from flags from / 2 ^ K.past) K.past t (ltb-true t K.past d) in
        absurd (omega (arith, low.odd)))
        (λ d. ltb-false t K.past d)

    -- and of the word
    low_within : from % 64 + count_trailing_zeros 64 rest < 64
    low_within =
        let t = count_trailing_zeros 64 rest in
        let s = from % 64 + t in
        either (split (ltb s 64)) (λ d. ltb-true s 64 d)
        (λ d.
        let e : rest / 2 ^ t ≡ get_or flags (from / 64) 0 / 2 ^ s = rest_bit t low_left ∙ shr-shr (get_or flags (from / 64) 0) (from % 64) t in
        let z : get_or flags (from / 64) 0 / 2 ^ s < 2 ^ 0 = shr_lt 0 s (omega (arith, pow_mono {i = 64} {j = 0 + s} (omega (arith, ltb-false s 64 d)))) in
        absurd (omega (arith, low.odd)))

    module _ {j : ℕ} (ej : j ≡ from + count_trailing_zeros 64 rest) where
      -- no place before that of the lowest bit is flagged
      pub wording_short : from < end → end ≤ j → MarkedOf heads (flagged flags) from (min end ((from / 64 + 1) * 64)) marks₀ marks
      wording_short l h = marked_far l (λ k a b. below_off low (k - from) (omega arith))

      -- that place is, and what stands there is marked
      pub wording_more : {y : ℕ} {marks' : List Bool} → j < end → y ≡ get_or heads j 0 → y < length marks → marks' ≡ set marks y true
          → Wording heads flags from end marks₀ (bit_and rest (rest - 1)) marks'
      wording_more h ey seat e =
          let t = count_trailing_zeros 64 rest in
          let d : j - from ≡ t = omega arith in
          let in_word : j < (from / 64 + 1) * 64 = omega (arith, low_within) in
          let here : T (flagged flags j) =
          rw (rest_flag j (omega (arith, low_left)) in_word, d) (eqb_i (rest / 2 ^ t % 2) 1 low.odd) in
          record {
            past = suc t;
            within = omega (arith, low_within);
            left = without low ∙ ap (λ v. v * 2 ^ suc t) (rest_bit (suc t) (omega (arith, low_left)));
            marked =
                marked_end (omega arith)
                (marked_join (omega arith) (omega arith)
                (marked_join (omega arith) (omega (arith, low_left)) K.marked (marked_off (λ k a b.
                rest_off k (omega arith) (omega arith) (below_off low (k - from) (omega arith)))))
                (marked_one here ey seat e));
          }
