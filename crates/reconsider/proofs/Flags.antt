-- The word and the bit of a place; one flag set, the others as they were. Assumes nothing.
use Prim.Native.Nat.{ℕ, zero, suc, ◌+◌, ◌-◌, ◌*◌, ◌/◌, ◌%◌, ◌^◌, ◌≤◌, ◌<◌}
use mathlib.Core.Path.{◌≡◌, refl, sym, ap, ◌∙◌}
use mathlib.Core.Logic.{◌≢◌}
use mathlib.Core.List.{List}
use native.Mathlib.Omega.{arith}
use native.Mathlib.Nat.{div-add-mod', mod-lt, div-lt_iff_lt-mul}
use lib.Bits.{bit_or, or_shr, or_mod, or_zero_r}
use lib.Pow.{pow-lt, shl_exact, shl-shr, shr-shr, shr_lt}
use lib.Dec.{eqb, ltb}
use lib.ListN.{length, get_or, set}
use borrow.Author.Tests.{ltb-true, ltb-false}
use Rattle.theory.proofs.Words.{either, split, eqb_i, same_or_not}
use Rattle.turns.proofs.Stored.{stored}
use Rattle.reconsider.specs.Flags.{flagged, Flagged}
use Rattle.reconsider.proofs.Bits.{shifted_off}

-- a place before E has a word
pub word_in : (k e words : ℕ) → k < e → e ≤ words * 64 → k / 64 < words
word_in k e words l h = (div-lt_iff_lt-mul {k = 64} {x = k} {y = words} (omega arith)).1 (omega arith)

-- the word of a place, from the bit of that place on
abbrev pub word_from : (flags : List ℕ) (from : ℕ) → ℕ
word_from flags from = get_or flags (from / 64) 0 / 2 ^ (from % 64)

-- it has the flags of the later places of the word
pub flag_bit : (flags : List ℕ) (from k : ℕ) → from ≤ k → k < (from / 64 + 1) * 64 → flagged flags k ≡ eqb (word_from flags from / 2 ^ (k - from) % 2) 1
unfolding flagged
flag_bit flags from k h l =
    let at : k / 64 ≡ from / 64 = omega arith in
    let bit : k % 64 ≡ from % 64 + (k - from) = omega arith in
    rw (at, bit) (ap (λ v. eqb (v % 2) 1) (sym (shr-shr (get_or flags (from / 64) 0) (from % 64) (k - from))))

-- ---- the bits of a power of two

-- its own is set
one_here : (b : ℕ) → 1 * 2 ^ b / 2 ^ b % 2 ≡ 1
one_here b = ap (λ v. v % 2) (shl-shr 1 b)

-- those above are not
one_above : (b c : ℕ) → b < c → 1 * 2 ^ b / 2 ^ c % 2 ≡ 0
one_above b c h =
    let l : 1 * 2 ^ b < 2 ^ (0 + c) = let e : 0 + c ≡ c = omega arith in rw e (omega (arith, pow-lt h)) in
    let d : 1 * 2 ^ b / 2 ^ c ≡ 0 = omega (arith, shr_lt 0 c l) in
    ap (λ v. v % 2) d

-- ---- a word with one bit more

-- a bit or 1 is 1
or_one : (a : ℕ) → a < 2 → bit_or a 1 ≡ 1
or_one zero h = refl
or_one (suc zero) h = refl
or_one (suc (suc a)) h = absurd (omega arith)

-- each bit is that of the one word or of the other
bit_of : (w v c : ℕ) → bit_or w v / 2 ^ c % 2 ≡ bit_or (w / 2 ^ c % 2) (v / 2 ^ c % 2)
bit_of w v c = ap (λ u. u % 2) (or_shr w v c) ∙ or_mod (w / 2 ^ c) (v / 2 ^ c) 1

-- the bit is set
bit_here : (w b : ℕ) → bit_or w (1 * 2 ^ b) / 2 ^ b % 2 ≡ 1
bit_here w b =
    bit_of w (1 * 2 ^ b) b ∙ ap (bit_or (w / 2 ^ b % 2)) (one_here b)
    ∙ or_one (w / 2 ^ b % 2) (mod-lt (w / 2 ^ b) {m = 2} (omega arith))

-- the others stay
bit_off : (w b c : ℕ) → c ≢ b → bit_or w (1 * 2 ^ b) / 2 ^ c % 2 ≡ w / 2 ^ c % 2
bit_off w b c d =
    bit_of w (1 * 2 ^ b) c
    ∙ ap (bit_or (w / 2 ^ c % 2))
    (either (split (ltb c b)) (λ s. shifted_off 1 b c (ltb-true c b s))
    (λ s. one_above b c (omega (arith, ltb-false c b s))))
    ∙ or_zero_r (w / 2 ^ c % 2)

-- so is the flag of a place, and the other places' stay
pub flag_set : (flags : List ℕ) (k : ℕ) → k / 64 < length flags
    → Flagged k flags (set flags (k / 64) (bit_or (get_or flags (k / 64) 0) (1 * 2 ^ (k % 64) % 18446744073709551616)))
unfolding flagged
flag_set flags k h =
    let b = k % 64 in
    let w = get_or flags (k / 64) 0 in
    let small : b < 64 = mod-lt k {m = 64} (omega arith) in
    let e : 1 * 2 ^ b % 18446744073709551616 ≡ 1 * 2 ^ b = shl_exact {a = 1} 1 b 64 (omega arith) (omega arith) in
    let word = bit_or w (1 * 2 ^ b) in
    let s = stored flags (set flags (k / 64) word) (k / 64) word refl h in
    rw e (record {
      long = s.long;
      here = eqb_i (get_or (set flags (k / 64) word) (k / 64) 0 / 2 ^ b % 2) 1 (ap (λ v. v / 2 ^ b % 2) s.here ∙ bit_here w b);
      off = λ q d.
          let c = q % 64 in
          either (same_or_not (q / 64) (k / 64))
          (λ f.
          let apart : c ≢ b = λ g. d (sym (div-add-mod' q 64) ∙ ap (λ v. v * 64 + c) f ∙ ap (λ v. k / 64 * 64 + v) g ∙ div-add-mod' k 64) in
          rw f (ap (λ v. eqb (v / 2 ^ c % 2) 1) s.here ∙ ap (λ v. eqb v 1) (bit_off w b c apart)))
          (λ f. ap (λ v. eqb (v / 2 ^ c % 2) 1) (s.off (q / 64) f));
    })
