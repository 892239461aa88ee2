-- The bits of a number: its lowest that is set, and the number without it. Assumes nothing.
use Prim.Native.Nat.{ℕ, zero, suc, ◌+◌, ◌-◌, ◌*◌, ◌/◌, ◌%◌, ◌^◌, ◌≤◌, ◌<◌}
use mathlib.Core.Path.{◌≡◌, refl, sym, ap, ap₂, ◌∙◌}
use native.Mathlib.Omega.{arith}
use native.Mathlib.Nat.{div-one, pow-succ', div-div-eq-div-mul, pow-suc}
use lib.Bits.{bit_and, and_block, and_step, and_self, shifted_even}
use lib.Count.{count_trailing_zeros, under}
use lib.Pow.{pow-add, pow_pos, shl-shr, shr-shr, ones_lt}

-- a number shifted by b has no bit below b
pub shifted_off : (a b c : ℕ) → c < b → a * 2 ^ b / 2 ^ c % 2 ≡ 0
shifted_off a b c h =
    let d = b - suc c in
    let e : b ≡ suc d + c = omega arith in
    let p : a * 2 ^ b ≡ a * 2 ^ suc d * 2 ^ c = ap (λ v. a * 2 ^ v) e ∙ ap (λ v. a * v) (pow-add 2 (suc d) c) ∙ omega arith in
    ap (λ v. v / 2 ^ c % 2) p ∙ ap (λ v. v % 2) (shl-shr (a * 2 ^ suc d) c) ∙ shifted_even a d

-- bit t of n is set, and none below it is
pub record Lowest (n t : ℕ) : Type 0 where
  pub whole : n / 2 ^ t * 2 ^ t ≡ n
  pub odd : n / 2 ^ t % 2 ≡ 1

-- the trailing zeros are those below it
pub lowest_bit : (d n : ℕ) → 0 < n → n < 2 ^ d → Lowest n (count_trailing_zeros d n)
unfolding count_trailing_zeros
lowest_bit zero n h l = absurd (omega arith)
lowest_bit (suc d) n h l = go (n % 2) refl (λ e. lowest_bit d (n / 2) (omega arith) (omega (arith, pow-suc 2 d)))
  where
    go : (r : ℕ) → n % 2 ≡ r → (n % 2 ≡ 0 → Lowest (n / 2) (count_trailing_zeros d (n / 2))) → Lowest n (under r (count_trailing_zeros d (n / 2)))
    go zero e half =
        let t = count_trailing_zeros d (n / 2) in
        let p : n / 2 ^ suc t ≡ n / 2 / 2 ^ t = ap (λ v. n / v) (pow-succ' 2 t) ∙ sym (div-div-eq-div-mul n 2 (2 ^ t)) in
        record { whole = ap₂ ◌*◌ p (pow-succ' 2 t) ∙ omega (arith, (half e).whole); odd = ap (λ v. v % 2) p ∙ (half e).odd }
    go (suc r) e half = record { whole = omega (arith, div-one n); odd = omega (arith, div-one n) }

module _ {n t : ℕ} (L : Lowest n t) where
  -- the number without it
  pub without : bit_and n (n - 1) ≡ n / 2 ^ suc t * 2 ^ suc t
  without =
      let q = n / 2 ^ t in
      let h = q / 2 in
      let o : q ≡ h * 2 + 1 = omega (arith, L.odd) in
      let w : q * 2 ^ t ≡ h * 2 * 2 ^ t + 2 ^ t = ap (λ v. v * 2 ^ t) o ∙ omega arith in
      let e : n ≡ q * 2 ^ t + 0 = omega (arith, L.whole) in
      let e' : n - 1 ≡ h * 2 * 2 ^ t + (2 ^ t - 1) = omega (arith, L.whole, pow_pos t) in
      let m : h * 2 / 2 ≡ h = omega arith in
      let b : bit_and q (h * 2) ≡ h * 2 = and_step q (h * 2) ∙ rw (m, and_self h) (omega arith) in
      let d : n / 2 ^ suc t ≡ h = ap (λ v. n / v) (pow-suc 2 t) ∙ sym (div-div-eq-div-mul n (2 ^ t) 2) in
      ap₂ bit_and e e' ∙ and_block t q (h * 2) 0 (2 ^ t - 1) (pow_pos t) (ones_lt t) ∙ ap (λ v. v * 2 ^ t + 0) b ∙ omega arith ∙ sym (ap₂ ◌*◌ d (pow-suc 2 t))

  -- no bit below it is set
  pub below_off : (b : ℕ) → b < t → n / 2 ^ b % 2 ≡ 0
  below_off b h = ap (λ v. v / 2 ^ b % 2) (sym L.whole) ∙ shifted_off (n / 2 ^ t) t b h

-- with its lowest c bits cleared a number has the others
pub cleared : (w c b : ℕ) → c ≤ b → w / 2 ^ c * 2 ^ c / 2 ^ b ≡ w / 2 ^ b
cleared w c b h =
    let d = b - c in
    let e : b ≡ c + d = omega arith in
    ap (λ v. w / 2 ^ c * 2 ^ c / 2 ^ v) e ∙ sym (shr-shr (w / 2 ^ c * 2 ^ c) c d) ∙ ap (λ v. v / 2 ^ d) (shl-shr (w / 2 ^ c) c) ∙ shr-shr w c d
    ∙ ap (λ v. w / 2 ^ v) (sym e)
