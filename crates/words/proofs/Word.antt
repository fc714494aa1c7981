-- The rotation of a word: its two shifts share no digit, so `|` adds them, and it is a word again. Assumes nothing.
use Rattle.std.proofs.Common.{◌≡◌, ℕ, ◌+◌, ◌-◌, ◌*◌, ◌/◌, ◌%◌, ◌^◌, ◌<◌, sym, ap, ◌∙◌, subst, ap₂, lt_of_le_of_lt, add-zero, mod-lt, arith, pow_pos, shr-shr, shr_lt}
use native.Mathlib.Nat.{mul-mod_left}
use lib.Bits.{bit_or, or_shifted, or_lt}
use lib.Pow.{mod-pow-add, shl-shr, shr_le}
use Rattle.words.specs.Word.{◌⋘◌}

-- a rotation by 0
pub rotl-zero : (x : ℕ) → x < 2 ^ 32 → x ⋘ 0 ≡ x
unfolding ◌⋘◌
rotl-zero x h = omega arith

module _ (x n m : ℕ) (e : n + m ≡ 32) (h : x < 2 ^ 32) where
  -- what stays of a shift to the left
  low_part : x * 2 ^ n % 2 ^ 32 ≡ (x % 2 ^ m) * 2 ^ n
  low_part =
      let e' : 32 ≡ m + n = omega arith in
      ap (λ (k : ℕ). x * 2 ^ n % 2 ^ k) e'
      ∙ mod-pow-add (x * 2 ^ n) m n
      ∙ ap₂ (λ (a b : ℕ). a % 2 ^ m * 2 ^ n + b) (shl-shr x n) (mul-mod_left x (2 ^ n))
      ∙ add-zero _

  -- what passes the top
  high_part : x * 2 ^ n / 2 ^ 32 ≡ x / 2 ^ m
  high_part =
      ap (λ (k : ℕ). x * 2 ^ n / 2 ^ k) (sym e)
      ∙ sym (shr-shr (x * 2 ^ n) n m)
      ∙ ap (λ (a : ℕ). a / 2 ^ m) (shl-shr x n)

  -- a rotation is the `|` of two shifts
  pub rotl-or : bit_or (x * 2 ^ n % 2 ^ 32) (x / 2 ^ m) ≡ x ⋘ n
  unfolding ◌⋘◌
  rotl-or =
      ap (λ (a : ℕ). bit_or a (x / 2 ^ m)) low_part
      ∙ or_shifted (x % 2 ^ m) n (x / 2 ^ m) (shr_lt n m (subst (λ (k : ℕ). x < 2 ^ k) (sym e) h))
      ∙ ap₂ (λ (a b : ℕ). a + b) (sym low_part) (sym high_part)

-- a word rotated is a word
pub rotl-lt : (x n : ℕ) → x < 2 ^ 32 → n < 32 → (x ⋘ n) < 2 ^ 32
rotl-lt x n h b =
    rw (← rotl-or x n (32 - n) (omega arith) h)
    (or_lt 32 (x * 2 ^ n % 2 ^ 32) (x / 2 ^ (32 - n)) (mod-lt (x * 2 ^ n) (pow_pos 32)) (lt_of_le_of_lt (shr_le x (32 - n)) h))
