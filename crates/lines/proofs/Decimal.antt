-- The digits of a number: the last one behind those of a tenth of it. Assumes nothing.
use mathlib.Core.Bool.{Bool, true, false, cond}
use mathlib.Core.List.{List, [], ◌∷◌, ◌++◌, foldl, foldl-append}
use mathlib.Core.Path.{◌≡◌, refl, ap, ◌∙◌}
use Prim.Native.Nat.{ℕ, zero, suc, ◌+◌, ◌-◌, ◌*◌, ◌/◌, ◌%◌, ◌^◌, ◌≤◌, ◌<◌}
use native.Mathlib.Nat.{pow-succ'}
use native.Mathlib.Omega.{arith}
use borrow.Author.Tests.{lt-ltb, le-ltb, ltb-true, ltb-false}
use lib.Dec.{ltb}
use lib.ListN.{length, get_or, length-append, get_or-append}
use lib.Seq.{get_or_at}
use Rattle.lines.specs.Text.{digit, digits, decimal}

-- no more are found than there are, however many are asked for
digits_enough : (k j n : ℕ) → n < k → n < j → digits k n ≡ digits j n
unfolding digits
digits_enough zero j n h i = absurd (omega arith)
digits_enough (suc k) zero n h i = absurd (omega arith)
digits_enough (suc k) (suc j) n h i = by (ltb n 10) refl (digits_enough k j (n / 10))
  where
    by : (t : Bool) → ltb n 10 ≡ t → (n / 10 < k → n / 10 < j → digits k (n / 10) ≡ digits j (n / 10))
        → digits (suc k) n ≡ digits (suc j) n
    by true e ih = rw e
    by false e ih =
        let b : 10 ≤ n = ltb-false n 10 e in
        rw (e, ih (omega arith) (omega arith))

-- a number below 10 is one digit
pub decimal-one : (n : ℕ) → n < 10 → decimal n ≡ digit (n % 10) ∷ []
unfolding decimal digits
decimal-one n h = rw (lt-ltb n 10 h)

-- any other has the digits of a tenth of it in front
pub decimal-more : (n : ℕ) → 10 ≤ n → decimal n ≡ decimal (n / 10) ++ (digit (n % 10) ∷ [])
unfolding decimal digits
decimal-more n h =
    let same = digits_enough n (suc (n / 10)) (n / 10) (omega arith) (omega arith) in
    rw (le-ltb n 10 h) (ap (λ (l : List ℕ). l ++ (digit (n % 10) ∷ [])) same)

-- one more
pub length_more : (n : ℕ) → 10 ≤ n → length (decimal n) ≡ length (decimal (n / 10)) + 1
length_more n h = ap length (decimal-more n h) ∙ length-append (decimal (n / 10)) (digit (n % 10) ∷ [])

-- a number below a power of 10 has no more digits than the power
pub decimal-short : (m n : ℕ) → n < 10 ^ suc m → length (decimal n) ≤ suc m
decimal-short zero n h = rw (decimal-one n (omega arith)) (omega arith)
decimal-short (suc m) n h = by (ltb n 10) refl (decimal-short m (n / 10))
  where
    by : (t : Bool) → ltb n 10 ≡ t → (n / 10 < 10 ^ suc m → length (decimal (n / 10)) ≤ suc m)
        → length (decimal n) ≤ suc (suc m)
    by true e ih = rw (decimal-one n (ltb-true n 10 e)) (omega arith)
    by false e ih =
        let b : 10 ≤ n = ltb-false n 10 e in
        let p : n / 10 < 10 ^ suc m = omega (arith, pow-succ' 10 (suc m)) in
        omega (arith, length_more n b, ih p)

-- ---- what the digits are

-- the bytes 0x30 to 0x39
pub record IsDigit (b : ℕ) : Type 0 where
  pub low : 0x30 ≤ b
  pub high : b ≤ 0x39

-- one digit behind others
digits-behind : (front : List ℕ) (d : ℕ) → d < 10 → ((i : ℕ) → i < length front → IsDigit (get_or front i 0))
    → (i : ℕ) → i < length (front ++ (digit d ∷ [])) → IsDigit (get_or (front ++ (digit d ∷ [])) i 0)
digits-behind front d b h i k = by (ltb i (length front)) refl
  where
    by : (t : Bool) → ltb i (length front) ≡ t → IsDigit (get_or (front ++ (digit d ∷ [])) i 0)
    by true e =
        let c : i < length front = ltb-true i (length front) e in
        rw (get_or-append front (digit d ∷ []) 0 i c) (h i c)
    by false e =
        let c : length front ≡ i = omega (arith, ltb-false i (length front) e, length-append front (digit d ∷ [])) in
        rw (get_or_at front (digit d) [] 0 i c) (record { low = omega arith; high = omega arith })

-- however many are asked for
digits_are : (k n i : ℕ) → i < length (digits k n) → IsDigit (get_or (digits k n) i 0)
unfolding digits
digits_are zero n i h = absurd (omega arith)
digits_are (suc k) n i h = by (ltb n 10) (digits_are k (n / 10)) h
  where
    by : (t : Bool) → ((j : ℕ) → j < length (digits k (n / 10)) → IsDigit (get_or (digits k (n / 10)) j 0))
        → i < length (cond t [] (digits k (n / 10)) ++ (digit (n % 10) ∷ []))
        → IsDigit (get_or (cond t [] (digits k (n / 10)) ++ (digit (n % 10) ∷ [])) i 0)
    by true ih b = digits-behind [] (n % 10) (omega arith) (λ j c. absurd (omega arith)) i b
    by false ih b = digits-behind (digits k (n / 10)) (n % 10) (omega arith) ih i b

-- each byte of a number is a digit
pub decimal-digits : (n i : ℕ) → i < length (decimal n) → IsDigit (get_or (decimal n) i 0)
unfolding decimal
decimal-digits n i h = digits_are (suc n) n i h

-- the number that digits stand for, read from the front
abbrev pub more : ℕ → ℕ → ℕ
more v b = v * 10 + (b - 0x30)

-- however many digits are asked for, if they are enough
digits_value : (k n : ℕ) → n < k → foldl more 0 (digits k n) ≡ n
unfolding digits
digits_value zero n h = absurd (omega arith)
digits_value (suc k) n h = by (ltb n 10) refl (digits_value k (n / 10))
  where
    by : (t : Bool) → ltb n 10 ≡ t → (n / 10 < k → foldl more 0 (digits k (n / 10)) ≡ n / 10)
        → foldl more 0 (cond t [] (digits k (n / 10)) ++ (digit (n % 10) ∷ [])) ≡ n
    by true e ih = omega (arith, ltb-true n 10 e)
    by false e ih =
        let b : 10 ≤ n = ltb-false n 10 e in
        foldl-append more 0 (digits k (n / 10)) (digit (n % 10) ∷ []) ∙ rw (ih (omega arith)) (omega arith)

-- the digits of a number, read from the front, are the number
pub decimal-value : (n : ℕ) → foldl more 0 (decimal n) ≡ n
unfolding decimal
decimal-value n = digits_value (suc n) n (omega arith)
