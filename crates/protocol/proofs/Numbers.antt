-- What a digit makes of a number. Assumes nothing.
use Rattle.std.proofs.Common.{◌≡◌, ℕ, ◌+◌, ◌-◌, ◌≤◌, ◌<◌, true, false, cond, ltb, List, length, get_or, drop, Option, Some, None, inl, inr, add-one, arith, drop-cons, drop_of_length-le, le-leb, lt-ltb, le-ltb}
use Rattle.std.specs.Prelude.{SomeIff}
use Rattle.std.specs.Char.{IsDigitOf, NotDecimalDigitIn}
use Rattle.protocol.specs.Fields.{is_digit, with_digit, number_from}

-- a digit, as `to_digit` gives it
pub digit_some : (c d : ℕ) → d < 10 → IsDigitOf c d → (is_digit c ≡ true) × (c - 0x30 ≡ d)
unfolding is_digit
digit_some c d h (inl k) = (rw (le-leb 0x30 c k.0.0, le-leb c 0x39 k.0.1), omega (arith, k.1))
digit_some c d h (inr (inl k)) = absurd (omega (arith, k.1, k.0.0))
digit_some c d h (inr (inr k)) = absurd (omega (arith, k.1, k.0.0))

-- another character
pub digit_none : (c : ℕ) → NotDecimalDigitIn 10 c → is_digit c ≡ false
unfolding is_digit
digit_none c h = grind (arith, h)

-- a result of checked arithmetic
pub checked : (r : Option ℕ) (x top : ℕ) → SomeIff r (x < top) x → r ≡ cond (ltb x top) (Some x) None
checked None x top h = rw (le-ltb x top (omega (arith, h)))
checked (Some y) x top h = rw (lt-ltb x top h.0, h.1)

module _ (v : ℕ) (f : List ℕ) (i : ℕ) (h : i < length f) where
  -- a digit: the rest stands behind it
  pub digit_more : (w : ℕ) → with_digit v (get_or f i 0) ≡ Some w → number_from v (drop i f) ≡ number_from w (drop (i + 1) f)
  unfolding number_from
  digit_more w e = rw (add-one i, drop-cons f i 0 h, e)

  -- another character, or too large a number
  pub digit_wrong : with_digit v (get_or f i 0) ≡ None → number_from v (drop i f) ≡ None
  unfolding number_from
  digit_wrong e = rw (drop-cons f i 0 h, e)

-- the end
pub digits_done : (v : ℕ) (f : List ℕ) (i : ℕ) → length f ≤ i → number_from v (drop i f) ≡ Some v
unfolding number_from
digits_done v f i h = rw (drop_of_length-le f {i = i} h)

-- what one digit is, and what the loop over digits makes of it
pub ruleset one_digit = (digit_some, digit_none)

pub ruleset all_digits = (digit_more, digit_wrong, digits_done)
