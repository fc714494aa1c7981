-- A test as a number, and a choice by one, of a number and of a list; a choice by a mask of all ones or all zeros.
-- Assumes nothing.
use Rattle.std.proofs.Common.{◌≡◌, ℕ, zero, suc, ◌-◌, ◌*◌, ◌%◌, ◌^◌, ◌<◌, Bool, true, false, cond, ◌&&◌, eqb, List, length, get_or, refl, mod-lt, mod-eq_of_lt, zero-lt-suc, one-mul, zero-mul, arith}
use lib.Bits.{bit_and, and_comm, and_mask, and_zero_l}
use mir.Val.{bool_byte}
use Rattle.words.specs.Choice.{bit, chosen}

-- a comparison cast to a number
pub bool_bit : (t : Bool) → bool_byte t ≡ bit t
bool_bit true = refl
bool_bit false = refl

-- the number 1 stands for yes
pub bit-one : (t : Bool) → eqb (bit t) 1 ≡ t
bit-one true = refl
bit-one false = refl

-- both of two tests
pub both_bits : (s t : Bool) → bit_and (bit s) (bit t) ≡ bit (s && t)
both_bits true true = refl
both_bits true false = refl
both_bits false t = refl

-- a choice by a test
pub chosen-bit : (t : Bool) (a b : ℕ) → chosen (bit t) a b ≡ cond t b a
unfolding chosen
chosen-bit true a b = refl
chosen-bit false a b = refl

-- by a number that is one
pub chosen_by : {x : ℕ} (t : Bool) (a b : ℕ) → x ≡ bit t → chosen x a b ≡ cond t b a
chosen_by t a b e = rw e (chosen-bit t a b)

-- the test again
pub bit_test : {x : ℕ} (t : Bool) → x ≡ bit t → eqb (x % 2) 1 ≡ t
bit_test true e = rw e
bit_test false e = rw e

-- a choice of a list, element by element
pub chosen_element : (x : ℕ) (a b : List ℕ) (i : ℕ)
    → chosen x (get_or a i 0) (get_or b i 0) ≡ get_or (cond (eqb (x % 2) 1) b a) i 0
unfolding chosen
chosen_element x a b i = by (eqb (x % 2) 1)
  where
    by : (t : Bool) → cond t (get_or b i 0) (get_or a i 0) ≡ get_or (cond t b a) i 0
    by true = refl
    by false = refl

-- a choice of two lists of one length
pub length-cond : {n : ℕ} (t : Bool) (a b : List ℕ) → length a ≡ n → length b ≡ n → length (cond t a b) ≡ n
length-cond true a b h k = h
length-cond false a b h k = k

-- a mask of all ones or all zeros, in any width
pub masked : (w : ℕ) {x : ℕ} → x < 2 ^ w → (choice : ℕ) → bit_and x (choice % 2 * (2 ^ w - 1)) ≡ chosen choice 0 x
unfolding chosen
masked w {x} h choice = by (choice % 2) (mod-lt choice (zero-lt-suc 1))
  where
    by : (m : ℕ) → m < 2 → bit_and x (m * (2 ^ w - 1)) ≡ cond (eqb m 1) x 0
    by zero b = rw (zero-mul (2 ^ w - 1), and_comm x 0) (and_zero_l x)
    by (suc zero) b = rw (one-mul (2 ^ w - 1), and_mask x w) (mod-eq_of_lt h)
    by (suc (suc m)) b = omega arith

-- what is put on where the choice is 1 makes the one the other, where it is put on twice without a trace
pub chosen-xored : {A : Type 0} (xored : A → A → A) (none a b : A) (choice : ℕ)
    → xored a (xored a b) ≡ b → xored a none ≡ a → xored a (chosen choice none (xored a b)) ≡ chosen choice a b
unfolding chosen
chosen-xored xored none a b choice twice alone = by (eqb (choice % 2) 1)
  where
    by : (t : Bool) → xored a (cond t (xored a b) none) ≡ cond t b a
    by true = twice
    by false = alone
