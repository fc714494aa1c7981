-- Laws of exclusive or on numbers of any width. Assumes nothing.
use Rattle.std.proofs.Common.{◌≡◌, ℕ, zero, suc, ◌+◌, ◌*◌, ◌/◌, ◌%◌, ◌^◌, ◌<◌, Bool, true, false, eqb, sym, refl, ap, ◌∙◌, ap₂, mod-lt, zero-lt-suc, arith, eq-eqb, ne_eqb, eqb-true}
use borrow.Author.Tests.{eqb-false}
use lib.Arith.{bin_ind, digits_mod}
use lib.Bits.{bit_and, bit_or, bit_xor, or_add_and, and_le_l, and_le_r}
use lib.Bits.{differ, xor_step, xor_shr, xor_self, xor_comm, xor_zero_r, xor_lt}
use Rattle.words.specs.Word.{◌⊕◌}

-- the lowest binary digit is 0 or 1
digit : (x : ℕ) → x % 2 < 2
digit x = mod-lt x (zero-lt-suc 1)

-- two digits differ, as a digit
differ_lt : (x y : ℕ) → x < 2 → y < 2 → differ x y < 2
differ_lt zero y hx hy = hy
differ_lt (suc zero) zero hx hy = hx
differ_lt (suc zero) (suc y) hx hy = omega arith
differ_lt (suc (suc x)) y hx hy = omega arith

-- associativity on digits
differ_assoc : (x y z : ℕ) → x < 2 → y < 2 → z < 2 → differ (differ x y) z ≡ differ x (differ y z)
differ_assoc zero y z hx hy hz = refl
differ_assoc (suc zero) zero z hx hy hz = refl
differ_assoc (suc zero) (suc zero) zero hx hy hz = refl
differ_assoc (suc zero) (suc zero) (suc zero) hx hy hz = refl
differ_assoc (suc zero) (suc zero) (suc (suc z)) hx hy hz = omega arith
differ_assoc (suc zero) (suc (suc y)) z hx hy hz = omega arith
differ_assoc (suc (suc x)) y z hx hy hz = omega arith

-- the lowest digit of an exclusive or
xor-digit : (a b : ℕ) → bit_xor a b % 2 ≡ differ (a % 2) (b % 2)
xor-digit a b =
    rw (xor_step a b) (digits_mod (bit_xor (a / 2) (b / 2)) (differ_lt (a % 2) (b % 2) (digit a) (digit b)))

-- associativity, digit by digit from the lowest
xor_assoc : (a b c : ℕ) → bit_xor (bit_xor a b) c ≡ bit_xor a (bit_xor b c)
xor_assoc =
    bin_ind (λ (n : ℕ). (b c : ℕ) → bit_xor (bit_xor n b) c ≡ bit_xor n (bit_xor b c)) (λ b c. refl)
    (λ n ih b c. xor_step (bit_xor n b) c
    ∙ ap₂ (λ (x y : ℕ). x * 2 + y)
    (ap (λ (x : ℕ). bit_xor x (c / 2)) (xor_shr n b 1) ∙ ih (b / 2) (c / 2) ∙ ap (bit_xor (n / 2)) (sym (xor_shr b c 1)))
    (ap (λ (x : ℕ). differ x (c % 2)) (xor-digit n b)
    ∙ differ_assoc (n % 2) (b % 2) (c % 2) (digit n) (digit b) (digit c)
    ∙ ap (differ (n % 2)) (sym (xor-digit b c)))
    ∙ sym (xor_step n (bit_xor b c)))

-- three numbers in either grouping
pub ⊕-assoc : (a b c : ℕ) → a ⊕ b ⊕ c ≡ a ⊕ (b ⊕ c)
unfolding ◌⊕◌
⊕-assoc = xor_assoc

-- two numbers in either order
pub ⊕-comm : (a b : ℕ) → a ⊕ b ≡ b ⊕ a
unfolding ◌⊕◌
⊕-comm = xor_comm

-- a number with itself
pub ⊕_self : (a : ℕ) → a ⊕ a ≡ 0
unfolding ◌⊕◌
⊕_self = xor_self

-- zero changes nothing
pub ⊕-zero : (a : ℕ) → a ⊕ 0 ≡ a
unfolding ◌⊕◌
⊕-zero = xor_zero_r

-- zero changes nothing, from the left
pub zero-⊕ : (a : ℕ) → 0 ⊕ a ≡ a
unfolding ◌⊕◌
zero-⊕ a = refl

-- two numbers of k bits have an exclusive or of k bits
pub ⊕-lt : (k : ℕ) {a b : ℕ} → a < 2 ^ k → b < 2 ^ k → (a ⊕ b) < 2 ^ k
unfolding ◌⊕◌
⊕-lt k {a} {b} ha hb = xor_lt k a b ha hb

-- what is put on twice is gone
pub ⊕_cancel : (a b : ℕ) → a ⊕ b ⊕ b ≡ a
⊕_cancel a b = rw (⊕-assoc a b b, ⊕_self b) (⊕-zero a)

-- what is put on twice is gone, from the left
pub xor_twice : (a b : ℕ) → a ⊕ (a ⊕ b) ≡ b
xor_twice a b = rw (⊕-comm a b, ⊕-comm a (b ⊕ a)) (⊕_cancel b a)

-- only equal numbers have the exclusive or 0
pub ⊕-eq : (a b : ℕ) → a ⊕ b ≡ 0 → a ≡ b
⊕-eq a b e = sym (⊕_cancel a b) ∙ ap (λ (x : ℕ). x ⊕ b) e ∙ zero-⊕ b

-- whether a difference is none
pub xor_test : (x y : ℕ) → eqb (x ⊕ y) 0 ≡ eqb x y
xor_test x y = by (eqb x y) refl
  where
    by : (t : Bool) → eqb x y ≡ t → eqb (x ⊕ y) 0 ≡ t
    by true e = eq-eqb (x ⊕ y) 0 (ap (λ (z : ℕ). x ⊕ z) (sym (eqb-true x y e)) ∙ ⊕_self x)
    by false e = ne_eqb (x ⊕ y) 0 (λ z. eqb-false x y e (⊕-eq x y z))

-- an inclusive or is 0 only where both are
pub or-zero : (a b : ℕ) → bit_or a b ≡ 0 → (a ≡ 0) × (b ≡ 0)
or-zero a b e =
    let sum : bit_or a b + bit_and a b ≡ a + b = or_add_and a b in
    (omega (arith, and_le_r a b), omega (arith, and_le_l a b))
