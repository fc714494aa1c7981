-- Words of 32 bits as numbers: exclusive or, rotation to the left, complement. Assumes nothing.
use Rattle.std.specs.Prelude.{ℕ, ◌+◌, ◌-◌, ◌*◌, ◌/◌, ◌%◌, ◌^◌, bit_xor}

infixl 6 ◌⊕◌
infixl 7 ◌⋘◌
-- exclusive or, bit by bit, of numbers of any width
unfoldable pub ◌⊕◌ : ℕ → ℕ → ℕ
x ⊕ y = bit_xor x y

-- x rotated left by n, for n below 32: what passes the top comes in at the bottom
unfoldable pub ◌⋘◌ : ℕ → ℕ → ℕ
x ⋘ n = x * 2 ^ n % 2 ^ 32 + x * 2 ^ n / 2 ^ 32

-- the complement of the 32 bits of x
unfoldable pub not32 : ℕ → ℕ
not32 x = 2 ^ 32 - 1 - x
