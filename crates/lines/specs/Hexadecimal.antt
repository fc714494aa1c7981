-- Lower-case hexadecimal digits. A character is a byte. Assumes nothing.
use Rattle.std.specs.Prelude.{Bool, true, ◌&&◌, ◌||◌, List, [], ◌∷◌, ℕ, leb}

-- 0 to 9, or a to f
unfoldable pub is_hex : ℕ → Bool
is_hex b = (leb 0x30 b && leb b 0x39) || (leb 0x61 b && leb b 0x66)

-- each of them is a digit
unfoldable pub all_hex : List ℕ → Bool
all_hex [] = true
all_hex (b ∷ l) = is_hex b && all_hex l
