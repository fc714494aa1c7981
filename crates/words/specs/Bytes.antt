-- Numbers as bytes, the highest first. Assumes nothing.
use Rattle.std.specs.Prelude.{ℕ, zero, suc, ◌+◌, ◌*◌, ◌/◌, ◌%◌, ◌^◌, ◌<◌, List, [], ◌∷◌, ◌++◌, length, slice_index}

-- the lowest n bytes of x, the highest of them first
unfoldable pub be : ℕ → ℕ → List ℕ
be zero x = []
be (suc n) x = be n (x / 256) ++ (x % 256 ∷ [])

-- the number that the bytes stand for, the highest first
unfoldable pub number : List ℕ → ℕ
number [] = 0
number (b ∷ bs) = b * 256 ^ length bs + number bs

-- every element is a byte
abbrev pub Bytes : List ℕ → Type 0
Bytes l = (i : ℕ) → slice_index l i < 256
