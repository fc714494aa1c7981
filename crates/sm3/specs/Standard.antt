-- GB/T 32905-2016 (SM3), sections 4.1, 5.2, 5.3.1 and 5.4: initial value, padding, iteration and hash value, in the
-- standard's names, on lists of bytes. CF is that of crate sm3_compress. Assumes nothing.
use Rattle.std.specs.Prelude.{ℕ, zero, suc, ◌-◌, ◌*◌, ◌/◌, ◌%◌, List, [], ◌∷◌, ◌++◌, length, replicate, slice_index}
use Rattle.words.specs.Bytes.{be}
use Rattle.words.specs.Lists.{block, join}
use Rattle.sm3_compress.specs.Standard.{CF}

-- 4.1 the initial value
abbrev pub IV : List ℕ
IV = 0x7380166f ∷ 0x4914b2b9 ∷ 0x172442d7 ∷ 0xda8a0600 ∷ 0xa96f30bc ∷ 0x163138aa ∷ 0xe38dee4d ∷ 0xb0fb0e4e ∷ []

-- 5.2 padding: a one bit, then the least number of zero bits up to 448 modulo 512, then the count of bits in 64.
-- In bytes, behind l of them: 0x80, the least number of zeros up to 56 modulo 64, and the count
unfoldable pub zeros : ℕ → ℕ
zeros l = (119 - l % 64) % 64

-- the number of bits of n bytes, in 8 bytes, the highest first; from 2^61 bytes on, modulo 2^64
unfoldable pub count : ℕ → List ℕ
count n = be 8 (8 * n)

-- what is put behind l bytes, with the count of n bytes
unfoldable pub ending : ℕ → ℕ → List ℕ
ending l n = 0x80 ∷ (replicate (zeros l) 0 ++ count n)

unfoldable pub padded : List ℕ → List ℕ
padded m = m ++ ending (length m) (length m)

-- 5.3.1 iteration: V(0) = v, V(i + 1) = CF(V(i), B(i)), here up to V(n)
unfoldable pub iterated : List ℕ → List ℕ → ℕ → List ℕ
iterated v m zero = v
iterated v m (suc i) = CF (iterated v m i) (block 64 i m)

-- over all whole blocks of m
unfoldable pub iteration : List ℕ → List ℕ → List ℕ
iteration v m = iterated v m (length m / 64)

-- 5.4 the words A to H of V(n), each in 4 bytes, the highest first
unfoldable pub word_bytes : List ℕ → ℕ → List ℕ
word_bytes v i = be 4 (slice_index v i)

unfoldable pub bytes_of : List ℕ → List ℕ
bytes_of v = join 8 (word_bytes v)

-- the hash value of a message of fewer than 2^61 bytes
unfoldable pub SM3 : List ℕ → List ℕ
SM3 m = bytes_of (iteration IV (padded m))
