-- HMAC-SM3 of a message block by block: RFC 2104's two key blocks, and the message with SM3's ending behind the first of them,
-- cut into blocks of which all behind the final one are zero. Assumes nothing.
use Rattle.std.specs.Prelude.{cond, List, ◌++◌, ℕ, zero, suc, ◌+◌, ◌*◌, ◌/◌, eqb, length, get_or, replicate}
use Rattle.words.specs.Lists.{table, xor_each}
use Rattle.sm3_compress.specs.Standard.{CF}
use Rattle.sm3.specs.Standard.{IV, count, ending, bytes_of, SM3}
use Rattle.hmac.specs.Rfc2104.{ipad, opad, K'}
use Rattle.mac_blocks.specs.declared.MacWords.{MacWords}

-- the message with its ending, whose count takes in the key block in front
unfoldable pub ended : List ℕ → List ℕ
ended m = m ++ ending (64 + length m) (64 + length m)

-- byte i of block b; zero behind the end
unfoldable pub byte_at : List ℕ → ℕ → ℕ → ℕ
byte_at m b i = get_or (ended m) (b * 64 + i) 0

-- block b, for every b
unfoldable pub schedule : List ℕ → ℕ → List ℕ
schedule m b = table (byte_at m b) 64

-- the number of the final block, which holds the bit count
unfoldable pub final : List ℕ → ℕ
final m = (length m + 8) / 64

-- the bit count of all bytes, in the final block, and zeros in any other: 8 bytes
abbrev pub count_in : List ℕ → ℕ → List ℕ
count_in m b = cond (eqb b (final m)) (count (64 + length m)) (replicate 8 0)

-- the words after the first j blocks, from v on
unfoldable pub absorbed : List ℕ → List ℕ → ℕ → List ℕ
absorbed v m zero = v
absorbed v m (suc j) = CF (absorbed v m j) (schedule m j)

-- the words after the key XOR ipad
unfoldable pub inner_key : List ℕ → List ℕ
inner_key K = CF IV (xor_each (K' SM3 K) ipad)

-- block b more, the words kept where it is the final one
unfoldable pub inner_block : MacWords → List ℕ → ℕ → MacWords
inner_block s m b =
    record { words = CF s.words (schedule m b); kept = cond (eqb b (final m)) (CF s.words (schedule m b)) s.kept }

-- the words after the key XOR opad
unfoldable pub outer_key : List ℕ → List ℕ
outer_key K = CF IV (xor_each (K' SM3 K) opad)

-- and after the inner digest with its ending: 64 + 32 bytes are counted
unfoldable pub outer_digest : List ℕ → List ℕ → List ℕ
outer_digest w inner = CF w (bytes_of inner ++ ending 96 96)
