-- RFC 2104, section 2: HMAC over a hash function H with blocks of B = 64 bytes and digests of L = 32. Assumes nothing.
use Rattle.std.specs.Prelude.{cond, List, ◌++◌, ℕ, ◌-◌, ltb, length, replicate}
use Rattle.words.specs.Lists.{xor_each}

abbrev pub B : ℕ
B = 64

abbrev pub L : ℕ
L = 32

-- the byte 0x36 repeated B times, and 0x5C
abbrev pub ipad : List ℕ
ipad = replicate B 0x36

abbrev pub opad : List ℕ
opad = replicate B 0x5c

-- (1) zeros behind K up to B bytes
unfoldable pub extended : List ℕ → List ℕ
extended K = K ++ replicate (B - length K) 0

-- the key that is used: one longer than B bytes is hashed first
unfoldable pub K' : (List ℕ → List ℕ) → List ℕ → List ℕ
K' H K = extended (cond (ltb B (length K)) (H K) K)

-- H(K XOR opad, H(K XOR ipad, text))
unfoldable pub HMAC : (List ℕ → List ℕ) → List ℕ → List ℕ → List ℕ
HMAC H K text = H (xor_each (K' H K) opad ++ H (xor_each (K' H K) ipad ++ text))
