-- `hash` is SM3 of GB/T 32905 below 2^61 bytes; from there on the count of bits has wrapped. Assumes nothing.
use Rattle.std.proofs.Common.{◌≡◌, ℕ, ◌*◌, ◌%◌, ◌^◌, ◌<◌, List, ◌++◌, length, ◌∙◌, arith}
use Rattle.answers.specs.Answers.{Done}
use Rattle.words.proofs.Bytes.{number-be}
use Rattle.words.specs.Bytes.{number}
use Rattle.sm3.specs.Standard.{IV, count, ending, padded, iteration, SM3}
use Rattle.sm3.specs.State.{hashed}
use Rattle.sm3.proofs.Ending.{length-bytes_of}

-- below 2^61 bytes `hash` is SM3
pub hash-standard : (m : List ℕ) → length m < 2 ^ 61 → hashed m ≡ record { answer = Done; bytes = SM3 m }
unfolding hashed SM3 padded
hash-standard m h = let e : length m % 2 ^ 64 ≡ length m = omega arith in rw e

-- and the count in it is the number of bits
pub count-exact : (n : ℕ) → n < 2 ^ 61 → number (count n) ≡ 8 * n
unfolding count
count-exact n h = number-be 8 (8 * n) ∙ omega arith

-- from there on it is that number modulo 2^64, to which the standard gives no meaning
pub count-wrapped : (n : ℕ) → number (count (n % 2 ^ 64)) ≡ 8 * n % 2 ^ 64
unfolding count
count-wrapped n = number-be 8 (8 * (n % 2 ^ 64)) ∙ omega arith

-- a digest is 32 bytes
pub length-hashed : (m : List ℕ) → length (hashed m).bytes ≡ 32
unfolding hashed
length-hashed m = length-bytes_of (iteration IV (m ++ ending (length m) (length m % 2 ^ 64)))

-- and so is the standard's
pub length-SM3 : (m : List ℕ) → length (SM3 m) ≡ 32
unfolding SM3
length-SM3 m = length-bytes_of (iteration IV (padded m))
