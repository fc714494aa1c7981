-- The mode CBC over a block cipher, by the number of the block: E enciphers a block and D deciphers one. Assumes nothing.
use Rattle.std.specs.Prelude.{cond, ◌&&◌, List, ◌++◌, ◌≡◌, ℕ, zero, suc, ◌+◌, ◌*◌, ◌/◌, leb, length, take, drop}
use Rattle.words.specs.Lists.{block, join, put, xor_each}
use Rattle.sm4.specs.Block.{Block}

-- E makes blocks of blocks, and D undoes it
pub record Cipher (E D : List ℕ → List ℕ) : Type 0 where
  pub keeps : (b : List ℕ) → Block b → Block (E b)
  pub undoes : (b : List ℕ) → Block b → D (E b) ≡ b

-- the IV, and then each plain block of x put on the cipher block before it and enciphered
unfoldable pub chain : (List ℕ → List ℕ) → List ℕ → List ℕ → ℕ → List ℕ
chain E iv x zero = iv
chain E iv x (suc k) = E (xor_each (chain E iv x k) (block 16 k x))

-- cipher block k of x, from 0
abbrev pub cipher_block : (List ℕ → List ℕ) → List ℕ → List ℕ → ℕ → List ℕ
cipher_block E iv x k = chain E iv x (suc k)

-- all whole blocks of x enciphered
unfoldable pub cbc_enc : (List ℕ → List ℕ) → List ℕ → List ℕ → List ℕ
cbc_enc E iv x = join (length x / 16) (cipher_block E iv x)

-- plain block k, from 0, of a record r, whose first block is the IV
unfoldable pub plain : (List ℕ → List ℕ) → List ℕ → ℕ → List ℕ
plain D r k = xor_each (block 16 k r) (D (block 16 (suc k) r))

-- all whole blocks of y deciphered
unfoldable pub cbc_dec : (List ℕ → List ℕ) → List ℕ → List ℕ → List ℕ
cbc_dec D iv y = join (length y / 16) (plain D (iv ++ y))

-- the whole blocks of a list, and what stands behind them
abbrev pub whole : List ℕ → List ℕ
whole l = take (length l / 16 * 16) l

abbrev pub rest : List ℕ → List ℕ
rest l = drop (length l / 16 * 16) l

-- a body enciphered in place: its whole blocks, and the rest as found
unfoldable pub enciphered : (List ℕ → List ℕ) → List ℕ → List ℕ → List ℕ
enciphered E iv body = cbc_enc E iv (whole body) ++ rest body

-- out with plain block k of r as its own block k; out as found where it has no whole block k, or r no whole block k + 1
unfoldable pub deciphered : (List ℕ → List ℕ) → List ℕ → ℕ → List ℕ → List ℕ
deciphered D r k out =
    cond (leb ((k + 1) * 16) (length out) && leb ((k + 2) * 16) (length r)) (put (k * 16) (plain D r k) out) out
