-- CBC over any cipher: deciphering undoes enciphering and enciphering undoes deciphering, block by block. Assumes nothing.
use mathlib.Core.List.{List, ◌++◌}
use mathlib.Core.Path.{◌≡◌, sym, ap, ap₂, ◌∙◌}
use Prim.Native.Nat.{ℕ, zero, suc, ◌*◌, ◌/◌, ◌%◌, ◌≤◌, ◌<◌}
use native.Mathlib.Omega.{arith}
use lib.ListN.{length, drop, length-append}
use lib.Seq.{take_all}
use Rattle.words.specs.Bytes.{Bytes}
use Rattle.words.specs.Lists.{block, join, xor_each}
use Rattle.words.proofs.Bytes.{bytes-append, bytes_take, bytes_drop, bytes_join, bytes-xor_each}
use Rattle.words.proofs.Lists.{length-block, block-front, block-behind, join_ext, join_blocks, length_join, block_join, length-xor_each, xor_each_twice}
use Rattle.sm4.specs.Block.{Block}
use Rattle.cbc.specs.Cbc.{Cipher, chain, cipher_block, cbc_enc, plain, cbc_dec}

-- ---- blocks

-- a whole block of bytes
block_of : (x : List ℕ) (k : ℕ) → Bytes x → suc k * 16 ≤ length x → Block (block 16 k x)
block_of x k b h =
    record { size = length-block 16 k x h; bytes = bytes_take 16 (drop (k * 16) x) (bytes_drop (k * 16) x b) }

-- a block put on a block
block-xor : (a b : List ℕ) → Block a → Block b → Block (xor_each a b)
block-xor a b ha hb =
    record {
      size = length-xor_each a b (ha.size ∙ sym hb.size) ∙ hb.size;
      bytes = bytes-xor_each a b ha.bytes hb.bytes;
    }

-- all blocks of a list of whole blocks
join_all : (x : List ℕ) → length x % 16 ≡ 0 → join (length x / 16) (λ k. block 16 k x) ≡ x
join_all x w = join_blocks 16 (length x / 16) x ∙ take_all (length x / 16 * 16) x (omega arith)

-- ---- deciphering undoes enciphering

module _ (E D : List ℕ → List ℕ) (C : Cipher E D) (iv x : List ℕ) (hiv : Block iv) (bx : Bytes x) (w : length x % 16 ≡ 0)
  where
    -- the IV and every cipher block is a block
    chain-block : (k : ℕ) → k ≤ length x / 16 → Block (chain E iv x k)
    unfolding chain
    chain-block zero b = hiv
    chain-block (suc k) b =
        C.keeps (xor_each (chain E iv x k) (block 16 k x))
        (block-xor (chain E iv x k) (block 16 k x) (chain-block k (omega arith)) (block_of x k bx (omega arith)))

    -- 16 bytes each
    sized : (k : ℕ) → k < length x / 16 → length (cipher_block E iv x k) ≡ 16
    sized k b = (chain-block (suc k) b).size

    -- the length stays
    pub length-cbc_enc : length (cbc_enc E iv x) ≡ length x
    unfolding cbc_enc
    length-cbc_enc = length_join 16 (cipher_block E iv x) (length x / 16) sized ∙ omega arith

    -- and what is enciphered is bytes
    pub bytes-cbc_enc : Bytes (cbc_enc E iv x)
    unfolding cbc_enc
    bytes-cbc_enc = bytes_join (length x / 16) (cipher_block E iv x) (λ k b. (chain-block (suc k) b).bytes)

    -- block k of the IV and the cipher blocks behind it
    record_block : (k : ℕ) → k ≤ length x / 16 → block 16 k (iv ++ cbc_enc E iv x) ≡ chain E iv x k
    unfolding cbc_enc chain
    record_block zero b = block-front 16 iv (cbc_enc E iv x) hiv.size
    record_block (suc k) b =
        block-behind 16 k iv (cbc_enc E iv x) hiv.size ∙ block_join 16 (cipher_block E iv x) (length x / 16) k sized b

    -- plain block k of them is block k of x
    plain_block : (k : ℕ) → k < length x / 16 → plain D (iv ++ cbc_enc E iv x) k ≡ block 16 k x
    unfolding plain chain
    plain_block k b =
        let last = chain E iv x k in
        let here = block 16 k x in
        let hl : Block last = chain-block k (omega arith) in
        let hh : Block here = block_of x k bx (omega arith) in
        ap₂ (λ (u v : List ℕ). xor_each u (D v)) (record_block k (omega arith)) (record_block (suc k) b)
        ∙ ap (xor_each last) (C.undoes (xor_each last here) (block-xor last here hl hh))
        ∙ xor_each_twice last here (hl.size ∙ sym hh.size)

    -- so all of them are x
    pub cbc_dec_enc : cbc_dec D iv (cbc_enc E iv x) ≡ x
    unfolding cbc_dec
    cbc_dec_enc =
        ap (λ (n : ℕ). join (n / 16) (plain D (iv ++ cbc_enc E iv x))) length-cbc_enc
        ∙ join_ext (length x / 16) (plain D (iv ++ cbc_enc E iv x)) (λ k. block 16 k x) plain_block
        ∙ join_all x w

-- ---- enciphering undoes deciphering

module _ (E D : List ℕ → List ℕ) (C : Cipher D E) (iv y : List ℕ) (hiv : Block iv) (by : Bytes y) (w : length y % 16 ≡ 0)
  where
    -- every block of the IV and y behind it
    whole_block : (k : ℕ) → k ≤ length y / 16 → Block (block 16 k (iv ++ y))
    whole_block k b =
        block_of (iv ++ y) k (bytes-append iv y hiv.bytes by) (omega (arith, length-append iv y, hiv.size))

    -- every plain block is a block
    plain_is_block : (k : ℕ) → k < length y / 16 → Block (plain D (iv ++ y) k)
    unfolding plain
    plain_is_block k b =
        block-xor (block 16 k (iv ++ y)) (D (block 16 (suc k) (iv ++ y))) (whole_block k (omega arith))
        (C.keeps (block 16 (suc k) (iv ++ y)) (whole_block (suc k) b))

    -- 16 bytes each
    plain_sized : (k : ℕ) → k < length y / 16 → length (plain D (iv ++ y) k) ≡ 16
    plain_sized k b = (plain_is_block k b).size

    -- the length stays
    pub length-cbc_dec : length (cbc_dec D iv y) ≡ length y
    unfolding cbc_dec
    length-cbc_dec = length_join 16 (plain D (iv ++ y)) (length y / 16) plain_sized ∙ omega arith

    -- and what is deciphered is bytes
    pub bytes-cbc_dec : Bytes (cbc_dec D iv y)
    unfolding cbc_dec
    bytes-cbc_dec = bytes_join (length y / 16) (plain D (iv ++ y)) (λ k b. (plain_is_block k b).bytes)

    -- the plain blocks, enciphered again, are the blocks that they came from
    chain_back : (k : ℕ) → k ≤ length y / 16 → chain E iv (cbc_dec D iv y) k ≡ block 16 k (iv ++ y)
    unfolding chain cbc_dec plain
    chain_back zero b = sym (block-front 16 iv y hiv.size)
    chain_back (suc k) b =
        let last = block 16 k (iv ++ y) in
        let next = block 16 (suc k) (iv ++ y) in
        let hl : Block last = whole_block k (omega arith) in
        let hn : Block next = whole_block (suc k) b in
        ap₂ (λ (u v : List ℕ). E (xor_each u v)) (chain_back k (omega arith))
        (block_join 16 (plain D (iv ++ y)) (length y / 16) k plain_sized b)
        ∙ ap E (xor_each_twice last (D next) (hl.size ∙ sym (C.keeps next hn).size))
        ∙ C.undoes next hn

    -- so all of them are y
    pub cbc_enc_dec : cbc_enc E iv (cbc_dec D iv y) ≡ y
    unfolding cbc_enc
    cbc_enc_dec =
        ap (λ (n : ℕ). join (n / 16) (cipher_block E iv (cbc_dec D iv y))) length-cbc_dec
        ∙ join_ext (length y / 16) (cipher_block E iv (cbc_dec D iv y)) (λ k. block 16 k y)
        (λ k b. chain_back (suc k) b ∙ block-behind 16 k iv y hiv.size)
        ∙ join_all y w
