-- The loop that enciphers a body in place, one block a turn: the blocks behind those done are still as found.
-- Assumes nothing.
use mathlib.Core.List.{List, ◌++◌, append-nil}
use mathlib.Core.Path.{◌≡◌, refl, sym, ap, ap₂, ◌∙◌}
use Prim.Native.Nat.{ℕ, zero, suc, ◌+◌, ◌*◌, ◌/◌, ◌%◌, ◌≤◌, ◌<◌}
use native.Mathlib.Numerals.{add-one}
use native.Mathlib.Omega.{arith}
use lib.ListN.{length, take, drop, drop_of_length-le}
use lib.Seq.{take_all, take-take, drop_at, length-take-le}
use Rattle.words.specs.Lists.{block, join, put, xor_each}
use Rattle.words.proofs.Lists.{take-drop, join_ext, length_join, put_join, length-put}
use Rattle.cbc.specs.Cbc.{chain, cipher_block, cbc_enc, whole, rest, enciphered}

-- a block that lies in the front of a list
block-take : (n k : ℕ) (x : List ℕ) → suc k * 16 ≤ n → block 16 k (take n x) ≡ block 16 k x
block-take n k x h =
    take-drop 16 (k * 16) (take n x)
    ∙ ap (drop (k * 16)) (take-take (k * 16 + 16) n x (omega arith))
    ∙ sym (take-drop 16 (k * 16) x)

module _ (E : List ℕ → List ℕ) (iv x : List ℕ) where
  -- the first k cipher blocks come from the first k blocks
  chain-take : (n k : ℕ) → k * 16 ≤ n → chain E iv (take n x) k ≡ chain E iv x k
  unfolding chain
  chain-take n zero h = refl
  chain-take n (suc k) h =
      ap₂ (λ (u v : List ℕ). E (xor_each u v)) (chain-take n k (omega arith)) (block-take n k x h)

  -- all whole blocks of x, whatever stands behind them
  cbc_enc_whole : cbc_enc E iv (whole x) ≡ join (length x / 16) (cipher_block E iv x)
  unfolding cbc_enc
  cbc_enc_whole =
      let n : length (whole x) / 16 ≡ length x / 16 =
      ap (λ (l : ℕ). l / 16) (length-take-le (length x / 16 * 16) x (omega arith)) ∙ omega arith in
      ap (λ (m : ℕ). join m (cipher_block E iv (whole x))) n
      ∙ join_ext (length x / 16) (cipher_block E iv (whole x)) (cipher_block E iv x)
      (λ k b. chain-take (length x / 16 * 16) (suc k) (omega arith))

-- after k blocks of x: o holds them and what was behind them, and prev is the last one, or the IV
pub record Done (E : List ℕ → List ℕ) (iv x o prev : List ℕ) (k : ℕ) : Type 0 where
  pub within : k ≤ length x / 16
  pub long : length o ≡ length x
  pub last : prev ≡ chain E iv x k
  pub so_far : o ≡ join k (cipher_block E iv x) ++ drop (k * 16) x

-- before the first block
pub done_none : (E : List ℕ → List ℕ) (iv x : List ℕ) → Done E iv x x iv 0
unfolding chain join
done_none E iv x = record { within = omega arith; long = refl; last = refl; so_far = refl }

module _ {E : List ℕ → List ℕ} {iv x o prev : List ℕ} {k : ℕ} (sizes : (b : List ℕ) → length (E b) ≡ 16)
    (d : Done E iv x o prev k) where
  -- a cipher block is 16 bytes long
  sized : (j : ℕ) → length (cipher_block E iv x j) ≡ 16
  unfolding chain
  sized j = sizes (xor_each (chain E iv x j) (block 16 j x))

  -- block k is still as found
  block-left : block 16 k o ≡ block 16 k x
  block-left =
      ap (λ (l : List ℕ). block 16 k l) d.so_far
      ∙ ap (take 16) (drop_at (join k (cipher_block E iv x)) (drop (k * 16) x) (k * 16)
      (length_join 16 (cipher_block E iv x) k (λ j _. sized j)))

  -- one block more
  pub done_more : (next : List ℕ) → k < length x / 16 → next ≡ E (xor_each prev (block 16 k o))
      → Done E iv x (put (k * 16) next o) next (k + 1)
  unfolding chain
  done_more next b e =
      let is : next ≡ cipher_block E iv x k =
      e ∙ ap₂ (λ (u v : List ℕ). E (xor_each u v)) d.last block-left in
      record {
        within = omega arith;
        long = length-put (k * 16) next o ∙ d.long;
        last = rw (add-one k) is;
        so_far = rw (add-one k)
            (ap₂ (put (k * 16)) is d.so_far
            ∙ put_join 16 (cipher_block E iv x) k x (λ j _. sized j) (omega arith));
      }

  -- after the last block
  pub done_all : length x / 16 ≤ k → o ≡ enciphered E iv x
  unfolding enciphered
  done_all b =
      let n : k ≡ length x / 16 = omega (arith, d.within) in
      (rw n at d.so_far) ∙ ap (λ (l : List ℕ). l ++ rest x) (sym (cbc_enc_whole E iv x))

-- a body of whole blocks is enciphered whole
pub enciphered_whole : (E : List ℕ → List ℕ) (iv x : List ℕ) → length x % 16 ≡ 0 → enciphered E iv x ≡ cbc_enc E iv x
unfolding enciphered
enciphered_whole E iv x w =
    let n : length x ≤ length x / 16 * 16 = omega arith in
    rw (take_all (length x / 16 * 16) x n, drop_of_length-le x n) (append-nil (cbc_enc E iv x))
