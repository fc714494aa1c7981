-- The laws of CBC at SM4, for all round keys. Assumes nothing.
use mathlib.Core.List.{List}
use mathlib.Core.Path.{◌≡◌, sym, ◌∙◌}
use Prim.Native.Nat.{ℕ, suc, ◌+◌, ◌*◌, ◌%◌, ◌≤◌}
use native.Mathlib.Omega.{arith}
use lib.ListN.{length}
use Rattle.words.specs.Bytes.{Bytes}
use Rattle.words.specs.Lists.{block}
use Rattle.words.proofs.Lists.{length-block, length-xor_each}
use Rattle.sm4.specs.Block.{Block}
use Rattle.sm4.specs.Standard.{encrypt, decrypt}
use Rattle.sm4.proofs.Inverse.{encrypt-block, decrypt-block, decrypt-encrypt, encrypt-decrypt}
use Rattle.cbc.specs.Cbc.{Cipher, cbc_enc, cbc_dec, plain}
use Rattle.cbc.proofs.Cbc.{cbc_dec_enc, cbc_enc_dec}

-- SM4 is a cipher, either way round
pub enciphers : (rks : List ℕ) → Cipher (encrypt rks) (decrypt rks)
enciphers rks = record { keeps = λ b _. encrypt-block rks b; undoes = decrypt-encrypt rks }

-- the other way round
pub deciphers : (rks : List ℕ) → Cipher (decrypt rks) (encrypt rks)
deciphers rks = record { keeps = λ b _. decrypt-block rks b; undoes = encrypt-decrypt rks }

module _ (rks iv x : List ℕ) (hiv : Block iv) (bx : Bytes x) (w : length x % 16 ≡ 0) where
  -- deciphering undoes enciphering
  pub sm4_dec_enc : cbc_dec (decrypt rks) iv (cbc_enc (encrypt rks) iv x) ≡ x
  sm4_dec_enc = cbc_dec_enc (encrypt rks) (decrypt rks) (enciphers rks) iv x hiv bx w

  -- enciphering undoes deciphering
  pub sm4_enc_dec : cbc_enc (encrypt rks) iv (cbc_dec (decrypt rks) iv x) ≡ x
  sm4_enc_dec = cbc_enc_dec (encrypt rks) (decrypt rks) (deciphers rks) iv x hiv bx w

-- a plain block of a record is 16 bytes long
pub length_plain : (rks r : List ℕ) (k : ℕ) → (k + 2) * 16 ≤ length r → length (plain (decrypt rks) r k) ≡ 16
unfolding plain
length_plain rks r k h =
    let here = block 16 (suc k) r in
    let size : length (decrypt rks here) ≡ 16 = (decrypt-block rks here).size in
    length-xor_each (block 16 k r) (decrypt rks here) (length-block 16 k r (omega arith) ∙ sym size) ∙ size
