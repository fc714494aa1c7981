-- The sealed record: how long it is, and that deciphering gives back the body that was enciphered. Assumes nothing.
use mathlib.Core.List.{List, ◌++◌}
use mathlib.Core.Path.{◌≡◌, ap, ◌∙◌}
use Prim.Native.Nat.{ℕ, suc, ◌+◌, ◌*◌, ◌/◌, ◌%◌}
use native.Mathlib.Omega.{arith}
use lib.ListN.{length, get_or, drop, length-append}
use lib.Seq.{drop_at}
use Rattle.words.specs.Bytes.{Bytes}
use Rattle.words.specs.Lists.{block, xor_each}
use Rattle.words.proofs.Bytes.{bytes-append, bytes-be, bytes_join, bytes-replicate}
use Rattle.words.proofs.Lists.{length_join}
use Rattle.sm3.specs.Standard.{IV, padded, iteration, SM3, bytes_of, word_bytes}
use Rattle.sm3.proofs.Standard.{length-SM3}
use Rattle.hmac.specs.Rfc2104.{HMAC}
use Rattle.sm4.specs.Block.{Block}
use Rattle.sm4.specs.Standard.{encrypt, decrypt, round_keys_of}
use Rattle.sm4.proofs.Inverse.{encrypt-block}
use Rattle.cbc.specs.Cbc.{Cipher, chain, cipher_block, cbc_enc, cbc_dec}
use Rattle.cbc.proofs.Cbc.{cbc_dec_enc}
use Rattle.cbc.proofs.Sm4.{enciphers}
use Rattle.record.specs.declared.RecordKeysCbc.{RecordKeysCbc}
use Rattle.record.specs.Limits.{mac_len, iv_len}
use Rattle.record.specs.Standard.{tag_of, padding, body_of, pad_of, sealed_by, sealed_record, sealed_length}
use Rattle.record.proofs.Accepts.{length-body}

-- ---- the record's MAC

-- 32 bytes
pub length-tag : (key : List ℕ) (seq type : ℕ) (version text : List ℕ) → length (tag_of key seq type version text) ≡ mac_len
unfolding tag_of HMAC
length-tag key seq type version text = length-SM3 _

-- a digest is bytes
bytes-SM3 : (m : List ℕ) → Bytes (SM3 m)
unfolding SM3 bytes_of word_bytes
bytes-SM3 m =
    let v = iteration IV (padded m) in
    bytes_join 8 (word_bytes v) (λ k _. bytes-be 4 (get_or v k 0))

-- and so is the MAC
pub bytes-tag : (key : List ℕ) (seq type : ℕ) (version text : List ℕ) → Bytes (tag_of key seq type version text)
unfolding tag_of HMAC
bytes-tag key seq type version text = bytes-SM3 _

-- ---- lengths

-- a cipher whose blocks are of 16 bytes keeps the length of whole blocks, whatever they hold
pub length-enciphered : (E : List ℕ → List ℕ) (iv x : List ℕ) → ((b : List ℕ) → length (E b) ≡ 16) → length x % 16 ≡ 0
    → length (cbc_enc E iv x) ≡ length x
unfolding cbc_enc chain
length-enciphered E iv x sizes w =
    length_join 16 (cipher_block E iv x) (length x / 16) (λ k _. sizes (xor_each (chain E iv x k) (block 16 k x))) ∙ omega arith

module _ (tag : List ℕ → List ℕ) (size : (t : List ℕ) → length (tag t) ≡ 32) (text : List ℕ) where
  -- the shortest padding fills the last block
  pub length-sealed-body : length (body_of tag text (pad_of (length text))) ≡ 16 * (length text / 16 + 3)
  unfolding pad_of
  length-sealed-body = length-body tag size text (pad_of (length text)) ∙ omega arith

  -- in whole blocks
  pub whole_blocks : length (body_of tag text (pad_of (length text))) % 16 ≡ 0
  whole_blocks = omega (arith, length-sealed-body)

  -- and is bytes, where text and MAC are
  pub bytes-body : Bytes text → Bytes (tag text) → Bytes (body_of tag text (pad_of (length text)))
  unfolding body_of pad_of
  bytes-body bt bm =
      let p = pad_of (length text) in
      bytes-append text (tag text ++ padding p) bt (bytes-append (tag text) (padding p) bm (bytes-replicate (suc p) p (omega arith)))

  module _ (E : List ℕ → List ℕ) (iv : List ℕ) (hiv : length iv ≡ 16) where
    -- the IV and the body
    pub length-sealed_by : ((b : List ℕ) → length (E b) ≡ 16) → length (sealed_by E tag iv text) ≡ sealed_length (length text)
    unfolding sealed_by sealed_length
    length-sealed_by sizes =
        let body = body_of tag text (pad_of (length text)) in
        length-append iv (cbc_enc E iv body)
        ∙ omega (arith, length-sealed-body, length-enciphered E iv body sizes whole_blocks)

  -- ---- deciphering

  module _ (E D : List ℕ → List ℕ) (C : Cipher E D) (iv : List ℕ) (hiv : Block iv) (bt : Bytes text) (bm : Bytes (tag text))
    where
      -- what stands behind the IV deciphers to the body
      pub opened-body : cbc_dec D iv (drop iv_len (sealed_by E tag iv text)) ≡ body_of tag text (pad_of (length text))
      unfolding sealed_by
      opened-body =
          let body = body_of tag text (pad_of (length text)) in
          ap (cbc_dec D iv) (drop_at iv (cbc_enc E iv body) 16 hiv.size)
          ∙ cbc_dec_enc E D C iv body hiv (bytes-body bt bm) whole_blocks

-- ---- at SM4 and HMAC-SM3

module _ (keys : RecordKeysCbc) (seq type : ℕ) (version iv text : List ℕ) where
  -- the record is as long as announced
  pub length-sealed_record : length iv ≡ 16 → length (sealed_record keys seq type version iv text) ≡ sealed_length (length text)
  unfolding sealed_record
  length-sealed_record hiv =
      length-sealed_by (tag_of keys.mac_key seq type version) (length-tag keys.mac_key seq type version) text
      (encrypt (round_keys_of keys.enc_key)) iv hiv (λ b. (encrypt-block (round_keys_of keys.enc_key) b).size)

  -- and deciphers to the body of the text with the shortest padding
  pub opened-sealed_record : Block iv → Bytes text
      → cbc_dec (decrypt (round_keys_of keys.enc_key)) iv (drop iv_len (sealed_record keys seq type version iv text))
      ≡ body_of (tag_of keys.mac_key seq type version) text (pad_of (length text))
  unfolding sealed_record
  opened-sealed_record hiv bt =
      let rks = round_keys_of keys.enc_key in
      opened-body (tag_of keys.mac_key seq type version) (length-tag keys.mac_key seq type version) text
      (encrypt rks) (decrypt rks) (enciphers rks) iv hiv bt (bytes-tag keys.mac_key seq type version text)
