-- Every list of 48 bytes is the decryption of a record that passes the checks; so there is a record with bad padding, and one with good
-- padding and a wrong MAC. Assumes nothing.
use mathlib.Core.Bool.{Bool, true, false, cond}
use mathlib.Core.List.{List, ◌++◌, append_assoc}
use mathlib.Core.Path.{◌≡◌, refl, sym, ap, ◌∙◌}
use Prim.Native.Nat.{ℕ, ◌%◌, ◌≤◌, ◌<◌}
use native.Mathlib.Omega.{arith}
use borrow.Author.Tests.{eqb-true, eqb-false}
use lib.Dec.{eqb, lit<, lit≤}
use lib.ListN.{length, get_or, replicate, length-append, length-replicate}
use lib.Seq.{take_at, drop_at}
use Rattle.words.specs.Bytes.{Bytes}
use Rattle.words.proofs.Bytes.{bytes-append, bytes-replicate}
use Rattle.words.proofs.Tests.{left_fails}
use Rattle.sm4.specs.Block.{Block}
use Rattle.sm4.specs.Standard.{encrypt, decrypt, round_keys_of}
use Rattle.sm4.proofs.Inverse.{encrypt-block}
use Rattle.cbc.specs.Cbc.{cbc_enc}
use Rattle.cbc.proofs.Cbc.{bytes-cbc_enc}
use Rattle.cbc.proofs.Sm4.{enciphers, sm4_dec_enc}
use Rattle.record.specs.Opened.{last_byte, good_pad, held, text_in, mac_in, accepts}
use Rattle.record.specs.KeyBlock.{zero_keys}
use Rattle.record.proofs.Accepts.{accepted-parts}
use Rattle.record.proofs.Records.{length-enciphered}
use Rattle.opening.specs.Given.{Given, decrypted, tag_in, accepted}
use Rattle.demands.specs.Checks.{Openable}
use Rattle.demands.specs.Figures.{Says}
use Rattle.demands.proofs.Figures.{good, bad, last-ending}

-- zeros, which nothing works out
unfoldable pub zeros : ℕ → List ℕ
zeros n = replicate n 0

-- n of them
pub length-zeros : (n : ℕ) → length (zeros n) ≡ n
unfolding zeros
length-zeros n = length-replicate n 0

-- all bytes
pub bytes-zeros : (n : ℕ) → Bytes (zeros n)
unfolding zeros
bytes-zeros n = bytes-replicate n 0 (lit< tt)

-- sixteen of them are a block
pub block-zeros : Block (zeros 16)
block-zeros = record { size = length-zeros 16; bytes = bytes-zeros 16 }

-- ---- a record for every body

-- the round keys of zeros
abbrev rks : List ℕ
rks = round_keys_of zero_keys.enc_key

-- keys, header and IV of zeros, and the body enciphered
abbrev pub holding : List ℕ → Given
holding d =
    record {
      keys = zero_keys;
      seq = 0;
      type = 0;
      version = zeros 2;
      r = zeros 16 ++ cbc_enc (encrypt rks) (zeros 16) d;
    }

module _ (d : List ℕ) (bytes : Bytes d) (long : length d ≡ 48) where
  -- in whole blocks
  whole : length d % 16 ≡ 0
  whole = rw long

  -- its decryption is the body
  pub decrypted-holding : decrypted (holding d) ≡ d
  unfolding decrypted
  decrypted-holding =
      let c = cbc_enc (encrypt rks) (zeros 16) d in
      rw (take_at (zeros 16) c 16 (length-zeros 16), drop_at (zeros 16) c 16 (length-zeros 16))
      (sm4_dec_enc rks (zeros 16) d block-zeros bytes whole)

  -- it is bytes
  pub bytes-holding : Bytes (holding d).r
  bytes-holding =
      bytes-append (zeros 16) (cbc_enc (encrypt rks) (zeros 16) d) (bytes-zeros 16)
      (bytes-cbc_enc (encrypt rks) (decrypt rks) (enciphers rks) (zeros 16) d block-zeros bytes whole)

  -- 64 of them
  pub length-holding : length (holding d).r ≡ 64
  length-holding =
      length-append (zeros 16) (cbc_enc (encrypt rks) (zeros 16) d)
      ∙ omega (arith, length-zeros 16, long, length-enciphered (encrypt rks) (zeros 16) d (λ b. (encrypt-block rks b).size) whole)

  -- so it passes the checks where there is room for it
  pub checks-holding : (o : List ℕ) → 48 ≤ length o → Openable (length (holding d).r) (length o)
  checks-holding o h = rw length-holding (record { least = lit≤ tt; whole = refl; most = lit≤ tt; fits = h })

-- ---- bad padding

-- 47 zeros and a byte that says of itself that there are sixteen more
unfoldable pub bad_padding : List ℕ
bad_padding = zeros 47 ++ replicate 1 0x10

-- 48 bytes
pub length-bad : length bad_padding ≡ 48
unfolding bad_padding
length-bad = length-append (zeros 47) (replicate 1 0x10) ∙ omega (arith, length-zeros 47)

pub bytes-bad : Bytes bad_padding
unfolding bad_padding
bytes-bad = bytes-append (zeros 47) (replicate 1 0x10) (bytes-zeros 47) (bytes-replicate 1 0x10 (lit< tt))

-- that byte is its last
pub last-bad : last_byte bad_padding ≡ 0x10
unfolding bad_padding
last-bad = last-ending (zeros 47) 0 0x10

-- it is no padding
pub not_good_lem : good_pad bad_padding ≡ false
unfolding bad_padding Says
not_good_lem = (bad 47 0 0x10 15 (lit< tt) refl (zeros 47) (length-zeros 47)).0

-- so its record is not accepted
pub bad-refused : accepted (holding bad_padding) ≡ false
unfolding accepted accepts
bad-refused =
    let d = decrypted (holding bad_padding) in
    let e : decrypted (holding bad_padding) ≡ bad_padding = decrypted-holding bad_padding bytes-bad length-bad in
    left_fails (good_pad d) _ (ap good_pad e ∙ not_good_lem)

-- ---- a wrong MAC

-- the MAC of 15 zeros
unfoldable pub tag : List ℕ
tag = tag_in (holding bad_padding) (zeros 15)

-- a number other than its first byte
unfoldable pub other_byte : ℕ
other_byte = cond (eqb (get_or tag 0 0) 0) 1 0

-- 32 times
abbrev pub other : List ℕ
other = replicate 32 other_byte

-- 15 zeros, those bytes, and a padding of one zero
unfoldable pub bad_mac : List ℕ
bad_mac = (zeros 15 ++ other) ++ replicate 1 0

-- the MAC is not those bytes
other_differs : other ≡ tag → ⊥
unfolding other_byte
other_differs e = by (eqb (get_or tag 0 0) 0) refl (ap (λ (l : List ℕ). get_or l 0 0) e)
  where
    by : (t : Bool) → eqb (get_or tag 0 0) 0 ≡ t → cond t 1 0 ≡ get_or tag 0 0 → ⊥
    by true f g = omega (arith, eqb-true (get_or tag 0 0) 0 f)
    by false f g = eqb-false (get_or tag 0 0) 0 f (sym g)

-- they are 32 bytes
length-other : length other ≡ 32
length-other = length-replicate 32 other_byte

bytes-other : Bytes other
unfolding other_byte
bytes-other = bytes-replicate 32 other_byte (by (eqb (get_or tag 0 0) 0))
  where
    by : (t : Bool) → cond t 1 0 < 256
    by true = lit< tt
    by false = lit< tt

-- so there are 47 in front of the padding
length_front : length (zeros 15 ++ other) ≡ 47
length_front = length-append (zeros 15) other ∙ omega (arith, length-zeros 15, length-other)

pub length-mac : length bad_mac ≡ 48
unfolding bad_mac
length-mac = length-append (zeros 15 ++ other) (replicate 1 0) ∙ omega (arith, length_front)

pub bytes-mac : Bytes bad_mac
unfolding bad_mac
bytes-mac =
    bytes-append (zeros 15 ++ other) (replicate 1 0) (bytes-append (zeros 15) other (bytes-zeros 15) bytes-other) (bytes-replicate 1 0 (lit< tt))

-- the padding is good, and 15 bytes are held
padding-mac : (good_pad bad_mac ≡ true) × (held bad_mac ≡ 15)
unfolding bad_mac Says
padding-mac = good 47 0 (lit≤ tt) (zeros 15 ++ other) length_front

pub good-mac : good_pad bad_mac ≡ true
good-mac = padding-mac.0

-- the zeros are the text
text-mac : text_in bad_mac ≡ zeros 15
unfolding text_in bad_mac
text-mac = rw (padding-mac.1, append_assoc (zeros 15) other (replicate 1 0)) (take_at (zeros 15) (other ++ replicate 1 0) 15 (length-zeros 15))

-- and the other bytes stand for its MAC
mac-mac : mac_in bad_mac ≡ other
unfolding mac_in bad_mac
mac-mac =
    rw (
      padding-mac.1,
      append_assoc (zeros 15) other (replicate 1 0),
      drop_at (zeros 15) (other ++ replicate 1 0) 15 (length-zeros 15),
    )
    (take_at other (replicate 1 0) 32 length-other)

-- so its record is not accepted
pub mac-refused : accepted (holding bad_mac) ≡ false
unfolding accepted tag
mac-refused = by (accepts (tag_in (holding bad_mac)) (decrypted (holding bad_mac))) refl
  where
    by : (t : Bool) → accepts (tag_in (holding bad_mac)) (decrypted (holding bad_mac)) ≡ t → t ≡ false
    by false e = refl
    by true e =
        let f = rw (decrypted-holding bad_mac bytes-mac length-mac) at e in
        let m = (accepted-parts (tag_in (holding bad_mac)) bad_mac f).1 in
        absurd (other_differs (sym mac-mac ∙ m ∙ ap (tag_in (holding bad_mac)) text-mac))
