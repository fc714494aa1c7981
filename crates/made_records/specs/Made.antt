-- Records made by hand: a text by a rule, its MAC, padding of any length, and all that enciphered. Assumes nothing.
use Rattle.std.specs.Prelude.{cond, List, ◌++◌, ℕ, ◌+◌, leb, length, drop, replicate}
use Rattle.words.specs.Lists.{table, put}
use Rattle.hmac.specs.Rfc2104.{HMAC}
use Rattle.hmac.specs.State.{hash_bytes}
use Rattle.sm4.specs.Standard.{encrypt, round_keys_of}
use Rattle.cbc.specs.Cbc.{enciphered}
use Rattle.record.specs.declared.RecordKeysCbc.{RecordKeysCbc}
use Rattle.record.specs.KeyBlock.{client_keys}
use Rattle.record.specs.Limits.{iv_len, mac_len, tlcp_record_version}
use Rattle.record.specs.Standard.{header, padding}
use Rattle.programs.specs.Rule.{byte}

-- the client's, of a key block of the bytes 13 i + 1
unfoldable pub keys : RecordKeysCbc
keys = client_keys (table (byte 13 1) 128)

-- what the MAC covers in front of a text of L bytes
abbrev pub head : ℕ → List ℕ
head L = header 0x0102030405060708 23 tlcp_record_version L

-- the bytes 7 i + 94
abbrev pub text : ℕ → List ℕ
text L = table (byte 7 94) L

-- the MAC of a text of L bytes
unfoldable pub mac_of : ℕ → List ℕ
mac_of L = HMAC hash_bytes keys.mac_key (head L ++ text L)

-- n bytes of which those behind the IV's place are the text's and go on so, with the head right in front of them
unfoldable pub headed : ℕ → ℕ → List ℕ
headed L n = put 3 (head L) (table (byte 7 238) n)

-- with the MAC behind the text, and padding of value p behind the MAC, as far as there is room
unfoldable pub padded : ℕ → ℕ → List ℕ → List ℕ
padded L p h = put (iv_len + L + mac_len) (padding p) (put (iv_len + L) (mac_of L) h)

-- all of a record but the IV, before it is enciphered; the record as found where it has no room for the text
unfoldable pub laid : ℕ → ℕ → List ℕ → List ℕ
laid L p r = cond (leb (iv_len + L) (length r)) (padded L p (headed L (length r))) r

-- the IV that each record has
abbrev pub iv : List ℕ
iv = replicate iv_len 0xa5

-- the IV, and what stands behind its place enciphered; the record as found where it has no room for the IV
unfoldable pub closed : List ℕ → List ℕ
closed r = cond (leb iv_len (length r)) (iv ++ enciphered (encrypt (round_keys_of keys.enc_key)) iv (drop iv_len r)) r
