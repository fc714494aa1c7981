-- GB/T 38636-2020, section 6.3: the MAC, the padding and the body of a record under a block cipher in CBC, and the sealed
-- record at HMAC-SM3 and SM4. Assumes nothing.
use Rattle.std.specs.Prelude.{List, ◌∷◌, ◌++◌, ℕ, suc, ◌+◌, ◌-◌, ◌*◌, ◌/◌, ◌%◌, length, replicate}
use Rattle.words.specs.Bytes.{be}
use Rattle.sm3.specs.Standard.{SM3}
use Rattle.hmac.specs.Rfc2104.{HMAC}
use Rattle.sm4.specs.Standard.{encrypt, round_keys_of}
use Rattle.cbc.specs.Cbc.{cbc_enc}
use Rattle.record.specs.declared.RecordKeysCbc.{RecordKeysCbc}

-- what the MAC covers in front of the text: number, type, version, and the text's length
unfoldable pub header : ℕ → ℕ → List ℕ → ℕ → List ℕ
header seq type version len = be 8 seq ++ (type ∷ (version ++ be 2 len))

-- the record's MAC of a text
unfoldable pub tag_of : List ℕ → ℕ → ℕ → List ℕ → List ℕ → List ℕ
tag_of key seq type version text = HMAC SM3 key (header seq type version (length text) ++ text)

-- p + 1 bytes of value p, for p from 0 to 255
abbrev pub padding : ℕ → List ℕ
padding p = replicate (suc p) p

-- what is enciphered: the text, its MAC and the padding, over any MAC
unfoldable pub body_of : (List ℕ → List ℕ) → List ℕ → ℕ → List ℕ
body_of tag text p = text ++ (tag text ++ padding p)

-- the shortest padding that fills the last block, which sealing takes
unfoldable pub pad_of : ℕ → ℕ
pad_of L = 15 - L % 16

-- the IV, and behind it the body enciphered, over any MAC and cipher
unfoldable pub sealed_by : (List ℕ → List ℕ) → (List ℕ → List ℕ) → List ℕ → List ℕ → List ℕ
sealed_by E tag iv text = iv ++ cbc_enc E iv (body_of tag text (pad_of (length text)))

-- the sealed record of a text
unfoldable pub sealed_record : RecordKeysCbc → ℕ → ℕ → List ℕ → List ℕ → List ℕ → List ℕ
sealed_record keys seq type version iv text =
    sealed_by (encrypt (round_keys_of keys.enc_key)) (tag_of keys.mac_key seq type version) iv text

-- how long it is, for a text of L bytes
unfoldable pub sealed_length : ℕ → ℕ
sealed_length L = 16 * (L / 16 + 4)
