-- What an opening is given besides the output, and what the record then is. Assumes nothing.
use Rattle.std.specs.Prelude.{Bool, cond, List, ◌++◌, ℕ, ◌-◌, length, take, drop}
use Rattle.answers.specs.Answers.{Done, BadRecord}
use Rattle.sm4.specs.Standard.{decrypt, round_keys_of}
use Rattle.cbc.specs.Cbc.{cbc_dec}
use Rattle.record.specs.declared.RecordKeysCbc.{RecordKeysCbc}
use Rattle.record.specs.Limits.{iv_len}
use Rattle.record.specs.Opened.{held, text_in, accepts}
use Rattle.record.specs.Standard.{header, tag_of}

pub record Given : Type 0 where
  pub keys : RecordKeysCbc
  pub seq : ℕ
  pub type : ℕ
  pub version : List ℕ
  pub r : List ℕ

-- n, the body's length
unfoldable pub size : Given → ℕ
size g = length g.r - iv_len

-- the CBC decryption of the body
unfoldable pub decrypted : Given → List ℕ
decrypted g = cbc_dec (decrypt (round_keys_of g.keys.enc_key)) (take iv_len g.r) (drop iv_len g.r)

-- the record's MAC of a text
abbrev pub tag_in : Given → List ℕ → List ℕ
tag_in g = tag_of g.keys.mac_key g.seq g.type g.version

-- the decryption is a text, that text's MAC and good padding
unfoldable pub accepted : Given → Bool
accepted g = accepts (tag_in g) (decrypted g)

-- header and text cut to the length held, over which the MAC is worked out
unfoldable pub covered : Given → List ℕ
covered g = header g.seq g.type g.version (held (decrypted g)) ++ text_in (decrypted g)

-- the answer, and the text length that is reported with it
unfoldable pub answer_in : Given → ℕ
answer_in g = cond (accepted g) Done BadRecord

unfoldable pub length_in : Given → ℕ
length_in g = cond (accepted g) (held (decrypted g)) 0
