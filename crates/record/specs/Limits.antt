-- The record's limits and lengths by name. Assumes nothing.
use Rattle.std.specs.Prelude.{List, [], ◌∷◌, ℕ}

-- the most text that is sealed
abbrev pub max_plaintext : ℕ
max_plaintext = 16384

abbrev pub mac_len : ℕ
mac_len = 32

-- of what the MAC covers besides the text
abbrev pub header_len : ℕ
header_len = 13

-- one block, in front of the body
abbrev pub iv_len : ℕ
iv_len = 16

abbrev pub cbc_key_block_len : ℕ
cbc_key_block_len = 128

-- TLCP 1.1, as it stands in a record
abbrev pub tlcp_record_version : List ℕ
tlcp_record_version = 1 ∷ 1 ∷ []
