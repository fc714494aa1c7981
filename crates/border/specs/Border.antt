-- What the C-callable functions answer and leave. Assumes nothing.
use Rattle.std.specs.Prelude.{Bool, cond, ◌&&◌, List, ℕ, eqb, length}
use Rattle.answers.specs.Answers.{Done, WrongSize}
use Rattle.words.specs.Bytes.{be}
use Rattle.key_schedule.specs.declared.TlcpRole.{TlcpRole}
use Rattle.key_schedule.specs.declared.TlcpRole.TheVariants.{Client, Server}
use Rattle.record.specs.declared.RecordKeysCbc.{RecordKeysCbc}
use Rattle.record.specs.Limits.{mac_len, cbc_key_block_len}
use Rattle.opening.specs.Given.{Given}

-- of a digest of SM3, and so of a MAC
abbrev pub digest_size : ℕ
digest_size = 32

-- of a key of SM4
abbrev pub key_size : ℕ
key_size = 16

-- of a block of SM4
abbrev pub block_size : ℕ
block_size = 16

-- of the size asked
unfoldable pub has : ℕ → List ℕ → Bool
has n x = eqb (length x) n

-- out has room for just a digest
unfoldable pub sized : List ℕ → Bool
sized out = has digest_size out

-- Done where the size is right, else WrongSize
unfoldable pub answer_for : Bool → ℕ
answer_for right = cond right Done WrongSize

-- x where out has room for just a digest, else out as found
unfoldable pub filled : List ℕ → List ℕ → List ℕ
filled x out = cond (sized out) x out

-- a record's MAC key, as long as a MAC, and its cipher key
unfoldable pub key_sizes : List ℕ → List ℕ → Bool
key_sizes mac enc = has mac_len mac && has key_size enc

-- a key block, and room for just the keys of either side
unfoldable pub halves_sizes : List ℕ → List ℕ → List ℕ → List ℕ → List ℕ → Bool
halves_sizes block clientMac serverMac clientEnc serverEnc =
    has cbc_key_block_len block && (key_sizes clientMac clientEnc && key_sizes serverMac serverEnc)

abbrev pub keys_from : List ℕ → List ℕ → RecordKeysCbc
keys_from mac enc = record { mac_key = mac; enc_key = enc }

-- what an opening is given; the version as one number, high byte first
abbrev pub given_from : List ℕ → List ℕ → ℕ → ℕ → ℕ → List ℕ → Given
given_from mac enc seq type version r = record { keys = keys_from mac enc; seq = seq; type = type; version = be 2 version; r = r }

-- a key, a block and room for just a block
unfoldable pub block_sizes : List ℕ → List ℕ → List ℕ → Bool
block_sizes key block out = has key_size key && (has block_size block && has block_size out)

-- 0 is the client, any other number the server
unfoldable pub role_of : ℕ → TlcpRole
role_of r = cond (eqb r 0) Client Server
