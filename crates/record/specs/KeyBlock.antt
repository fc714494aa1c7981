-- The halves of a key block: a MAC key and a cipher key for each side. Assumes nothing.
use Rattle.std.specs.Prelude.{Result, Ok, Err, cond, List, ℕ, ◌+◌, ◌-◌, eqb, length, take, drop, replicate}
use Rattle.answers.specs.declared.Refusal.{Refusal}
use Rattle.answers.specs.Answers.{Done, WrongSize, number}
use Rattle.key_schedule.specs.declared.TlcpRole.{TlcpRole}
use Rattle.key_schedule.specs.declared.TlcpRole.TheVariants.{Client, Server}
use Rattle.record.specs.declared.RecordKeysCbc.{RecordKeysCbc}
use Rattle.record.specs.Limits.{cbc_key_block_len}

-- bytes a..e
abbrev pub part : ℕ → ℕ → List ℕ → List ℕ
part a e l = take (e - a) (drop a l)

unfoldable pub client_keys : List ℕ → RecordKeysCbc
client_keys b = record { mac_key = part 0 32 b; enc_key = part 64 80 b }

unfoldable pub server_keys : List ℕ → RecordKeysCbc
server_keys b = record { mac_key = part 32 64 b; enc_key = part 80 96 b }

-- 32 bytes from m on and 16 from e on, as the code cuts either half
unfoldable pub keys_at : ℕ → ℕ → List ℕ → RecordKeysCbc
keys_at m e b = record { mac_key = part m (m + 32) b; enc_key = part e (e + 16) b }

-- what a refusal hands back
unfoldable pub zero_keys : RecordKeysCbc
zero_keys = record { mac_key = replicate 32 0; enc_key = replicate 16 0 }

-- what cutting a key block answers, and the keys
pub record Halved : Type 0 where
  pub answer : ℕ
  pub keys : RecordKeysCbc

-- the number and the values of each case of a result: of a refusal, keys of zeros
abbrev pub half_by : Result RecordKeysCbc Refusal → Halved
half_by (Ok keys) = record { answer = Done; keys = keys }
half_by (Err why) = record { answer = number why; keys = zero_keys }

-- the keys of a key block, where it has the right length
unfoldable pub halved_by : (List ℕ → RecordKeysCbc) → List ℕ → Halved
halved_by keys b =
    cond (eqb (length b) cbc_key_block_len)
    (record { answer = Done; keys = keys b })
    (record { answer = WrongSize; keys = zero_keys })

-- the keys of a role
unfoldable pub keys_of : TlcpRole → List ℕ → RecordKeysCbc
keys_of Client = client_keys
keys_of Server = server_keys
