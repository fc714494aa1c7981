-- Which records are opened, by their length, and in how many steps. Assumes nothing.
use Rattle.std.specs.Prelude.{Bool, cond, ◌&&◌, ℕ, ◌+◌, ◌-◌, ◌/◌, ◌%◌, eqb, leb, ltb}
use Rattle.answers.specs.Answers.{Done, Short, Ragged, TooBig}
use Rattle.record.specs.Limits.{iv_len}

-- the IV, a MAC and one block of padding
abbrev pub min_record : ℕ
min_record = 64

-- the longest body that is opened
abbrev pub max_body : ℕ
max_body = 16432

-- the first of three that applies to a record of r bytes
unfoldable pub size_answer : ℕ → ℕ
size_answer r =
    cond (ltb r min_record) Short
    (cond (eqb ((r - iv_len) % 16) 0) (cond (ltb max_body (r - iv_len)) TooBig Done) Ragged)

-- a body's length, in whole blocks
unfoldable pub allowed : ℕ → Bool
allowed n = leb (min_record - iv_len) n && (leb n max_body && eqb (n % 16) 0)

-- m, the steps that decipher a block each
abbrev pub blocks : ℕ → ℕ
blocks n = n / 16

-- B, the steps that compress header and text: (n - 11) / 64, rounded up
unfoldable pub mac_steps : ℕ → ℕ
mac_steps n = (n - 11 + 63) / 64

-- T = m + B + 4
unfoldable pub total_steps : ℕ → ℕ
total_steps n = blocks n + mac_steps n + 4
