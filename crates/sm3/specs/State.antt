-- The running hash as a machine: what each call makes of a state, on every state. Assumes nothing.
use Rattle.std.specs.Prelude.{Result, Ok, Err, ℕ, ◌+◌, ◌*◌, ◌/◌, ◌%◌, ◌^◌, cond, ◌&&◌, List, ◌++◌, length, take, drop, replicate, nat_le, nat_lt}
use Rattle.answers.specs.declared.Refusal.{Refusal}
use Rattle.answers.specs.Answers.{Done, BadState, number}
use Rattle.sm3.specs.declared.Sm3.{Sm3}
use Rattle.sm3.specs.Standard.{IV, ending, iteration, bytes_of}

-- what an update answers, and the state that stands after it
pub record Updated : Type 0 where
  pub answer : ℕ
  pub hasher : Sm3

-- what a digest is answered with, and its 32 bytes
pub record Digest : Type 0 where
  pub answer : ℕ
  pub bytes : List ℕ

-- the number and the values of each case of a result: where an update is refused, the state as given
abbrev pub update_of : Sm3 → Result Sm3 Refusal → Updated
update_of h (Ok next) = record { answer = Done; hasher = next }
update_of h (Err why) = record { answer = number why; hasher = h }

-- where a digest is refused, zeros
abbrev pub digest_by : Result (List ℕ) Refusal → Digest
digest_by (Ok bytes) = record { answer = Done; bytes = bytes }
digest_by (Err why) = record { answer = number why; bytes = replicate 32 0 }

-- nothing taken in yet
unfoldable pub fresh : Sm3
fresh = record { state = IV; buffer = replicate 64 0; buffer_len = 0; total_len = 0 }

-- what stands behind the last whole block of s
unfoldable pub rest : List ℕ → List ℕ
rest s = drop (length s / 64 * 64) s

-- x over the front of b
unfoldable pub over : List ℕ → List ℕ → List ℕ
over x b = x ++ drop (length x) b

-- the words v after the whole blocks of s, what is left of s over the front of b, and the total t
unfoldable pub absorbed : List ℕ → List ℕ → ℕ → List ℕ → Sm3
absorbed v b t s =
    record { state = iteration v s; buffer = over (rest s) b; buffer_len = length s % 64; total_len = t }

-- the bytes that wait in the buffer, and d behind them
unfoldable pub pending : Sm3 → List ℕ → List ℕ
pending h d = take h.buffer_len h.buffer ++ d

-- what the rest is laid over: the buffer, and the block that went through it where one was completed there
unfoldable pub base : Sm3 → List ℕ → List ℕ
base h s = cond (nat_lt 0 h.buffer_len && nat_le 64 (length s)) (take 64 s) h.buffer

-- the state h with d taken in
unfoldable pub taken : Sm3 → List ℕ → Sm3
taken h d = absorbed h.state (base h (pending h d)) ((h.total_len + length d) % 2 ^ 64) (pending h d)

-- `update`: a fill above 63 is refused, the state as given
unfoldable pub updated : Sm3 → List ℕ → Updated
updated h d =
    cond (nat_lt h.buffer_len 64)
    (record { answer = Done; hasher = taken h d })
    (record { answer = BadState; hasher = h })

-- `finalize`: zeros counted from the fill, the bit count from the total; a fill above 63 is refused, the digest zero
unfoldable pub finalized : Sm3 → Digest
finalized h =
    cond (nat_lt h.buffer_len 64)
    (record {
      answer = Done;
      bytes = bytes_of (iteration h.state (pending h (ending h.buffer_len h.total_len)));
    })
    (record { answer = BadState; bytes = replicate 32 0 })

-- `hash`: the standard's, with the total taken modulo 2^64
unfoldable pub hashed : List ℕ → Digest
hashed m =
    record { answer = Done; bytes = bytes_of (iteration IV (m ++ ending (length m) (length m % 2 ^ 64))) }
