-- The running MAC as a machine: what each call makes of a state, on every state. Assumes nothing.
use Rattle.std.specs.Prelude.{Result, Ok, Err, Bool, false, cond, ◌&&◌, List, ℕ, eqb, ltb, replicate}
use Rattle.answers.specs.declared.Refusal.{Refusal}
use Rattle.answers.specs.Answers.{Done, BadState, number}
use Rattle.words.specs.Lists.{xor_each, agree}
use Rattle.sm3.specs.State.{Digest, fresh, taken, hashed, finalized as digested}
use Rattle.hmac.specs.declared.HmacSm3.{HmacSm3}
use Rattle.hmac.specs.Rfc2104.{B, L, ipad, opad, K', HMAC}

-- what a start or an update answers, and the state that stands after it
pub record Keyed : Type 0 where
  pub answer : ℕ
  pub mac : HmacSm3

-- what a verification answers, and whether the MAC is the expected one
pub record Verified : Type 0 where
  pub answer : ℕ
  pub matches : Bool

-- the number and the values of each case of a result: where an update is refused, the state as given
abbrev pub keyed_of : HmacSm3 → Result HmacSm3 Refusal → Keyed
keyed_of m (Ok next) = record { answer = Done; mac = next }
keyed_of m (Err why) = record { answer = number why; mac = m }

-- where a verification is refused, no
abbrev pub verified_by : Result Bool Refusal → Verified
verified_by (Ok agreed) = record { answer = Done; matches = agreed }
verified_by (Err why) = record { answer = number why; matches = false }

-- the bytes of `hash`: SM3 below 2^61 bytes
unfoldable pub hash_bytes : List ℕ → List ℕ
hash_bytes m = (hashed m).bytes

-- `new`: a hash that has taken in K' XOR ipad, and one with K' XOR opad
unfoldable pub started : List ℕ → Keyed
started K =
    record {
      answer = Done;
      mac = record { inner = taken fresh (xor_each (K' hash_bytes K) ipad); outer = taken fresh (xor_each (K' hash_bytes K) opad) };
    }

-- both fills are below 64
unfoldable pub in_range : HmacSm3 → Bool
in_range m = ltb m.inner.buffer_len B && ltb m.outer.buffer_len B

-- `update`: the inner hash takes d in; a state out of range is refused, as given
unfoldable pub updated : HmacSm3 → List ℕ → Keyed
updated m d =
    cond (in_range m)
    (record { answer = Done; mac = record { inner = taken m.inner d; outer = m.outer } })
    (record { answer = BadState; mac = m })

-- the inner digest, through the outer hash
unfoldable pub tag : HmacSm3 → List ℕ
tag m = (digested (taken m.outer (digested m.inner).bytes)).bytes

-- `finalize`: a state out of range is refused, the digest zero
unfoldable pub finalized : HmacSm3 → Digest
finalized m = cond (in_range m) (record { answer = Done; bytes = tag m }) (record { answer = BadState; bytes = replicate L 0 })

-- `verify`: the answer of `finalize`; yes exactly when that is Done and all 32 bytes agree
unfoldable pub verified : HmacSm3 → List ℕ → Verified
verified m e =
    record {
      answer = (finalized m).answer;
      matches = eqb (finalized m).answer Done && agree (finalized m).bytes e;
    }

-- `hmac_sm3`: RFC 2104 over that hash
unfoldable pub mac : List ℕ → List ℕ → Digest
mac K m = record { answer = Done; bytes = HMAC hash_bytes K m }
