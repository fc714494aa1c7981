-- What sealing answers and what it leaves, on all input. Assumes nothing.
use Rattle.std.specs.Prelude.{Result, Ok, Err, cond, List, ℕ, eqb, ltb, length}
use Rattle.answers.specs.declared.Refusal.{Refusal}
use Rattle.answers.specs.Answers.{Done, TooLong, NoRoom, number}
use Rattle.words.specs.Lists.{put}
use Rattle.record.specs.declared.RecordKeysCbc.{RecordKeysCbc}
use Rattle.record.specs.Limits.{max_plaintext}
use Rattle.record.specs.Standard.{sealed_length, sealed_record}

-- what sealing answers, and the record's length
pub record Sealed : Type 0 where
  pub answer : ℕ
  pub length : ℕ

-- the number and the values of each case of a result: of a refusal, length 0
abbrev pub reported : Result ℕ Refusal → Sealed
reported (Ok total) = record { answer = Done; length = total }
reported (Err why) = record { answer = number why; length = 0 }

-- for a text of L bytes and an output with room for so many: TooLong comes before NoRoom
unfoldable pub answer_of : ℕ → ℕ → ℕ
answer_of L room = cond (ltb max_plaintext L) TooLong (cond (ltb room (sealed_length L)) NoRoom Done)

-- the answer, and the record's length or 0
unfoldable pub report_of : ℕ → ℕ → Sealed
report_of L room = record { answer = answer_of L room; length = cond (eqb (answer_of L room) Done) (sealed_length L) 0 }

-- the record over the front of the output, or the output as found
unfoldable pub output_of : RecordKeysCbc → ℕ → ℕ → List ℕ → List ℕ → List ℕ → List ℕ → List ℕ
output_of keys seq type version iv text out =
    cond (eqb (answer_of (length text) (length out)) Done) (put 0 (sealed_record keys seq type version iv text) out) out
