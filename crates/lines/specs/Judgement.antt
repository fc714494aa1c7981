-- What is said of a line. Assumes nothing.
use Rattle.std.specs.Prelude.{Bool, cond, List, ℕ, ◌-◌, ◌/◌, ◌%◌, Result, Ok, Err, eqb, ltb, length}
use Rattle.answers.specs.Answers.{Done, Short, Ragged}
use Rattle.answers.specs.declared.Refusal.{Refusal}
use Rattle.record.specs.Limits.{iv_len}
use Rattle.sizes.specs.Sizes.{size_answer, total_steps}
use Rattle.lines.specs.Hexadecimal.{all_hex}
use Rattle.lines.specs.declared.Judged.{Judged}
use Rattle.lines.specs.declared.Line.{Line}

-- the most characters of a line that is not `long`
abbrev pub max_line_len : ℕ
max_line_len = 33000

-- printed as three numbers, as `long`, as `bad`
abbrev pub Sized : ℕ
Sized = 0

abbrev pub Long : ℕ
Long = 1

abbrev pub Bad : ℕ
Bad = 2

-- the number of what is said
abbrev pub kind_of : Judged → ℕ
kind_of (Judged.Sized r answer total) = Sized
kind_of Judged.Long = Long
kind_of Judged.Bad = Bad

-- and its values: the record's length, 0 where no size is given
abbrev pub record_len_of : Judged → ℕ
record_len_of (Judged.Sized r answer total) = r
record_len_of Judged.Long = 0
record_len_of Judged.Bad = 0

-- its size answer, 0 where no size is given
abbrev pub answer_of : Judged → ℕ
answer_of (Judged.Sized r answer total) = answer
answer_of Judged.Long = Done
answer_of Judged.Bad = Done

-- T, 0 where the size is refused or none is given
abbrev pub total_of : Judged → ℕ
total_of (Judged.Sized r answer total) = total
total_of Judged.Long = 0
total_of Judged.Bad = 0

-- the refusal with the number of a size answer
abbrev pub size_refusal : ℕ → Refusal
size_refusal n = cond (eqb n Short) Refusal.Short (cond (eqb n Ragged) Refusal.Ragged Refusal.TooBig)

-- T of a record of r bytes, or why its size is refused
unfoldable pub steps_of : ℕ → Result ℕ Refusal
steps_of r = cond (eqb (size_answer r) Done) (Ok (total_steps (r - iv_len))) (Err (size_refusal (size_answer r)))

-- the length of a record of r bytes, its size answer, and T, or 0 if it is refused
unfoldable pub sized : ℕ → Judged
sized r = Judged.Sized r (size_answer r) (cond (eqb (size_answer r) Done) (total_steps (r - iv_len)) 0)

-- by the number of characters and whether each is a digit: `long` first, two digits to a byte else
unfoldable pub judgement : ℕ → ℕ → Bool → Judged
judgement limit count hex =
    cond (ltb limit count) Judged.Long
    (cond (eqb (count % 2) 0) (cond hex (sized (count / 2)) Judged.Bad) Judged.Bad)

-- of a whole line
unfoldable pub judged : ℕ → List ℕ → Judged
judged limit line = judgement limit (length line) (all_hex line)

-- of a line that was read, by what is kept of it
abbrev pub judged_line : ℕ → Line → Judged
judged_line limit line = judgement limit line.count line.hex
