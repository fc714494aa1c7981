-- What is written of the lines that end in a chunk, and at the end of the input. Assumes nothing.
use Rattle.std.specs.Prelude.{Bool, cond, List, [], ℕ, ◌*◌, Result, Ok, Err, ltb, length}
use Rattle.answers.specs.declared.Refusal.{Refusal}
use Rattle.words.specs.Lists.{put}
use Rattle.lines.specs.Judgement.{max_line_len, judged_line}
use Rattle.lines.specs.Reading.{fresh, begun, told, told_last}
use Rattle.lines.specs.Text.{text_of, printed}
use Rattle.lines.specs.declared.Line.{Line}
use Rattle.lines.specs.declared.Step.{Step}
use Rattle.lines.specs.declared.Told.{Told}

-- the most bytes of a text: 20, 3 and 20 digits, two spaces and a newline
abbrev pub most_text : ℕ
most_text = 46

-- the bytes of the lines that end in a chunk
abbrev pub chunk_text : Line → List ℕ → List ℕ
chunk_text line chunk = printed (told max_line_len line chunk)

-- the bytes of the line begun, at the end of the input
abbrev pub last_text : Line → List ℕ
last_text line = printed (told_last max_line_len line)

-- the bytes of the line that a step ended, if it ended one
abbrev pub ended_text : Step → List ℕ
ended_text (Step.Ended line used) = text_of (judged_line max_line_len line)
ended_text (Step.Begun line) = []

-- behind a line that ended a fresh one begins
abbrev pub next_line : Step → Line
next_line (Step.Ended line used) = fresh
next_line (Step.Begun line) = line

-- an output without room for n texts is refused
abbrev pub refused : ℕ → List ℕ → Bool
refused n out = ltb (length out) (most_text * n)

-- the line that is begun after a call with this one: of a refusal the line as it was
abbrev pub line_after : Line → Result Told Refusal → Line
line_after line (Ok told) = told.line
line_after line (Err why) = line

-- and how many bytes are written: of a refusal none
abbrev pub written : Result Told Refusal → ℕ
written (Ok told) = told.length
written (Err why) = 0

-- the line goes on as it was, and nothing is written
abbrev pub no_room : Result Told Refusal
no_room = Err Refusal.NoRoom

-- the line that is begun then, and how many bytes are written
abbrev pub wrote : Line → List ℕ → Result Told Refusal
wrote line text = Ok (record { line = line; length = length text })

-- the report on a chunk: each of its bytes can end a line
unfoldable pub chunk_report : Line → List ℕ → List ℕ → Result Told Refusal
chunk_report line chunk out =
    cond (refused (length chunk) out) no_room (wrote (begun line chunk) (chunk_text line chunk))

-- the output afterwards
unfoldable pub chunk_output : Line → List ℕ → List ℕ → List ℕ
chunk_output line chunk out = cond (refused (length chunk) out) out (put 0 (chunk_text line chunk) out)

-- the report on the end of the input: one line at most
unfoldable pub last_report : Line → List ℕ → Result Told Refusal
last_report line out = cond (refused 1 out) no_room (wrote fresh (last_text line))

-- the output afterwards
unfoldable pub last_output : Line → List ℕ → List ℕ
last_output line out = cond (refused 1 out) out (put 0 (last_text line) out)
