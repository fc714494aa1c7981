-- A run over an input: its chunks told of one behind the other, and then its end, each with room. Assumes nothing.
use Rattle.std.specs.Prelude.{List, [], ◌∷◌, ◌++◌, ℕ, ◌*◌, ◌≤◌, Result, length, take}
use Rattle.answers.specs.declared.Refusal.{Refusal}
use Rattle.lines.specs.Promise.{ChunkTold, LastTold}
use Rattle.lines.specs.Telling.{most_text, line_after, written}
use Rattle.lines.specs.declared.Line.{Line}
use Rattle.lines.specs.declared.Told.{Told}

-- from a line begun, over chunks, to the bytes that are written: of each output as many as are reported
pub data Run : Line → List (List ℕ) → List ℕ → Type 0 where
  end : {line : Line} {out out' : List ℕ} {report : Result Told Refusal} → most_text ≤ length out
      → LastTold line out report out' → Run line [] (take (written report) out')
  more : {line : Line} {chunk out out' : List ℕ} {report : Result Told Refusal} {chunks : List (List ℕ)} {bytes : List ℕ}
      → most_text * length chunk ≤ length out → ChunkTold line chunk out report out'
      → Run (line_after line report) chunks bytes → Run line (chunk ∷ chunks) (take (written report) out' ++ bytes)
