-- What the functions that write texts promise: the result, and the output afterwards. Assumes nothing.
use Rattle.std.specs.Prelude.{List, ◌≡◌, ℕ, Result, length}
use Rattle.answers.specs.declared.Refusal.{Refusal}
use Rattle.words.specs.Lists.{put}
use Rattle.lines.specs.Telling.{chunk_report, chunk_output, last_report, last_output}
use Rattle.lines.specs.Text.{text_of}
use Rattle.lines.specs.declared.Judged.{Judged}
use Rattle.lines.specs.declared.Line.{Line}
use Rattle.lines.specs.declared.Told.{Told}

pub record JudgedPut (judged : Judged) (out : List ℕ) (at n : ℕ) (out' : List ℕ) : Type 0 where
  pub result : n ≡ length (text_of judged)
  pub output : out' ≡ put at (text_of judged) out

pub record ChunkTold (line : Line) (chunk out : List ℕ) (report : Result Told Refusal) (out' : List ℕ) : Type 0 where
  pub result : report ≡ chunk_report line chunk out
  pub output : out' ≡ chunk_output line chunk out

pub record LastTold (line : Line) (out : List ℕ) (report : Result Told Refusal) (out' : List ℕ) : Type 0 where
  pub result : report ≡ last_report line out
  pub output : out' ≡ last_output line out
