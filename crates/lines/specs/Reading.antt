-- Reading an input in parts, with a count and a mark for the line begun. Assumes nothing.
use Rattle.std.specs.Prelude.{Bool, true, cond, ◌&&◌, List, [], ◌∷◌, ◌++◌, map, ℕ, ◌+◌, min, eqb, ltb, length}
use Rattle.lines.specs.Hexadecimal.{all_hex}
use Rattle.lines.specs.Input.{NEWLINE, front}
use Rattle.lines.specs.Judgement.{judged_line}
use Rattle.lines.specs.declared.Judged.{Judged}
use Rattle.lines.specs.declared.Line.{Line}
use Rattle.lines.specs.declared.Step.{Step}

-- the largest usize, where a count stops
abbrev pub MOST : ℕ
MOST = 18446744073709551615

-- of no characters
unfoldable pub fresh : Line
fresh = record { count = 0; hex = true }

-- with the characters of a part behind it
unfoldable pub taken : Line → List ℕ → Line
taken line part = record { count = min (line.count + length part) MOST; hex = line.hex && all_hex part }

-- one step takes what stands before the first newline, and passes over the newline
unfoldable pub advanced : Line → List ℕ → Step
advanced line input =
    let end = length (front input) in
    let longer = taken line (front input) in
    cond (ltb end (length input)) (Step.Ended longer (end + 1)) (Step.Begun longer)

-- the lines that end in a part of the input, the first one begun before it
unfoldable pub finished : Line → List ℕ → List Line
finished line [] = []
finished line (b ∷ l) = cond (eqb b NEWLINE) (line ∷ finished fresh l) (finished (taken line (b ∷ [])) l)

-- the line that a part of the input leaves begun
unfoldable pub begun : Line → List ℕ → Line
begun line [] = line
begun line (b ∷ l) = cond (eqb b NEWLINE) (begun fresh l) (begun (taken line (b ∷ [])) l)

-- of one character or more
abbrev pub is_begun : Line → Bool
is_begun line = ltb 0 line.count

-- at the end of the input, the line begun counts if it is not empty
unfoldable pub at_end : Line → List Line
at_end line = cond (is_begun line) (line ∷ []) []

-- what is said of the lines that end in a part of the input, the first one begun before it
abbrev pub told : ℕ → Line → List ℕ → List Judged
told limit line part = map (judged_line limit) (finished line part)

-- and at the end of the input
abbrev pub told_last : ℕ → Line → List Judged
told_last limit line = map (judged_line limit) (at_end line)

-- what is said of the lines of an input that comes in chunks, and of its end
unfoldable pub told_all : ℕ → Line → List (List ℕ) → List Judged
told_all limit line [] = told_last limit line
told_all limit line (chunk ∷ chunks) = told limit line chunk ++ told_all limit (begun line chunk) chunks
