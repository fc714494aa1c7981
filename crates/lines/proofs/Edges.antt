-- What the definitions say at their edges. Assumes nothing.
use mathlib.Core.Bool.{Bool, true, false, cond}
use mathlib.Core.List.{List, [], ◌∷◌, ◌++◌, map, append-nil, append_assoc}
use mathlib.Core.Path.{◌≡◌, refl, ◌∙◌}
use Prim.Native.Nat.{ℕ, ◌<◌}
use native.Mathlib.Omega.{arith}
use lib.Dec.{eqb}
use lib.ListN.{replicate}
use Rattle.sizes.specs.Sizes.{size_answer, mac_steps, total_steps}
use Rattle.lines.specs.Hexadecimal.{is_hex, all_hex}
use Rattle.lines.specs.Input.{NEWLINE, front, last, lines_from, lines}
use Rattle.lines.specs.Reading.{MOST}
use Rattle.lines.specs.Judgement.{max_line_len, sized, judgement, judged}
use Rattle.lines.specs.Text.{digits, decimal, numeral, numbers, text_of, printed}
use Rattle.lines.specs.declared.Judged.{Judged}

-- ---- lines

-- an empty input has no line
pub lines_none : lines [] ≡ []
unfolding lines lines_from last
lines_none = refl

-- where no newline stands in l, l goes to the line begun
lines_from-ended : (a l rest : List ℕ) → front l ≡ l → lines_from a (l ++ (NEWLINE ∷ rest)) ≡ (a ++ l) ∷ lines_from [] rest
unfolding lines_from front
lines_from-ended a [] rest h = rw append-nil
lines_from-ended a (b ∷ l) rest h = by (eqb b NEWLINE) h (lines_from-ended (a ++ (b ∷ [])) l rest)
  where
    by : (t : Bool) → cond t [] (b ∷ front l) ≡ b ∷ l
        → (front l ≡ l → lines_from (a ++ (b ∷ [])) (l ++ (NEWLINE ∷ rest)) ≡ ((a ++ (b ∷ [])) ++ l) ∷ lines_from [] rest)
        → cond t (a ∷ lines_from [] (l ++ (NEWLINE ∷ rest))) (lines_from (a ++ (b ∷ [])) (l ++ (NEWLINE ∷ rest)))
        ≡ (a ++ (b ∷ l)) ∷ lines_from [] rest
    by true e ih = cc
    by false e ih = ih (cc) ∙ rw append_assoc

-- and at the end of the input it is the last line
lines_from-last : (a l : List ℕ) → front l ≡ l → lines_from a l ≡ last (a ++ l)
unfolding lines_from front
lines_from-last a [] h = rw append-nil
lines_from-last a (b ∷ l) h = by (eqb b NEWLINE) h (lines_from-last (a ++ (b ∷ [])) l)
  where
    by : (t : Bool) → cond t [] (b ∷ front l) ≡ b ∷ l
        → (front l ≡ l → lines_from (a ++ (b ∷ [])) l ≡ last ((a ++ (b ∷ [])) ++ l))
        → cond t (a ∷ lines_from [] l) (lines_from (a ++ (b ∷ [])) l) ≡ last (a ++ (b ∷ l))
    by true e ih = cc
    by false e ih = ih (cc) ∙ rw append_assoc

-- what has no newline in it is a line where one follows
pub lines-ended : (l rest : List ℕ) → front l ≡ l → lines (l ++ (NEWLINE ∷ rest)) ≡ l ∷ lines rest
unfolding lines
lines-ended l rest h = lines_from-ended [] l rest h

-- and at the end of the input, if it is not empty
pub lines-last : (l : List ℕ) → front l ≡ l → lines l ≡ last l
unfolding lines
lines-last l h = lines_from-last [] l h

-- ---- judgements

-- the limit is below the largest count, so the law of chunks holds at it
pub limit_counted : max_line_len < MOST
limit_counted = omega arith

-- two digits to a byte, and the three numbers of a line
abbrev pub shown : ℕ → ℕ → ℕ → Judged
shown r answer total = Judged.Sized r answer total

-- `long` goes before `bad`; a record is judged by its size alone
pub figures :
    (judgement max_line_len 33001 true ≡ Judged.Long) × (judgement max_line_len 33001 false ≡ Judged.Long)
    × (judgement max_line_len 33000 false ≡ Judged.Bad) × (judgement max_line_len 32999 true ≡ Judged.Bad)
    × (judgement max_line_len 33000 true ≡ shown 16500 4 0) × (judgement max_line_len 0 true ≡ shown 0 3 0)
    × (judgement max_line_len 126 true ≡ shown 63 3 0) × (judgement max_line_len 128 true ≡ shown 64 0 8)
    × (judgement max_line_len 32896 true ≡ shown 16448 0 1288) × (judgement max_line_len 32898 true ≡ shown 16449 4 0)
    × (judgement max_line_len 32928 true ≡ shown 16464 5 0)
unfolding judgement sized size_answer mac_steps total_steps
figures = (refl, refl, refl, refl, refl, refl, refl, refl, refl, refl, refl)

-- ---- bytes

-- numbers of one digit and of more
pub decimals :
    (decimal 0 ≡ 0x30 ∷ []) × (decimal 9 ≡ 0x39 ∷ []) × (decimal 10 ≡ 0x31 ∷ 0x30 ∷ [])
    × (decimal 16448 ≡ 0x31 ∷ 0x36 ∷ 0x34 ∷ 0x34 ∷ 0x38 ∷ [])
unfolding decimal digits
decimals = (refl, refl, refl, refl)

-- a text of each kind
pub texts :
    (text_of Judged.Long ≡ 0x6c ∷ 0x6f ∷ 0x6e ∷ 0x67 ∷ 0x0a ∷ [])
    × (text_of Judged.Bad ≡ 0x62 ∷ 0x61 ∷ 0x64 ∷ 0x0a ∷ [])
    × (text_of (shown 63 3 0) ≡ 0x36 ∷ 0x33 ∷ 0x20 ∷ 0x33 ∷ 0x20 ∷ 0x30 ∷ 0x0a ∷ [])
unfolding text_of numbers numeral decimal digits
texts = (refl, refl, refl)

-- the scope's example: 0101, 128 zeros, 130 zeros, an empty line
abbrev pub zeros : ℕ → List ℕ
zeros n = replicate n 0x30 ++ (NEWLINE ∷ [])

abbrev pub example_input : List ℕ
example_input = (0x30 ∷ 0x31 ∷ 0x30 ∷ 0x31 ∷ NEWLINE ∷ []) ++ (zeros 128 ++ (zeros 130 ++ (NEWLINE ∷ [])))

-- its judgements
pub example : map (judged max_line_len) (lines example_input) ≡ shown 2 3 0 ∷ shown 64 0 8 ∷ shown 65 4 0 ∷ shown 0 3 0 ∷ []
unfolding lines lines_from last judged all_hex is_hex judgement sized size_answer mac_steps total_steps
example = refl

-- and its whole output, line by line: 2 3 0, 64 0 8, 65 4 0, 0 3 0
pub example_output :
    printed (map (judged max_line_len) (lines example_input))
    ≡ 0x32 ∷ 0x20 ∷ 0x33 ∷ 0x20 ∷ 0x30 ∷ 0x0a
    ∷ 0x36 ∷ 0x34 ∷ 0x20 ∷ 0x30 ∷ 0x20 ∷ 0x38 ∷ 0x0a
    ∷ 0x36 ∷ 0x35 ∷ 0x20 ∷ 0x34 ∷ 0x20 ∷ 0x30 ∷ 0x0a
    ∷ 0x30 ∷ 0x20 ∷ 0x33 ∷ 0x20 ∷ 0x30 ∷ 0x0a ∷ []
unfolding printed text_of numbers numeral decimal digits
example_output = rw example
