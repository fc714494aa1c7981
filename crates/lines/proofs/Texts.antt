-- The text of a judgement: by its kind, and never longer than its room. Assumes nothing.
use mathlib.Core.Bool.{Bool, true, false, cond}
use mathlib.Core.List.{List, [], ◌∷◌, ◌++◌, map, append-nil, append_assoc}
use mathlib.Core.Path.{◌≡◌, refl, sym, ap, ◌∙◌}
use Prim.Native.Nat.{ℕ, suc, ◌+◌, ◌-◌, ◌*◌, ◌/◌, ◌%◌, ◌^◌, ◌≤◌, ◌<◌}
use native.Mathlib.Omega.{arith}
use borrow.Author.Tests.{ltb-false}
use lib.Dec.{eqb, ltb}
use lib.ListN.{length, length-append}
use Rattle.answers.specs.Answers.{Done, Short, Ragged, TooBig}
use Rattle.record.specs.Limits.{iv_len}
use Rattle.sizes.specs.Sizes.{min_record, max_body, size_answer, mac_steps, total_steps}
use Rattle.lines.specs.Input.{NEWLINE}
use Rattle.lines.specs.Judgement.{max_line_len, Sized, Long, kind_of, record_len_of, answer_of, total_of}
use Rattle.lines.specs.Judgement.{sized, judgement, judged_line}
use Rattle.lines.specs.Reading.{fresh, taken, finished, at_end, is_begun}
use Rattle.lines.specs.Telling.{most_text, chunk_text, last_text}
use Rattle.lines.specs.Text.{decimal, long, bad, numeral, numbers, text_of, printed}
use Rattle.lines.specs.declared.Judged.{Judged}
use Rattle.lines.specs.declared.Line.{Line}
use Rattle.lines.proofs.Decimal.{decimal-short}

-- ---- by the kind

-- the text of a judgement by its number and its values
pub text_of-values : (j : Judged) → text_of j
    ≡ cond (eqb (kind_of j) Sized) (numbers (record_len_of j) (answer_of j) (total_of j)) (cond (eqb (kind_of j) Long) long bad)
unfolding text_of
text_of-values (Judged.Sized r answer total) = refl
text_of-values Judged.Long = refl
text_of-values Judged.Bad = refl

-- ---- lengths

-- the byte behind a number is one more
pub length-numeral : (n mark : ℕ) → length (numeral n mark) ≡ length (decimal n) + 1
unfolding numeral
length-numeral n mark = length-append (decimal n) (mark ∷ [])

-- the three numbers, each with the byte behind it
pub length-numbers : (a b c : ℕ)
    → length (numbers a b c) ≡ length (decimal a) + 1 + (length (decimal b) + 1 + (length (decimal c) + 1))
unfolding numbers
length-numbers a b c = simp (length-append, length-numeral)

-- 20, 3 and 20 digits
pub numbers-short : (a b c : ℕ) → a < 10 ^ 20 → b < 10 ^ 3 → c < 10 ^ 20 → length (numbers a b c) ≤ most_text
numbers-short a b c h i j =
    omega (arith, length-numbers a b c, decimal-short 19 a h, decimal-short 2 b i, decimal-short 19 c j)

-- a text has room, whatever its kind
pub text-short : (j : Judged) → record_len_of j < 10 ^ 20 → answer_of j < 10 ^ 3 → total_of j < 10 ^ 20
    → length (text_of j) ≤ most_text
unfolding text_of
text-short (Judged.Sized r answer total) a b c = numbers-short r answer total a b c
text-short Judged.Long a b c = omega arith
text-short Judged.Bad a b c = omega arith

-- an answer is one digit
answer_small : (r : ℕ) → size_answer r < 10 ^ 3
unfolding size_answer
answer_small r = by (ltb r min_record) (eqb ((r - iv_len) % 16) 0) (ltb max_body (r - iv_len))
  where
    by : (s t u : Bool) → cond s Short (cond t (cond u TooBig Done) Ragged) < 10 ^ 3
    by true t u = omega arith
    by false true true = omega arith
    by false true false = omega arith
    by false false u = omega arith

-- a record that comes from a line is short enough to have few steps
sized-short : (r : ℕ) → r ≤ max_line_len → length (text_of (sized r)) ≤ most_text
unfolding sized total_steps mac_steps
sized-short r h = text-short (sized r) (omega arith) (answer_small r) (by (eqb (size_answer r) Done))
  where
    by : (t : Bool) → cond t (total_steps (r - iv_len)) 0 < 10 ^ 20
    by true = omega arith
    by false = omega arith

-- the text of a line has room
pub line_short : (line : Line) → length (text_of (judged_line max_line_len line)) ≤ most_text
unfolding judgement text_of
line_short line = by (ltb max_line_len line.count) refl (eqb (line.count % 2) 0) line.hex
  where
    by : (s : Bool) → ltb max_line_len line.count ≡ s → (t u : Bool)
        → length (text_of (cond s Judged.Long (cond t (cond u (sized (line.count / 2)) Judged.Bad) Judged.Bad)))
        ≤ most_text
    by true e t u = omega arith
    by false e true true = sized-short (line.count / 2) (omega (arith, ltb-false max_line_len line.count e))
    by false e true false = omega arith
    by false e false u = omega arith

-- each byte of a chunk ends one line at most
pub chunk_short : (line : Line) (chunk : List ℕ) → length (chunk_text line chunk) ≤ most_text * length chunk
unfolding finished printed
chunk_short line [] = omega arith
chunk_short line (b ∷ l) = by (eqb b NEWLINE) (chunk_short fresh l) (chunk_short (taken line (b ∷ [])) l)
  where
    by : (t : Bool) → length (chunk_text fresh l) ≤ most_text * length l
        → length (chunk_text (taken line (b ∷ [])) l) ≤ most_text * length l
        → length (printed (map (judged_line max_line_len) (cond t (line ∷ finished fresh l) (finished (taken line (b ∷ [])) l))))
        ≤ most_text * suc (length l)
    by true h k =
        omega (arith, length-append (text_of (judged_line max_line_len line)) (chunk_text fresh l), line_short line)
    by false h k = omega arith

-- at the end there is one line or none
pub last-text : (line : Line) → last_text line ≡ cond (is_begun line) (text_of (judged_line max_line_len line)) []
unfolding at_end printed
last-text line = by (is_begun line)
  where
    by : (t : Bool) → printed (map (judged_line max_line_len) (cond t (line ∷ []) []))
        ≡ cond t (text_of (judged_line max_line_len line)) []
    by true = append-nil (text_of (judged_line max_line_len line))
    by false = refl

-- texts of two lists of judgements
pub printed-append : (a b : List Judged) → printed (a ++ b) ≡ printed a ++ printed b
unfolding printed
printed-append [] b = refl
printed-append (j ∷ a) b =
    ap (λ (l : List ℕ). text_of j ++ l) (printed-append a b) ∙ sym (append_assoc (text_of j) (printed a) (printed b))
