-- The text that is printed of a judgement, byte by byte. Assumes nothing.
use Rattle.std.specs.Prelude.{cond, List, [], ◌∷◌, ◌++◌, ◌≡◌, ℕ, zero, suc, ◌+◌, ◌/◌, ◌%◌, ltb, length}
use Rattle.words.specs.Lists.{put}
use Rattle.lines.specs.Input.{NEWLINE}
use Rattle.lines.specs.declared.Judged.{Judged}

abbrev pub SPACE : ℕ
SPACE = 32

-- the character of a number below 10: 0 is 0x30
abbrev pub digit : ℕ → ℕ
digit n = 0x30 + n

-- the last k digits of n, the highest first, without zeros in front
unfoldable pub digits : ℕ → ℕ → List ℕ
digits zero n = []
digits (suc k) n = cond (ltb n 10) [] (digits k (n / 10)) ++ (digit (n % 10) ∷ [])

-- all digits of n, which are no more than n + 1
unfoldable pub decimal : ℕ → List ℕ
decimal n = digits (suc n) n

-- `long` and a newline
abbrev pub long : List ℕ
long = 0x6c ∷ 0x6f ∷ 0x6e ∷ 0x67 ∷ NEWLINE ∷ []

-- `bad` and a newline
abbrev pub bad : List ℕ
bad = 0x62 ∷ 0x61 ∷ 0x64 ∷ NEWLINE ∷ []

-- a number and the byte behind it
unfoldable pub numeral : ℕ → ℕ → List ℕ
numeral n mark = decimal n ++ (mark ∷ [])

-- three numbers with a space between them, and a newline
unfoldable pub numbers : ℕ → ℕ → ℕ → List ℕ
numbers a b c = numeral a SPACE ++ (numeral b SPACE ++ numeral c NEWLINE)

-- of one judgement: the record's length, its size answer and T, or a word
unfoldable pub text_of : Judged → List ℕ
text_of (Judged.Sized r answer total) = numbers r answer total
text_of Judged.Long = long
text_of Judged.Bad = bad

-- of judgements, one behind the other
unfoldable pub printed : List Judged → List ℕ
printed [] = []
printed (j ∷ js) = text_of j ++ printed js

-- a text laid over out from index at on, and the index behind it
pub record PutAt (text out : List ℕ) (at end : ℕ) (out' : List ℕ) : Type 0 where
  pub behind : end ≡ at + length text
  pub laid : out' ≡ put at text out
