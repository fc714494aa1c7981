-- GB/T 32905-2016 (SM3), sections 4.2 to 4.4, 5.3.2 and 5.3.3: constants, Boolean functions, permutations, message
-- expansion and the compression function CF, in the standard's names. A word is a number below 2^32. Assumes nothing.
use Rattle.std.specs.Prelude.{cond, List, [], ◌∷◌, ℕ, zero, suc, ◌+◌, ◌-◌, ◌%◌, ◌^◌, ltb, length, get_or}
use Rattle.std.specs.Int.Bits.{bit_and, bit_or}
use Rattle.words.specs.Bytes.{number}
use Rattle.words.specs.Lists.{table, grow, block, xor_each}
use Rattle.words.specs.Word.{◌⊕◌, ◌⋘◌, not32}

abbrev pub at : List ℕ → ℕ → ℕ
at l i = get_or l i 0

-- 4.2 the constants T_j
unfoldable pub T : ℕ → ℕ
T j = cond (ltb j 16) 0x79cc4519 0x7a879d8a

-- 4.3 the Boolean functions FF_j and GG_j
unfoldable pub FF : ℕ → ℕ → ℕ → ℕ → ℕ
FF j X Y Z = cond (ltb j 16) (X ⊕ Y ⊕ Z) (bit_or (bit_or (bit_and X Y) (bit_and X Z)) (bit_and Y Z))

unfoldable pub GG : ℕ → ℕ → ℕ → ℕ → ℕ
GG j X Y Z = cond (ltb j 16) (X ⊕ Y ⊕ Z) (bit_or (bit_and X Y) (bit_and (not32 X) Z))

-- 4.4 the permutations
unfoldable pub P0 : ℕ → ℕ
P0 X = X ⊕ (X ⋘ 9) ⊕ (X ⋘ 17)

unfoldable pub P1 : ℕ → ℕ
P1 X = X ⊕ (X ⋘ 15) ⊕ (X ⋘ 23)

-- 5.3.2 message expansion. a) the block's 16 words, each of 4 bytes, the highest first
unfoldable pub word : List ℕ → ℕ → ℕ
word B i = number (block 4 i B)

unfoldable pub words : List ℕ → List ℕ
words B = table (word B) 16

-- b) the words 16 to 67, W_j of those before it
unfoldable pub recurrence : List ℕ → ℕ → ℕ
recurrence w j = P1 (at w (j - 16) ⊕ at w (j - 9) ⊕ (at w (j - 3) ⋘ 15)) ⊕ (at w (j - 13) ⋘ 7) ⊕ at w (j - 6)

unfoldable pub next_w : List ℕ → ℕ
next_w w = recurrence w (length w)

unfoldable pub W : List ℕ → List ℕ
W B = grow next_w 52 (words B)

-- c) the words W'_0 to W'_63
unfoldable pub prime_at : List ℕ → ℕ → ℕ
prime_at w j = at w j ⊕ at w (j + 4)

unfoldable pub W' : List ℕ → List ℕ
W' w = table (prime_at w) 64

-- 5.3.3 the compression function. Each sum is one sum modulo 2^32
unfoldable pub SS1 : ℕ → ℕ → ℕ → ℕ
SS1 j A E = ((A ⋘ 12) + E + (T j ⋘ (j % 32))) % 2 ^ 32 ⋘ 7

unfoldable pub SS2 : ℕ → ℕ → ℕ → ℕ
SS2 j A E = SS1 j A E ⊕ (A ⋘ 12)

unfoldable pub TT1 : ℕ → ℕ → ℕ → ℕ → ℕ → ℕ → ℕ → ℕ
TT1 j A B C D E w' = (FF j A B C + D + SS2 j A E + w') % 2 ^ 32

unfoldable pub TT2 : ℕ → ℕ → ℕ → ℕ → ℕ → ℕ → ℕ → ℕ
TT2 j A E F G H w = (GG j E F G + H + SS1 j A E + w) % 2 ^ 32

-- the words A to H after round j, with W_j and W'_j
unfoldable pub ABCDEFGH : ℕ → ℕ → ℕ → ℕ → ℕ → ℕ → ℕ → ℕ → ℕ → ℕ → ℕ → List ℕ
ABCDEFGH j w w' A B C D E F G H =
    TT1 j A B C D E w' ∷ A ∷ (B ⋘ 9) ∷ C ∷ P0 (TT2 j A E F G H w) ∷ E ∷ (F ⋘ 19) ∷ G ∷ []

unfoldable pub round : ℕ → List ℕ → ℕ → ℕ → List ℕ
round j v w w' = ABCDEFGH j w w' (at v 0) (at v 1) (at v 2) (at v 3) (at v 4) (at v 5) (at v 6) (at v 7)

-- the first n rounds
unfoldable pub rounds : List ℕ → List ℕ → ℕ → List ℕ → List ℕ
rounds w w' zero v = v
rounds w w' (suc j) v = round j (rounds w w' j v) (at w j) (at w' j)

unfoldable pub CF : List ℕ → List ℕ → List ℕ
CF v B = xor_each (rounds (W B) (W' (W B)) 64 v) v
