-- GB/T 32905-2016, annex A: the two messages and their hash values. The expanded words of A.1 are those of a separate
-- computation; they were not held beside the printed annex. Assumes nothing.
use Rattle.std.specs.Prelude.{List, [], ◌∷◌, ◌≡◌, ℕ, take, drop}
use Rattle.words.specs.Lists.{join}
use Rattle.sm3_compress.specs.Standard.{W}
use Rattle.sm3.specs.Standard.{padded, SM3}

-- A.1: the text abc
abbrev pub abc : List ℕ
abc = 0x61 ∷ 0x62 ∷ 0x63 ∷ []

-- A.2: the text abcd sixteen times
abbrev pub abcd : List ℕ
abcd = 0x61 ∷ 0x62 ∷ 0x63 ∷ 0x64 ∷ []

abbrev pub abcd16 : List ℕ
abcd16 = join 16 (λ _. abcd)

pub record AnnexA : Type 0 where
  -- A.1, of the table of expanded words: W_0, the row from W_16 on and the last row
  pub W-first : take 2 (W (padded abc)) ≡ 0x61626380 ∷ 0x00000000 ∷ []
  pub w_16 : take 8 (drop 16 (W (padded abc)))
      ≡ 0x9092e200 ∷ 0x00000000 ∷ 0x000c0606 ∷ 0x719c70ed ∷ 0x00000000 ∷ 0x8001801f ∷ 0x939f7da9 ∷ 0x00000000 ∷ []
  pub w_64 : drop 64 (W (padded abc)) ≡ 0x325c8f78 ∷ 0xaccb8011 ∷ 0xe11db9dd ∷ 0xb99c0545 ∷ []
  -- A.1, the hash value, 66c7f0f4 62eeedd9 d1f2d46b dc10e4e2 4167c487 5cf2f7a2 297da02b 8f4ba8e0
  pub A1 : SM3 abc
      ≡ 0x66 ∷ 0xc7 ∷ 0xf0 ∷ 0xf4 ∷ 0x62 ∷ 0xee ∷ 0xed ∷ 0xd9
      ∷ 0xd1 ∷ 0xf2 ∷ 0xd4 ∷ 0x6b ∷ 0xdc ∷ 0x10 ∷ 0xe4 ∷ 0xe2
      ∷ 0x41 ∷ 0x67 ∷ 0xc4 ∷ 0x87 ∷ 0x5c ∷ 0xf2 ∷ 0xf7 ∷ 0xa2
      ∷ 0x29 ∷ 0x7d ∷ 0xa0 ∷ 0x2b ∷ 0x8f ∷ 0x4b ∷ 0xa8 ∷ 0xe0 ∷ []
  -- A.2, the hash value, debe9ff9 2275b8a1 38604889 c18e5a4d 6fdb70e5 387e5765 293dcba3 9c0c5732
  pub A2 : SM3 abcd16
      ≡ 0xde ∷ 0xbe ∷ 0x9f ∷ 0xf9 ∷ 0x22 ∷ 0x75 ∷ 0xb8 ∷ 0xa1
      ∷ 0x38 ∷ 0x60 ∷ 0x48 ∷ 0x89 ∷ 0xc1 ∷ 0x8e ∷ 0x5a ∷ 0x4d
      ∷ 0x6f ∷ 0xdb ∷ 0x70 ∷ 0xe5 ∷ 0x38 ∷ 0x7e ∷ 0x57 ∷ 0x65
      ∷ 0x29 ∷ 0x3d ∷ 0xcb ∷ 0xa3 ∷ 0x9c ∷ 0x0c ∷ 0x57 ∷ 0x32 ∷ []
