-- GB/T 32907-2016 (SM4), sections 6 and 7, in the standard's names: round function, encryption, decryption and key
-- expansion. A word is a number below 2^32, a block and a key are 16 bytes, the highest first. The S-box is that of crate
-- sm4_sbox. Assumes nothing.
use Rattle.std.specs.Prelude.{List, [], ◌∷◌, ◌++◌, map, reverse, ℕ, zero, suc, ◌+◌, ◌*◌, ◌%◌, get_or}
use Rattle.words.specs.Bytes.{be, number}
use Rattle.words.specs.Lists.{table, block}
use Rattle.words.specs.Word.{◌⊕◌, ◌⋘◌}
use Rattle.sm4_sbox.specs.Standard.{Sbox}
use Rattle.sm4.specs.declared.Quad.{Quad}
use Rattle.sm4.specs.declared.Sm4Cipher.{Sm4Cipher}

-- 6.2 the composite permutation T: τ, the S-box at each of the four bytes, and then L
unfoldable pub tau : ℕ → ℕ
tau A = number (map Sbox (be 4 A))

unfoldable pub L : ℕ → ℕ
L B = B ⊕ (B ⋘ 2) ⊕ (B ⋘ 10) ⊕ (B ⋘ 18) ⊕ (B ⋘ 24)

unfoldable pub T : ℕ → ℕ
T X = L (tau X)

-- 6.1 the round function F
unfoldable pub F : ℕ → ℕ → ℕ → ℕ → ℕ → ℕ
F X0 X1 X2 X3 rk = X0 ⊕ T (X1 ⊕ X2 ⊕ X3 ⊕ rk)

-- four words in a row of a sequence, and the next four where the one behind them is x
abbrev pub moved : Quad → ℕ → Quad
moved q x = record { x0 = q.x1; x1 = q.x2; x2 = q.x3; x3 = x }

-- the four words of 16 bytes, and the bytes of four words
abbrev pub word : List ℕ → ℕ → ℕ
word B i = number (block 4 i B)

unfoldable pub words_of : List ℕ → Quad
words_of B = record { x0 = word B 0; x1 = word B 1; x2 = word B 2; x3 = word B 3 }

unfoldable pub bytes_of : Quad → List ℕ
bytes_of q = be 4 q.x0 ++ (be 4 q.x1 ++ (be 4 q.x2 ++ be 4 q.x3))

-- 7.1 encryption. a) a round for each round key: X(i + 4) = F(X(i), X(i + 1), X(i + 2), X(i + 3), rk(i))
unfoldable pub round : Quad → ℕ → Quad
round X rk = moved X (F X.x0 X.x1 X.x2 X.x3 rk)

unfoldable pub rounds : Quad → List ℕ → Quad
rounds X [] = X
rounds X (rk ∷ rks) = rounds (round X rk) rks

-- b) the reverse transform R: the last four words, the last one first
abbrev pub R : Quad → Quad
R X = record { x0 = X.x3; x1 = X.x2; x2 = X.x1; x3 = X.x0 }

unfoldable pub encrypt : List ℕ → List ℕ → List ℕ
encrypt rks B = bytes_of (R (rounds (words_of B) rks))

-- 7.2 decryption: the same with the round keys in reverse
unfoldable pub decrypt : List ℕ → List ℕ → List ℕ
decrypt rks B = encrypt (reverse rks) B

-- 7.3 key expansion. T' is T with L' in place of L
unfoldable pub L' : ℕ → ℕ
L' B = B ⊕ (B ⋘ 13) ⊕ (B ⋘ 23)

unfoldable pub T' : ℕ → ℕ
T' X = L' (tau X)

-- the system parameter FK
abbrev pub FK : List ℕ
FK = 0xa3b1bac6 ∷ 0x56aa3350 ∷ 0x677d9197 ∷ 0xb27022dc ∷ []

-- the fixed parameter CK: byte j of CK(i) is (4 i + j) * 7 modulo 256
unfoldable pub ck : ℕ → ℕ → ℕ
ck i j = (4 * i + j) * 7 % 256

unfoldable pub CK : ℕ → ℕ
CK i = number (table (ck i) 4)

-- K(0) to K(3), from the key MK
unfoldable pub key_start : List ℕ → Quad
key_start MK =
    record {
      x0 = word MK 0 ⊕ get_or FK 0 0;
      x1 = word MK 1 ⊕ get_or FK 1 0;
      x2 = word MK 2 ⊕ get_or FK 2 0;
      x3 = word MK 3 ⊕ get_or FK 3 0;
    }

-- K(i + 4) = K(i) ⊕ T'(K(i + 1) ⊕ K(i + 2) ⊕ K(i + 3) ⊕ CK(i))
unfoldable pub key_round : Quad → ℕ → Quad
key_round K c = moved K (K.x0 ⊕ T' (K.x1 ⊕ K.x2 ⊕ K.x3 ⊕ c))

-- n round keys from the i-th on, where K is K(i) to K(i + 3): rk(i) = K(i + 4)
unfoldable pub keys_from : Quad → ℕ → ℕ → List ℕ
keys_from K i zero = []
keys_from K i (suc n) = (key_round K (CK i)).x3 ∷ keys_from (key_round K (CK i)) (suc i) n

unfoldable pub round_keys_of : List ℕ → List ℕ
round_keys_of MK = keys_from (key_start MK) 0 32

-- a cipher that holds them
unfoldable pub cipher_of : List ℕ → Sm4Cipher
cipher_of MK = record { round_keys = round_keys_of MK }
