-- Decryption undoes encryption and encryption undoes decryption, for all round keys and every block: a round is undone by
-- itself where the words stand in reverse. Assumes nothing.
use mathlib.Core.List.{List, [], ◌∷◌, ◌++◌, map, reverse, reverse-cons, reverse-reverse}
use mathlib.Core.Path.{◌≡◌, refl, sym, ap, ◌∙◌}
use Prim.Native.Nat.{ℕ, zero, suc, ◌*◌, ◌^◌, ◌<◌}
use native.Mathlib.Nat.{mod-eq_of_lt}
use native.Mathlib.Omega.{arith}
use lib.Dec.{lit<}
use lib.ListN.{length, drop}
use Rattle.words.specs.Bytes.{be, number, Bytes}
use Rattle.words.specs.Lists.{table, block}
use Rattle.words.specs.Word.{◌⊕◌}
use Rattle.words.proofs.Bytes.{bytes-append, bytes-be, bytes_take, bytes_drop, number_lt, number-be, be-number}
use Rattle.words.proofs.Lists.{as_table, length-block}
use Rattle.words.proofs.Word.{rotl-lt}
use Rattle.words.proofs.Xor.{⊕-assoc, ⊕-comm, ⊕_cancel, ⊕-lt}
use Rattle.sm4_sbox.specs.Standard.{Sbox}
use Rattle.sm4_sbox.proofs.Once.{Sbox-byte}
use Rattle.sm4.specs.Block.{Block}
use Rattle.sm4.specs.declared.Quad.{Quad}
use Rattle.sm4.specs.Standard.{tau, L, T, F, word, words_of, bytes_of, round, rounds, R, encrypt, decrypt, cipher_of}

-- ---- the rounds

-- three numbers from the other end
⊕-reverse : (a b c : ℕ) → a ⊕ b ⊕ c ≡ c ⊕ b ⊕ a
⊕-reverse a b c = rw (⊕-comm (a ⊕ b) c, ⊕-comm a b) (sym (⊕-assoc c b a))

-- a round, the words in reverse, and the same round: the words before it, in reverse
round_undone : (X : Quad) (rk : ℕ) → round (R (round X rk)) rk ≡ R X
unfolding round F
round_undone X rk =
    rw (⊕-reverse X.x3 X.x2 X.x1, ⊕_cancel X.x0 (T (X.x1 ⊕ X.x2 ⊕ X.x3 ⊕ rk)))

-- round keys behind round keys
rounds-append : (X : Quad) (ks ls : List ℕ) → rounds X (ks ++ ls) ≡ rounds (rounds X ks) ls
unfolding rounds
rounds-append X [] ls = refl
rounds-append X (k ∷ ks) ls = rounds-append (round X k) ks ls

-- all rounds, and the same ones from the last key to the first
rounds_undone : (X : Quad) (rks : List ℕ) → rounds (R (rounds X rks)) (reverse rks) ≡ R X
unfolding rounds
rounds_undone X [] = refl
rounds_undone X (k ∷ ks) =
    let last = R (rounds (round X k) ks) in
    ap (rounds last) (reverse-cons k ks)
    ∙ rounds-append last (reverse ks) (k ∷ [])
    ∙ ap (λ (q : Quad). round q k) (rounds_undone (round X k) ks)
    ∙ round_undone X k

-- ---- words stay words

-- the S-box gives bytes
bytes-Sbox : (l : List ℕ) → Bytes (map Sbox l)
bytes-Sbox [] i = lit< tt
bytes-Sbox (x ∷ l) zero = Sbox-byte x
bytes-Sbox (x ∷ l) (suc i) = bytes-Sbox l i

-- T gives a word
T_lt : (X : ℕ) → T X < 2 ^ 32
unfolding T L tau be
T_lt X =
    let B = tau X in
    let h : B < 2 ^ 32 = number_lt (map Sbox (be 4 X)) (bytes-Sbox (be 4 X)) in
    let turned : (n : ℕ) → n < 32 → _ = λ n b. rotl-lt B n h b in
    ⊕-lt 32
    (⊕-lt 32 (⊕-lt 32 (⊕-lt 32 h (turned 2 (lit< tt))) (turned 10 (lit< tt))) (turned 18 (lit< tt)))
    (turned 24 (lit< tt))

-- four words
record Words (q : Quad) : Type 0 where
  x0_lt : q.x0 < 2 ^ 32
  x1_lt : q.x1 < 2 ^ 32
  x2_lt : q.x2 < 2 ^ 32
  x3_lt : q.x3 < 2 ^ 32

-- rounds give words
words-rounds : (X : Quad) (rks : List ℕ) → Words X → Words (rounds X rks)
unfolding rounds round F
words-rounds X [] w = w
words-rounds X (k ∷ ks) w =
    words-rounds (round X k) ks
    (record {
      x0_lt = w.x1_lt;
      x1_lt = w.x2_lt;
      x2_lt = w.x3_lt;
      x3_lt = ⊕-lt 32 w.x0_lt (T_lt (X.x1 ⊕ X.x2 ⊕ X.x3 ⊕ k));
    })

-- ---- bytes and words

-- a word is the number of its bytes
number-bytes : (x : ℕ) → x < 2 ^ 32 → number (be 4 x) ≡ x
number-bytes x h = number-be 4 x ∙ mod-eq_of_lt h

-- the words of the bytes of four words, and in reverse
words-bytes : (q : Quad) → Words q → words_of (bytes_of q) ≡ q
unfolding words_of bytes_of be
words-bytes q w =
    rw (
      number-bytes q.x0 w.x0_lt,
      number-bytes q.x1 w.x1_lt,
      number-bytes q.x2 w.x2_lt,
      number-bytes q.x3 w.x3_lt,
    )

-- the bytes of words are a block
block-bytes : (q : Quad) → Block (bytes_of q)
unfolding bytes_of be
block-bytes q =
    let a = be 4 q.x0 in
    let b = be 4 q.x1 in
    let c = be 4 q.x2 in
    let d = be 4 q.x3 in
    let cd : Bytes (c ++ d) = bytes-append c d (bytes-be 4 q.x2) (bytes-be 4 q.x3) in
    let bcd : Bytes (b ++ (c ++ d)) = bytes-append b (c ++ d) (bytes-be 4 q.x1) cd in
    record { size = refl; bytes = bytes-append a (b ++ (c ++ d)) (bytes-be 4 q.x0) bcd }

module _ (B : List ℕ) (h : Block B) where
  -- four bytes of a block
  bytes-four : (i : ℕ) → Bytes (block 4 i B)
  bytes-four i = bytes_take 4 (drop (i * 4) B) (bytes_drop (i * 4) B h.bytes)

  -- there are four of them
  length-four : (i : ℕ) → i < 4 → length (block 4 i B) ≡ 4
  length-four i b = length-block 4 i B (omega (arith, h.size))

  -- they stand for a word
  word_lt : (i : ℕ) → i < 4 → word B i < 2 ^ 32
  word_lt i b = rw (length-four i b) at (number_lt (block 4 i B) (bytes-four i))

  -- of which they are the bytes
  word_bytes : (i : ℕ) → i < 4 → be 4 (word B i) ≡ block 4 i B
  word_bytes i b = rw (length-four i b) at (be-number (block 4 i B) (bytes-four i))

  -- so a block has four words
  words-block : Words (words_of B)
  unfolding words_of
  words-block =
      record {
        x0_lt = word_lt 0 (lit< tt);
        x1_lt = word_lt 1 (lit< tt);
        x2_lt = word_lt 2 (lit< tt);
        x3_lt = word_lt 3 (lit< tt);
      }

  -- of which it is the bytes
  bytes-words : bytes_of (words_of B) ≡ B
  unfolding words_of bytes_of table
  bytes-words =
      rw (word_bytes 0 (lit< tt), word_bytes 1 (lit< tt), word_bytes 2 (lit< tt), word_bytes 3 (lit< tt))
      (rw (as_table B 16 h.size))

-- ---- the laws

-- what comes out is a block again, whatever goes in
pub encrypt-block : (rks B : List ℕ) → Block (encrypt rks B)
unfolding encrypt
encrypt-block rks B = block-bytes (R (rounds (words_of B) rks))

-- and so does decryption give one
pub decrypt-block : (rks B : List ℕ) → Block (decrypt rks B)
unfolding decrypt
decrypt-block rks B = encrypt-block (reverse rks) B

-- decryption undoes encryption
pub decrypt-encrypt : (rks B : List ℕ) → Block B → decrypt rks (encrypt rks B) ≡ B
unfolding decrypt encrypt
decrypt-encrypt rks B h =
    let X = rounds (words_of B) rks in
    let w = words-rounds (words_of B) rks (words-block B h) in
    let turned : Words (R X) = record { x0_lt = w.x3_lt; x1_lt = w.x2_lt; x2_lt = w.x1_lt; x3_lt = w.x0_lt } in
    ap (λ (q : Quad). bytes_of (R (rounds q (reverse rks)))) (words-bytes (R X) turned)
    ∙ ap (λ (q : Quad). bytes_of (R q)) (rounds_undone (words_of B) rks)
    ∙ bytes-words B h

-- encryption undoes decryption: it is the decryption of the keys in reverse
pub encrypt-decrypt : (rks B : List ℕ) → Block B → encrypt rks (decrypt rks B) ≡ B
unfolding decrypt
encrypt-decrypt rks B h =
    ap (λ (ks : List ℕ). encrypt ks (encrypt (reverse rks) B)) (sym (reverse-reverse rks)) ∙ decrypt-encrypt (reverse rks) B h

-- ---- under a key

-- the cipher of a key decrypts what it encrypts, and in reverse
pub cipher-decrypt-encrypt : (MK B : List ℕ) → Block B
    → decrypt (cipher_of MK).round_keys (encrypt (cipher_of MK).round_keys B) ≡ B
cipher-decrypt-encrypt MK = decrypt-encrypt (cipher_of MK).round_keys

-- and in reverse
pub cipher-encrypt-decrypt : (MK B : List ℕ) → Block B
    → encrypt (cipher_of MK).round_keys (decrypt (cipher_of MK).round_keys B) ≡ B
cipher-encrypt-decrypt MK = encrypt-decrypt (cipher_of MK).round_keys
