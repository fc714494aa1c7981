-- GB/T 32907-2016, annex A, example 1: what is printed for one block under one key. Assumes nothing.
use Rattle.std.specs.Prelude.{List, [], ◌∷◌, ◌≡◌, ℕ, get_or}
use Rattle.sm4.specs.Standard.{encrypt, decrypt, CK, round_keys_of}

-- the key, which is the plaintext too: 01234567 89abcdef fedcba98 76543210
abbrev pub key : List ℕ
key =
    0x01 ∷ 0x23 ∷ 0x45 ∷ 0x67 ∷ 0x89 ∷ 0xab ∷ 0xcd ∷ 0xef ∷ 0xfe ∷ 0xdc ∷ 0xba ∷ 0x98 ∷ 0x76 ∷ 0x54 ∷ 0x32 ∷ 0x10 ∷ []

-- the ciphertext: 681edf34 d206965e 86b3e94f 536e4246
abbrev pub ciphertext : List ℕ
ciphertext =
    0x68 ∷ 0x1e ∷ 0xdf ∷ 0x34 ∷ 0xd2 ∷ 0x06 ∷ 0x96 ∷ 0x5e ∷ 0x86 ∷ 0xb3 ∷ 0xe9 ∷ 0x4f ∷ 0x53 ∷ 0x6e ∷ 0x42 ∷ 0x46 ∷ []

pub record AnnexA : Type 0 where
  pub rk_first : get_or (round_keys_of key) 0 0 ≡ 0xf12186f9
  pub rk_last : get_or (round_keys_of key) 31 0 ≡ 0x9124a012
  pub encrypted : encrypt (round_keys_of key) key ≡ ciphertext
  pub decrypted : decrypt (round_keys_of key) ciphertext ≡ key
  -- 7.3, the ends of the table of CK
  pub CK-first : CK 0 ≡ 0x00070e15
  pub CK-last : CK 31 ≡ 0x646b7279
