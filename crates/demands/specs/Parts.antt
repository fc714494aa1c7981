-- Demand 2 for what stands below records: hash, MAC, cipher and key schedule, over the definitions that the contracts of the
-- public functions cite. Assumes nothing.
use Rattle.std.specs.Prelude.{true, List, ◌∷◌, ◌++◌, ◌↔◌, ◌⊎◌, ◌≡◌, ℕ, suc, ◌+◌, ◌*◌, ◌/◌, ◌%◌, ◌^◌, ◌≤◌, ◌<◌, length, get_or, take, drop, replicate}
use Rattle.answers.specs.Answers.{Done, BadState, WrongSize}
use Rattle.words.specs.Bytes.{be}
use Rattle.sm3.specs.declared.Sm3.{Sm3}
use Rattle.sm3.specs.Cutting.{joined, fed, Alike}
use Rattle.sm3.specs.Standard.{IV, zeros, iteration, bytes_of, SM3}
use Rattle.sm3.specs.State.{fresh, updated, finalized, hashed}
use Rattle.hmac.specs.declared.HmacSm3.{HmacSm3}
use Rattle.hmac.specs.Cutting.{fed as fedMac}
use Rattle.hmac.specs.Rfc2104.{HMAC}
use Rattle.hmac.specs.State.{hash_bytes, started, verified, mac, updated as updatedMac, finalized as finalizedMac}
use Rattle.sm4_sbox.specs.Standard.{Sbox}
use Rattle.sm4.specs.AnnexA.{AnnexA}
use Rattle.sm4.specs.Block.{Block}
use Rattle.sm4.specs.Standard.{CK, encrypt, decrypt, cipher_of}
use Rattle.key_schedule.specs.declared.TlcpRole.{TlcpRole}
use Rattle.key_schedule.specs.declared.TlcpRole.TheVariants.{Client, Server}
use Rattle.key_schedule.specs.Promise.{MasterSecret, KeyBlock, Finished}
use Rattle.key_schedule.specs.Standard.{A, P_hash, master_secret_label, key_expansion_label, client_finished_label, server_finished_label}
use Rattle.record.specs.KeyBlock.{client_keys, server_keys, halved_by, keys_of}

-- SM3
pub record Hash : Type 0 where
  -- The hash of every message below 2^61 bytes is SM3 of GB/T 32905, with answer 0.
  pub standard : (m : List ℕ) → length m < 2 ^ 61 → hashed m ≡ record { answer = Done; bytes = SM3 m }
  -- The hash of a message of any length is the standard's iteration over the message, 0x80, zeros and 8 bytes for the number of its
  -- bits, which from 2^61 bytes on is taken modulo 2^64.
  pub wrapped : (m : List ℕ)
      → hashed m
      ≡ record {
        answer = Done;
        bytes = bytes_of (iteration IV (m ++ (0x80 ∷ (replicate (zeros (length m)) 0 ++ be 8 (8 * length m % 2 ^ 64)))));
      }
  -- Every way of cutting a message into updates of a fresh state gives the hash of the whole message.
  pub cut : (ds : List (List ℕ)) → finalized (fed fresh ds) ≡ hashed (joined ds)
  -- No digest depends on the buffer's bytes from the fill on.
  pub fill_only : (h g : Sm3) → Alike h g → finalized h ≡ finalized g
  -- A fill above 63 is answered 7, the state as given and the digest zero; nothing else about a state is refused.
  pub refused : (h : Sm3) (d : List ℕ) → 63 < h.buffer_len
      → (updated h d ≡ record { answer = BadState; hasher = h }) × (finalized h ≡ record { answer = BadState; bytes = replicate 32 0 })
  pub not-refused : (h : Sm3) (d : List ℕ) → h.buffer_len ≤ 63 → ((updated h d).answer ≡ Done) × ((finalized h).answer ≡ Done)

-- HMAC
pub record Mac : Type 0 where
  -- The MAC of every message under every key is RFC 2104's over the hash above, whatever their lengths.
  pub over_the_hash : (K m : List ℕ) → mac K m ≡ record { answer = Done; bytes = HMAC hash_bytes K m }
  pub the_hash : (m : List ℕ) → hash_bytes m ≡ (hashed m).bytes
  -- That is RFC 2104's over SM3 of GB/T 32905 where neither the key nor the message with a block in front has 2^61 bytes.
  pub standard : (K m : List ℕ) → length K < 2 ^ 61 → 64 + length m < 2 ^ 61
      → mac K m ≡ record { answer = Done; bytes = HMAC SM3 K m }
  -- Every way of cutting a message into updates of a fresh state gives the MAC of the whole message.
  pub cut : (K : List ℕ) (ds : List (List ℕ)) → finalizedMac (fedMac (started K).mac ds) ≡ mac K (joined ds)
  -- Verification says yes exactly when all bytes agree, however the message is cut.
  pub verified_exactly : (K : List ℕ) (ds : List (List ℕ)) (expected : List ℕ)
      → ((verified (fedMac (started K).mac ds) expected).matches ≡ true) ↔ ((mac K (joined ds)).bytes ≡ expected)
  -- Verification of any state says yes exactly when the digest is Done and all bytes agree, so no with answer 7.
  pub verified-any : (m : HmacSm3) (expected : List ℕ)
      → ((verified m expected).answer ≡ (finalizedMac m).answer)
      × (((verified m expected).matches ≡ true) ↔ (((finalizedMac m).answer ≡ Done) × ((finalizedMac m).bytes ≡ expected)))
  -- An inner or an outer fill above 63 is answered 7, the state as given and the digest zero; nothing else about a state is refused.
  pub refused : (m : HmacSm3) (d : List ℕ) → (63 < m.inner.buffer_len) ⊎ (63 < m.outer.buffer_len)
      → (updatedMac m d ≡ record { answer = BadState; mac = m }) × (finalizedMac m ≡ record { answer = BadState; bytes = replicate 32 0 })
  pub not-refused : (m : HmacSm3) (d : List ℕ) → m.inner.buffer_len ≤ 63 → m.outer.buffer_len ≤ 63
      → ((updatedMac m d).answer ≡ Done) × ((finalizedMac m).answer ≡ Done)

-- SM4
pub record Cipher : Type 0 where
  -- Decryption undoes encryption, for every key and every block.
  pub decrypts : (MK B : List ℕ) → Block B → decrypt (cipher_of MK).round_keys (encrypt (cipher_of MK).round_keys B) ≡ B
  -- Encryption undoes decryption, for every key and every block.
  pub encrypts : (MK B : List ℕ) → Block B → encrypt (cipher_of MK).round_keys (decrypt (cipher_of MK).round_keys B) ≡ B
  -- The table CK: byte j of CK_i is (4i + j) * 7 modulo 256.
  pub CK-bytes : (i j : ℕ) → j < 4 → get_or (be 4 (CK i)) j 0 ≡ (4 * i + j) * 7 % 256
  -- The table S_BOX: every byte value occurs exactly once.
  pub S_box_once : (y : ℕ) → y < 256 → (k : ℕ) × (k < 256) × (Sbox k ≡ y) × ((j : ℕ) → j < 256 → Sbox j ≡ y → j ≡ k)
  -- Encryption and decryption are those of GB/T 32907: its definitions, and the example of its annex A comes out.
  pub example : AnnexA

-- the key schedule
pub record Keys : Type 0 where
  -- A(1) is HMAC of the seed, and A(i + 1) that of A(i).
  pub A-first : (secret seed : List ℕ) → A (HMAC SM3) secret seed 1 ≡ HMAC SM3 secret seed
  pub A-next : (secret seed : List ℕ) (i : ℕ) → A (HMAC SM3) secret seed (suc i) ≡ HMAC SM3 secret (A (HMAC SM3) secret seed i)
  -- P_hash has as many bytes as asked for, and byte k of them is that of output block k / 32, HMAC of A(k / 32 + 1) and the seed.
  pub P_length : (secret seed : List ℕ) (n : ℕ) → length (P_hash (HMAC SM3) secret seed n) ≡ n
  pub P_bytes : (secret seed : List ℕ) (n k : ℕ) → k < n
      → get_or (P_hash (HMAC SM3) secret seed n) k 0
      ≡ get_or (HMAC SM3 secret (A (HMAC SM3) secret seed (suc (k / 32)) ++ seed)) (k % 32) 0
  -- The master secret: "master secret", client random, server random.
  pub master_secret_lem : (preMaster client server out : List ℕ) (answer : ℕ) (out' : List ℕ)
      → MasterSecret preMaster client server out answer out'
      → length preMaster ≡ 48 → length client ≡ 32 → length server ≡ 32 → length out ≡ 48
      → (answer ≡ Done) × (out' ≡ P_hash (HMAC SM3) preMaster (master_secret_label ++ (client ++ server)) 48)
  -- The key block: "key expansion", server random, client random, as long as the output.
  pub key-block : (master client server out : List ℕ) (answer : ℕ) (out' : List ℕ)
      → KeyBlock master client server out answer out'
      → length master ≡ 48 → length client ≡ 32 → length server ≡ 32 → length out ≤ 1024
      → (answer ≡ Done) × (out' ≡ P_hash (HMAC SM3) master (key_expansion_label ++ (server ++ client)) (length out))
  -- The Finished data: "client finished" or "server finished", and the transcript's hash.
  pub client-finished : (master transcript out : List ℕ) (answer : ℕ) (out' : List ℕ)
      → Finished master Client transcript out answer out'
      → length master ≡ 48 → length transcript ≡ 32 → length out ≡ 12
      → (answer ≡ Done) × (out' ≡ P_hash (HMAC SM3) master (client_finished_label ++ transcript) 12)
  pub server-finished : (master transcript out : List ℕ) (answer : ℕ) (out' : List ℕ)
      → Finished master Server transcript out answer out'
      → length master ≡ 48 → length transcript ≡ 32 → length out ≡ 12
      → (answer ≡ Done) × (out' ≡ P_hash (HMAC SM3) master (server_finished_label ++ transcript) 12)
  -- A length out of place is answered 9, and the output stays as found.
  pub master_secret-refused : (preMaster client server out : List ℕ) (answer : ℕ) (out' : List ℕ)
      → MasterSecret preMaster client server out answer out'
      → ((length preMaster ≡ 48) × (length client ≡ 32) × (length server ≡ 32) × (length out ≡ 48) → ⊥)
      → (answer ≡ WrongSize) × (out' ≡ out)
  pub key-block-refused : (master client server out : List ℕ) (answer : ℕ) (out' : List ℕ)
      → KeyBlock master client server out answer out'
      → ((length master ≡ 48) × (length client ≡ 32) × (length server ≡ 32) × (length out ≤ 1024) → ⊥)
      → (answer ≡ WrongSize) × (out' ≡ out)
  pub finished-refused : (master : List ℕ) (role : TlcpRole) (transcript out : List ℕ) (answer : ℕ) (out' : List ℕ)
      → Finished master role transcript out answer out'
      → ((length master ≡ 48) × (length transcript ≡ 32) × (length out ≡ 12) → ⊥)
      → (answer ≡ WrongSize) × (out' ≡ out)
  -- The halves of a key block of 128 bytes: bytes 0..32 and 64..80 are the client's, 32..64 and 80..96 the server's.
  pub client_half : (b : List ℕ) → length b ≡ 128
      → halved_by client_keys b
      ≡ record { answer = Done; keys = record { mac_key = take 32 b; enc_key = take 16 (drop 64 b) } }
  pub server_half : (b : List ℕ) → length b ≡ 128
      → halved_by server_keys b
      ≡ record { answer = Done; keys = record { mac_key = take 32 (drop 32 b); enc_key = take 16 (drop 80 b) } }
  -- A role takes its own half.
  pub client_role : (b : List ℕ) → halved_by (keys_of Client) b ≡ halved_by client_keys b
  pub server_role : (b : List ℕ) → halved_by (keys_of Server) b ≡ halved_by server_keys b
  -- A key block of another length is refused with keys of zeros.
  pub no_half : (role : TlcpRole) (b : List ℕ) → (length b ≡ 128 → ⊥)
      → halved_by (keys_of role) b
      ≡ record { answer = WrongSize; keys = record { mac_key = replicate 32 0; enc_key = replicate 16 0 } }
