-- GB/T 38636-2020, section 6.5: the PRF, which is P_hash of RFC 5246, section 5, with HMAC-SM3; and what is derived by it.
-- Assumes nothing.
use Rattle.std.specs.Prelude.{List, [], ◌∷◌, ◌++◌, ℕ, zero, suc, ◌+◌, ◌/◌, take}
use Rattle.words.specs.Lists.{join}
use Rattle.sm3.specs.Standard.{SM3}
use Rattle.hmac.specs.Rfc2104.{HMAC}
use Rattle.key_schedule.specs.declared.TlcpRole.{TlcpRole}
use Rattle.key_schedule.specs.declared.TlcpRole.TheVariants.{Client, Server}
use Rattle.key_schedule.specs.Sizes.{master_secret_len, finished_verify_data_len}

-- ---- P_hash, over a MAC M of a secret and a text, with digests of 32 bytes

-- A(0) = seed, A(i) = HMAC_hash(secret, A(i - 1))
unfoldable pub A : (List ℕ → List ℕ → List ℕ) → List ℕ → List ℕ → ℕ → List ℕ
A M secret seed zero = seed
A M secret seed (suc i) = M secret (A M secret seed i)

-- HMAC_hash(secret, A(i + 1) + seed): block i, counted from 0
unfoldable pub block : (List ℕ → List ℕ → List ℕ) → List ℕ → List ℕ → ℕ → List ℕ
block M secret seed i = M secret (A M secret seed (suc i) ++ seed)

-- how many blocks n bytes take
abbrev pub blocks : ℕ → ℕ
blocks n = (n + 31) / 32

-- as many blocks as are needed, the last one cut
unfoldable pub P_hash : (List ℕ → List ℕ → List ℕ) → List ℕ → List ℕ → ℕ → List ℕ
P_hash M secret seed n = take n (join (blocks n) (block M secret seed))

-- PRF(secret, label, seed) = P_SM3(secret, label + seed), n bytes of it
unfoldable pub PRF : List ℕ → List ℕ → List ℕ → ℕ → List ℕ
PRF secret label seed n = P_hash (HMAC SM3) secret (label ++ seed) n

-- ---- the labels, in ASCII

-- "master secret"
abbrev pub master_secret_label : List ℕ
master_secret_label = 109 ∷ 97 ∷ 115 ∷ 116 ∷ 101 ∷ 114 ∷ 32 ∷ 115 ∷ 101 ∷ 99 ∷ 114 ∷ 101 ∷ 116 ∷ []

-- "key expansion"
abbrev pub key_expansion_label : List ℕ
key_expansion_label = 107 ∷ 101 ∷ 121 ∷ 32 ∷ 101 ∷ 120 ∷ 112 ∷ 97 ∷ 110 ∷ 115 ∷ 105 ∷ 111 ∷ 110 ∷ []

-- "client finished"
abbrev pub client_finished_label : List ℕ
client_finished_label = 99 ∷ 108 ∷ 105 ∷ 101 ∷ 110 ∷ 116 ∷ 32 ∷ 102 ∷ 105 ∷ 110 ∷ 105 ∷ 115 ∷ 104 ∷ 101 ∷ 100 ∷ []

-- "server finished"
abbrev pub server_finished_label : List ℕ
server_finished_label = 115 ∷ 101 ∷ 114 ∷ 118 ∷ 101 ∷ 114 ∷ 32 ∷ 102 ∷ 105 ∷ 110 ∷ 105 ∷ 115 ∷ 104 ∷ 101 ∷ 100 ∷ []

abbrev pub label_of : TlcpRole → List ℕ
label_of Client = client_finished_label
label_of Server = server_finished_label

-- ---- what is derived

-- master_secret = PRF(pre_master_secret, "master secret", client random + server random), 48 bytes
unfoldable pub master_secret : List ℕ → List ℕ → List ℕ → List ℕ
master_secret preMaster client server = PRF preMaster master_secret_label (client ++ server) master_secret_len

-- key_block = PRF(master_secret, "key expansion", server random + client random), n bytes
unfoldable pub key_block : List ℕ → List ℕ → List ℕ → ℕ → List ℕ
key_block master client server n = PRF master key_expansion_label (server ++ client) n

-- verify_data = PRF(master_secret, finished_label, SM3 of the handshake messages), 12 bytes
unfoldable pub finished : List ℕ → TlcpRole → List ℕ → List ℕ
finished master role transcript = PRF master (label_of role) transcript finished_verify_data_len
