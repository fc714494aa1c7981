-- The lengths that the key schedule asks for, and the test of each derivation's arguments. Assumes nothing.
use Rattle.std.specs.Prelude.{Bool, ◌&&◌, List, ℕ, ◌≤◌, ◌<◌, eqb, leb, length}

-- of the pre-master secret and of the master secret
abbrev pub master_secret_len : ℕ
master_secret_len = 48

abbrev pub finished_verify_data_len : ℕ
finished_verify_data_len = 12

-- of each random, and of the transcript's hash
abbrev pub random_len : ℕ
random_len = 32

abbrev pub max_key_block : ℕ
max_key_block = 1024

-- a secret with two randoms
unfoldable pub inputs_right : List ℕ → List ℕ → List ℕ → Bool
inputs_right secret client server =
    eqb (length secret) master_secret_len && eqb (length client) random_len && eqb (length server) random_len

-- and an output of exactly a master secret's length
unfoldable pub master_secret_sizes : List ℕ → List ℕ → List ℕ → List ℕ → Bool
master_secret_sizes secret client server out = inputs_right secret client server && eqb (length out) master_secret_len

-- and an output of any length up to the most
unfoldable pub key_block_sizes : List ℕ → List ℕ → List ℕ → List ℕ → Bool
key_block_sizes secret client server out = inputs_right secret client server && leb (length out) max_key_block

-- a secret with a hash, and an output of exactly the Finished message's length
unfoldable pub finished_sizes : List ℕ → List ℕ → List ℕ → Bool
finished_sizes secret transcript out =
    eqb (length secret) master_secret_len && eqb (length transcript) random_len && eqb (length out) finished_verify_data_len

-- what one call of p_sm3 is asked for: 1 to 1,024 bytes
pub record Asked (n : ℕ) : Type 0 where
  pub some : 0 < n
  pub most : n ≤ max_key_block

-- what the private functions are given: so little that no count of HMAC-SM3 wraps
pub record Small (secret label first second : List ℕ) : Type 0 where
  pub secret-small : length secret ≤ 64
  pub label_small : length label ≤ 64
  pub first_small : length first ≤ 64
  pub second-small : length second ≤ 64
