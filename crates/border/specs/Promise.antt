-- What the C-callable functions promise. Assumes nothing.
use Rattle.std.specs.Prelude.{cond, ◌&&◌, List, ◌≡◌, ℕ, length}
use Rattle.answers.specs.Answers.{WrongSize}
use Rattle.words.specs.Bytes.{be}
use Rattle.sm3.specs.declared.Sm3.{Sm3}
use Rattle.sm3.specs.State.{hashed, fresh, updated}
use Rattle.sm3_lent.specs.Lent.{finish_answer, finish_digest}
use Rattle.hmac.specs.State.{mac}
use Rattle.sm4.specs.Standard.{encrypt, decrypt, round_keys_of}
use Rattle.key_schedule.specs.Sizes.{master_secret_sizes, key_block_sizes, finished_sizes}
use Rattle.key_schedule.specs.Standard.{master_secret, key_block, finished}
use Rattle.record.specs.KeyBlock.{client_keys, server_keys}
use Rattle.record.specs.Limits.{iv_len}
use Rattle.record.specs.Sealing.{report_of, output_of as sealedOutput}
use Rattle.opening.specs.Deprotected.{deprotected, output_of}
use Rattle.border.specs.Border.{has, answer_for, sized, filled, key_sizes, keys_from, given_from, block_sizes, halves_sizes, role_of}

pub record Hashed (message out : List ℕ) (answer : ℕ) (out' : List ℕ) : Type 0 where
  pub result : answer ≡ answer_for (sized out)
  pub output : out' ≡ filled (hashed message).bytes out

pub record Maced (key message out : List ℕ) (answer : ℕ) (out' : List ℕ) : Type 0 where
  pub result : answer ≡ answer_for (sized out)
  pub output : out' ≡ filled (mac key message).bytes out

pub record SealedFor (macKey encKey : List ℕ) (seq type version : ℕ) (iv text out : List ℕ) (answer : ℕ) (out' : List ℕ) (length' : ℕ)
    : Type 0
  where
    pub result : answer ≡ cond (key_sizes macKey encKey && has iv_len iv) (report_of (length text) (length out)).answer WrongSize
    pub output : out' ≡ cond (key_sizes macKey encKey && has iv_len iv) (sealedOutput (keys_from macKey encKey) seq type (be 2 version) iv text out) out
    pub reported : length' ≡ cond (key_sizes macKey encKey && has iv_len iv) (report_of (length text) (length out)).length 0

pub record OpenedFor (macKey encKey : List ℕ) (seq type version : ℕ) (r out : List ℕ) (answer : ℕ) (out' : List ℕ) (length' count' : ℕ)
    : Type 0
  where
    pub result : answer ≡ cond (key_sizes macKey encKey) (deprotected (given_from macKey encKey seq type version r) (length out)).answer WrongSize
    pub output : out' ≡ cond (key_sizes macKey encKey) (output_of (given_from macKey encKey seq type version r) out) out
    pub reported : length' ≡ cond (key_sizes macKey encKey) (deprotected (given_from macKey encKey seq type version r) (length out)).length 0
    pub counted : count' ≡ cond (key_sizes macKey encKey) (deprotected (given_from macKey encKey seq type version r) (length out)).count 0

pub record EncipheredFor (key block out : List ℕ) (answer : ℕ) (out' : List ℕ) : Type 0 where
  pub result : answer ≡ answer_for (block_sizes key block out)
  pub output : out' ≡ cond (block_sizes key block out) (encrypt (round_keys_of key) block) out

pub record DecipheredFor (key block out : List ℕ) (answer : ℕ) (out' : List ℕ) : Type 0 where
  pub result : answer ≡ answer_for (block_sizes key block out)
  pub output : out' ≡ cond (block_sizes key block out) (decrypt (round_keys_of key) block) out

pub record MasterSecretFor (preMaster client server out : List ℕ) (answer : ℕ) (out' : List ℕ) : Type 0 where
  pub result : answer ≡ answer_for (master_secret_sizes preMaster client server out)
  pub output : out' ≡ cond (master_secret_sizes preMaster client server out) (master_secret preMaster client server) out

pub record KeyBlockFor (master client server out : List ℕ) (answer : ℕ) (out' : List ℕ) : Type 0 where
  pub result : answer ≡ answer_for (key_block_sizes master client server out)
  pub output : out' ≡ cond (key_block_sizes master client server out) (key_block master client server (length out)) out

pub record KeyHalvesFor (block clientMac serverMac clientEnc serverEnc : List ℕ) (answer : ℕ) (clientMac' serverMac' clientEnc' serverEnc' : List ℕ)
    : Type 0
  where
    pub result : answer ≡ answer_for (halves_sizes block clientMac serverMac clientEnc serverEnc)
    pub client-mac : clientMac' ≡ cond (halves_sizes block clientMac serverMac clientEnc serverEnc) (client_keys block).mac_key clientMac
    pub server-mac : serverMac' ≡ cond (halves_sizes block clientMac serverMac clientEnc serverEnc) (server_keys block).mac_key serverMac
    pub client_enc : clientEnc' ≡ cond (halves_sizes block clientMac serverMac clientEnc serverEnc) (client_keys block).enc_key clientEnc
    pub server_enc : serverEnc' ≡ cond (halves_sizes block clientMac serverMac clientEnc serverEnc) (server_keys block).enc_key serverEnc

pub record FinishedFor (master : List ℕ) (role : ℕ) (transcript out : List ℕ) (answer : ℕ) (out' : List ℕ) : Type 0 where
  pub result : answer ≡ answer_for (finished_sizes master transcript out)
  pub output : out' ≡ cond (finished_sizes master transcript out) (finished master (role_of role) transcript) out

pub record StartedFor (h' : Sm3) : Type 0 where
  pub state : h' ≡ fresh

pub record TakenFor (h : Sm3) (part : List ℕ) (answer : ℕ) (h' : Sm3) : Type 0 where
  pub result : answer ≡ (updated h part).answer
  pub state : h' ≡ (updated h part).hasher

pub record DigestedFor (h : Sm3) (digest : List ℕ) (answer : ℕ) (digest' : List ℕ) : Type 0 where
  pub result : answer ≡ finish_answer h digest
  pub output : digest' ≡ finish_digest h digest
