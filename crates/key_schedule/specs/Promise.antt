-- What each derivation promises: its answer, and its output afterwards. Assumes nothing.
use Rattle.std.specs.Prelude.{cond, List, ◌≡◌, ℕ, length}
use Rattle.answers.specs.Answers.{Done, WrongSize}
use Rattle.key_schedule.specs.declared.TlcpRole.{TlcpRole}
use Rattle.key_schedule.specs.Sizes.{master_secret_sizes, key_block_sizes, finished_sizes}
use Rattle.key_schedule.specs.Standard.{master_secret, key_block, finished}

pub record MasterSecret (preMaster client server out : List ℕ) (answer : ℕ) (out' : List ℕ) : Type 0 where
  pub result : answer ≡ cond (master_secret_sizes preMaster client server out) Done WrongSize
  pub output : out' ≡ cond (master_secret_sizes preMaster client server out) (master_secret preMaster client server) out

pub record KeyBlock (master client server out : List ℕ) (answer : ℕ) (out' : List ℕ) : Type 0 where
  pub result : answer ≡ cond (key_block_sizes master client server out) Done WrongSize
  pub output : out' ≡ cond (key_block_sizes master client server out) (key_block master client server (length out)) out

pub record Finished (master : List ℕ) (role : TlcpRole) (transcript out : List ℕ) (answer : ℕ) (out' : List ℕ) : Type 0 where
  pub result : answer ≡ cond (finished_sizes master transcript out) Done WrongSize
  pub output : out' ≡ cond (finished_sizes master transcript out) (finished master role transcript) out
