-- What the probes answer and leave. Assumes nothing.
use Rattle.std.specs.Prelude.{Bool, cond, List, ℕ, eqb, length}
use Rattle.answers.specs.Answers.{Done, WrongSize}
use Rattle.words.specs.Choice.{bit}
use Rattle.words.specs.Lists.{agree}
use Rattle.hmac.specs.State.{mac}

-- 32 bytes long
unfoldable pub sized : List ℕ → Bool
sized x = eqb (length x) 32

-- Done where the size is right, else WrongSize
unfoldable pub answer_for : Bool → ℕ
answer_for right = cond right Done WrongSize

-- x where out is 32 bytes long, else out as found
unfoldable pub filled : List ℕ → List ℕ → List ℕ
filled x out = cond (sized out) x out

-- 1 or 0: whether tag is HMAC of the message, all 32 bytes; WrongSize where it has another size
unfoldable pub verified_for : List ℕ → List ℕ → List ℕ → ℕ
verified_for key message tag = cond (sized tag) (bit (agree (mac key message).bytes tag)) WrongSize
