-- What a digest that was lent holds afterwards, and the answer. Assumes nothing.
use Rattle.std.specs.Prelude.{cond, List, ℕ, eqb, length}
use Rattle.answers.specs.Answers.{WrongSize}
use Rattle.sm3.specs.declared.Sm3.{Sm3}
use Rattle.sm3.specs.State.{finalized}

-- `finish`: 9 before all else where the digest has not 32 bytes
unfoldable pub finish_answer : Sm3 → List ℕ → ℕ
finish_answer h d = cond (eqb (length d) 32) (finalized h).answer WrongSize

-- the digest, zeros with 7; as found with 9
unfoldable pub finish_digest : Sm3 → List ℕ → List ℕ
finish_digest h d = cond (eqb (length d) 32) (finalized h).bytes d
