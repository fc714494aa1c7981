-- What a function leaves in the state or the digest that was lent to it, and what it answers. Assumes nothing.
use Rattle.std.specs.Prelude.{List, ◌≡◌, ℕ}
use Rattle.sm3.specs.declared.Sm3.{Sm3}
use Rattle.sm3.specs.State.{fresh, updated}
use Rattle.sm3_lent.specs.Lent.{finish_answer, finish_digest}

pub record Started (h' : Sm3) : Type 0 where
  pub state : h' ≡ fresh

pub record Taken (h : Sm3) (part : List ℕ) (answer : ℕ) (h' : Sm3) : Type 0 where
  pub result : answer ≡ (updated h part).answer
  pub state : h' ≡ (updated h part).hasher

pub record Digested (h : Sm3) (digest : List ℕ) (answer : ℕ) (digest' : List ℕ) : Type 0 where
  pub result : answer ≡ finish_answer h digest
  pub output : digest' ≡ finish_digest h digest
