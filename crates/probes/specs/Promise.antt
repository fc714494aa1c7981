-- What the probe that writes promises. Assumes nothing.
use Rattle.std.specs.Prelude.{List, ◌++◌, ◌≡◌, ℕ}
use Rattle.hmac.specs.State.{mac}
use Rattle.probes.specs.Probes.{answer_for, sized, filled}

pub record MacedParts (key first second third out : List ℕ) (answer : ℕ) (out' : List ℕ) : Type 0 where
  pub result : answer ≡ answer_for (sized out)
  pub output : out' ≡ filled (mac key (first ++ (second ++ third))).bytes out
