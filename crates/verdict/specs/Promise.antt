-- What the function that writes a lent slice promises. Assumes nothing.
use Rattle.std.specs.Prelude.{List, ◌≡◌, ℕ}
use Rattle.verdict.specs.Verdict.{cleared_from}

pub record Cleared (body : List ℕ) (keep : ℕ) (body' : List ℕ) : Type 0 where
  pub output : body' ≡ cleared_from keep body
