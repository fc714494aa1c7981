-- What the function that writes a lent slice promises. Assumes nothing.
use Rattle.std.specs.Prelude.{◌≡◌, ℕ, List, length}
use Rattle.words.specs.Lists.{table}
use Rattle.programs.specs.Rule.{byte}

pub record Spread (step first : ℕ) (out : List ℕ) (out' : List ℕ) : Type 0 where
  pub output : out' ≡ table (byte step first) (length out)
