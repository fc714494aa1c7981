-- What a block is. Assumes nothing.
use Rattle.std.specs.Prelude.{◌≡◌, List, ℕ, length}
use Rattle.words.specs.Bytes.{Bytes}

-- sixteen bytes
pub record Block (b : List ℕ) : Type 0 where
  pub size : length b ≡ 16
  pub bytes : Bytes b
