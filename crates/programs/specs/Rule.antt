-- Bytes made by a rule. Assumes nothing.
use Rattle.std.specs.Prelude.{ℕ, ◌+◌, ◌*◌, ◌%◌}

-- byte i of those that begin with first and go on by step
unfoldable pub byte : ℕ → ℕ → ℕ → ℕ
byte step first i = (first + step * i) % 256
