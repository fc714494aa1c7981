-- What the private functions say of a part of the rounds. Assumes nothing.
use Rattle.std.specs.Prelude.{List, ℕ, zero, suc, ◌+◌}
use Rattle.sm3_compress.specs.Standard.{at, round}

-- n rounds, the first of them round s
unfoldable pub rounds_from : List ℕ → List ℕ → ℕ → ℕ → List ℕ → List ℕ
rounds_from w w' s zero v = v
rounds_from w w' s (suc n) v = round (s + n) (rounds_from w w' s n v) (at w (s + n)) (at w' (s + n))
