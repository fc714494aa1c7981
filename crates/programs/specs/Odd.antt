-- A state of the hash that no message leads to. Assumes nothing.
use Rattle.std.specs.Prelude.{[], ◌∷◌, ℕ}
use Rattle.words.specs.Lists.{table}
use Rattle.sm3.specs.declared.Sm3.{Sm3}
use Rattle.programs.specs.Rule.{byte}

-- with any fill and any total: words that count from 1, and a buffer of the bytes 7 i + 3
unfoldable pub odd : ℕ → ℕ → Sm3
odd fill total =
    record {
      state = 1 ∷ 2 ∷ 3 ∷ 4 ∷ 5 ∷ 6 ∷ 7 ∷ 8 ∷ [];
      buffer = table (byte 7 3) 64;
      buffer_len = fill;
      total_len = total;
    }
