-- What a table must be from which the places of another are read off. Assumes nothing.
use Rattle.std.specs.Prelude.{◌≡◌, List, ℕ, ◌<◌, get_or}

-- each number below 256 stands at its own place
pub record Counts (l : List ℕ) : Type 0 where
  pub place : (i : ℕ) → i < 256 → get_or l i 0 ≡ i
