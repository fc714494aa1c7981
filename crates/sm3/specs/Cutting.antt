-- A message in parts: what a state has after an update with each, and which states a digest can tell apart.
-- Assumes nothing.
use Rattle.std.specs.Prelude.{◌≡◌, ℕ, List, [], ◌∷◌, ◌++◌, take}
use Rattle.sm3.specs.declared.Sm3.{Sm3}
use Rattle.sm3.specs.State.{updated}

-- the parts, end to end
unfoldable pub joined : List (List ℕ) → List ℕ
joined [] = []
joined (d ∷ ds) = d ++ joined ds

-- the state after an update with each part, one after the other
unfoldable pub fed : Sm3 → List (List ℕ) → Sm3
fed h [] = h
fed h (d ∷ ds) = fed (updated h d).hasher ds

-- two states that differ at most in the buffer's bytes from the fill on
pub record Alike (h g : Sm3) : Type 0 where
  pub words : h.state ≡ g.state
  pub fill : h.buffer_len ≡ g.buffer_len
  pub waiting : take h.buffer_len h.buffer ≡ take g.buffer_len g.buffer
  pub total : h.total_len ≡ g.total_len
