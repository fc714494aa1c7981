-- A message in parts: the running MAC after an update with each. Assumes nothing.
use Rattle.std.specs.Prelude.{List, [], ◌∷◌, ℕ, map}
use Rattle.std.specs.Borrow.{Bor}
use Rattle.hmac.specs.declared.HmacSm3.{HmacSm3}
use Rattle.hmac.specs.State.{updated}

-- the state after an update with each part, one after the other
unfoldable pub fed : HmacSm3 → List (List ℕ) → HmacSm3
fed m [] = m
fed m (d ∷ ds) = fed (updated m d).mac ds

-- the parts that are lent, in order
abbrev pub lent : List (Bor (List ℕ)) → List (List ℕ)
lent parts = map (λ part. part.now) parts
