-- What the functions that write a lent slice promise. Assumes nothing.
use Rattle.std.specs.Prelude.{List, ◌≡◌, ℕ}
use Rattle.made_records.specs.Made.{laid, closed}

pub record Laid (L p : ℕ) (r : List ℕ) (r' : List ℕ) : Type 0 where
  pub output : r' ≡ laid L p r

pub record Closed (r : List ℕ) (r' : List ℕ) : Type 0 where
  pub output : r' ≡ closed r
