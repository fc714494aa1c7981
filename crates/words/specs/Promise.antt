-- What the functions that write a lent slice promise. Assumes nothing.
use Rattle.std.specs.Prelude.{◌≡◌, ℕ, List, replicate}
use Rattle.words.specs.Lists.{put}

pub record Copied (out : List ℕ) (at : ℕ) (src : List ℕ) (out' : List ℕ) : Type 0 where
  pub output : out' ≡ put at src out

pub record Filled (out : List ℕ) (at count byte : ℕ) (out' : List ℕ) : Type 0 where
  pub output : out' ≡ put at (replicate count byte) out
