-- What the function that writes promises. Assumes nothing.
use Rattle.std.specs.Prelude.{cond, List, ◌≡◌, ℕ, leb, length}
use Rattle.std.proofs.Math.Seq.{paste}
use Rattle.protocol.specs.Fields.{bytes_at}

pub record Decoded (line : List ℕ) (k : ℕ) (out : List ℕ) (n : ℕ) (out' : List ℕ) : Type 0 where
  pub result : n ≡ cond (leb (length (bytes_at k line)) (length out)) (length (bytes_at k line)) 0
  pub output : out' ≡ cond (leb (length (bytes_at k line)) (length out)) (paste out 0 (bytes_at k line) (length (bytes_at k line))) out
