-- What the timed function promises. Assumes nothing.
use Rattle.std.specs.Prelude.{List, ◌≡◌, ℕ}
use Rattle.sm4.specs.Standard.{encrypt, round_keys_of}
use Rattle.cbc.specs.Cbc.{enciphered}
use Rattle.sm4_timing.specs.Timing.{fitted}

pub record Timed (key iv body body' : List ℕ) : Type 0 where
  pub output : body' ≡ enciphered (encrypt (round_keys_of (fitted key))) (fitted iv) body
