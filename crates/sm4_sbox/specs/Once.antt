-- Every byte value occurs once in the S-box. Assumes nothing.
use Rattle.std.specs.Prelude.{◌≡◌, ℕ, ◌<◌}
use Rattle.sm4_sbox.specs.Standard.{Sbox}

-- a place of the table that holds y
pub record Place (y : ℕ) : Type 0 where
  pub place : ℕ
  pub below : place < 256
  pub holds : Sbox place ≡ y

-- at least once: each byte value has a place; at most once: two places with one entry are one place
pub record Once : Type 0 where
  pub at_least : (y : ℕ) → y < 256 → Place y
  pub at_most : (i j : ℕ) → i < 256 → j < 256 → Sbox i ≡ Sbox j → i ≡ j
