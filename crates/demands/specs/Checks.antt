-- The checks that come before all work, of numbers alone: a text of L bytes to be sealed or a record of r bytes to be opened, and so much
-- room in the output. Each refusal applies where none before it does. Assumes nothing.
use Rattle.std.specs.Prelude.{◌≡◌, ℕ, ◌-◌, ◌%◌, ◌≤◌, ◌<◌}
use Rattle.answers.specs.Answers.{TooLong, NoRoom, Short, Ragged, TooBig}
use Rattle.record.specs.Limits.{max_plaintext, iv_len}
use Rattle.record.specs.Standard.{sealed_length}
use Rattle.sizes.specs.Sizes.{min_record, max_body}

-- a text that is sealed
pub record Sealable (L room : ℕ) : Type 0 where
  pub most : L ≤ max_plaintext
  pub fits : sealed_length L ≤ room

-- a text that is not, and the number that it is refused with: 1, then 2
pub data NotSealed (L room : ℕ) : ℕ → Type 0 where
  too_long : max_plaintext < L → NotSealed L room TooLong
  no_room : L ≤ max_plaintext → room < sealed_length L → NotSealed L room NoRoom

-- a record that is opened
pub record Openable (r room : ℕ) : Type 0 where
  pub least : min_record ≤ r
  pub whole : (r - iv_len) % 16 ≡ 0
  pub most : r - iv_len ≤ max_body
  pub fits : r - iv_len ≤ room

-- a record that is not, and the number that it is refused with: 3, 4, 5, then 2
pub data NotOpened (r room : ℕ) : ℕ → Type 0 where
  short : r < min_record → NotOpened r room Short
  ragged : min_record ≤ r → ((r - iv_len) % 16 ≡ 0 → ⊥) → NotOpened r room Ragged
  too_big : min_record ≤ r → (r - iv_len) % 16 ≡ 0 → max_body < r - iv_len → NotOpened r room TooBig
  no_room : min_record ≤ r → (r - iv_len) % 16 ≡ 0 → r - iv_len ≤ max_body → room < r - iv_len → NotOpened r room NoRoom
