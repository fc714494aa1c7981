-- What sealing answers, by its cases. Assumes nothing.
use mathlib.Core.Path.{◌≡◌}
use Prim.Native.Nat.{ℕ, ◌≤◌, ◌<◌}
use borrow.Author.Tests.{lt-ltb, le-ltb}
use Rattle.answers.specs.Answers.{Done, TooLong, NoRoom}
use Rattle.record.specs.Limits.{max_plaintext}
use Rattle.record.specs.Sealing.{answer_of}
use Rattle.record.specs.Standard.{sealed_length}

module _ (L room : ℕ) where
  -- too much text, whatever the room
  pub answer_long : max_plaintext < L → answer_of L room ≡ TooLong
  unfolding answer_of
  answer_long h = rw (lt-ltb _ _ h)

  -- too little room
  pub answer_room : L ≤ max_plaintext → room < sealed_length L → answer_of L room ≡ NoRoom
  unfolding answer_of
  answer_room h k = rw (le-ltb _ _ h, lt-ltb _ _ k)

  -- neither
  pub answer_done : L ≤ max_plaintext → sealed_length L ≤ room → answer_of L room ≡ Done
  unfolding answer_of
  answer_done h k = rw (le-ltb _ _ h, le-ltb _ _ k)
