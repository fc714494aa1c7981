-- What deciphering one block leaves, by its cases. Assumes nothing.
use mathlib.Core.Bool.{Bool, true, false, cond, ◌&&◌}
use mathlib.Core.List.{List}
use mathlib.Core.Path.{◌≡◌, refl}
use Prim.Native.Nat.{ℕ, ◌+◌, ◌*◌, ◌≤◌, ◌<◌}
use borrow.Author.Tests.{le-leb, lt-leb}
use lib.Dec.{leb}
use lib.ListN.{length}
use Rattle.words.specs.Lists.{put}
use Rattle.cbc.specs.Cbc.{plain, deciphered}

module _ (D : List ℕ → List ℕ) (r : List ℕ) (k : ℕ) (out : List ℕ) where
  -- both blocks are there
  pub deciphered-block : (k + 1) * 16 ≤ length out → (k + 2) * 16 ≤ length r
      → deciphered D r k out ≡ put (k * 16) (plain D r k) out
  unfolding deciphered
  deciphered-block h g = rw (le-leb _ _ h, le-leb _ _ g)

  -- out has no whole block k
  pub deciphered_no_room : length out < (k + 1) * 16 → deciphered D r k out ≡ out
  unfolding deciphered
  deciphered_no_room h = rw (lt-leb _ _ h)

  -- the record has no whole block k + 1
  pub deciphered_no_block : length r < (k + 2) * 16 → deciphered D r k out ≡ out
  unfolding deciphered
  deciphered_no_block h = rw (lt-leb _ _ h) (neither (leb ((k + 1) * 16) (length out)))
    where
      neither : (b : Bool) → cond (b && false) (put (k * 16) (plain D r k) out) out ≡ out
      neither true = refl
      neither false = refl
