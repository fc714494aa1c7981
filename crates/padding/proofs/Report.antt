-- The padding mark and the length held, as they are worked out by masks. Assumes nothing.
use mathlib.Core.Bool.{Bool, true, false, ◌&&◌}
use mathlib.Core.List.{List}
use mathlib.Core.Path.{◌≡◌, refl, sym}
use Prim.Native.Nat.{ℕ, ◌+◌, ◌-◌, ◌≤◌}
use native.Mathlib.Numerals.{add-one}
use native.Mathlib.Omega.{arith}
use borrow.Author.Tests.{lt-leb}
use lib.Bits.{bit_and}
use lib.Dec.{eqb, ltb}
use lib.ListN.{length}
use Rattle.words.specs.Choice.{bit, chosen}
use Rattle.words.proofs.Choice.{both_bits, chosen-bit}
use Rattle.record.specs.Opened.{last_byte, pad_fits, good_pad, held}
use Rattle.record.proofs.Accepts.{good-parts, held-good, held-bad}

module _ (d : List ℕ) where
  -- no room for a MAC and a length byte: no padding is good
  pub short-bad : length d ≤ 32 → good_pad d ≡ false
  unfolding good_pad pad_fits
  short-bad h = rw (lt-leb (last_byte d + 1) (length d - 32) (omega arith))

  -- the mark: it fits, and no difference was gathered
  pub mark-good : (bad : ℕ) → good_pad d ≡ (pad_fits d && eqb bad 0)
      → bit_and (bit (ltb (last_byte d) (length d - 32))) (bit (eqb bad 0)) ≡ bit (good_pad d)
  unfolding pad_fits
  mark-good bad e = rw (e, add-one (last_byte d)) (both_bits (ltb (last_byte d) (length d - 32)) (eqb bad 0))

  -- what is taken off n - 33 is no more than that, and leaves the length held
  pub held-chosen : (chosen (bit (good_pad d)) 0 (last_byte d) ≤ length d - 33)
      × (length d - 33 - chosen (bit (good_pad d)) 0 (last_byte d) ≡ held d)
  held-chosen = by (good_pad d) refl
    where
      by : (t : Bool) → good_pad d ≡ t → (chosen (bit t) 0 (last_byte d) ≤ length d - 33)
          × (length d - 33 - chosen (bit t) 0 (last_byte d) ≡ held d)
      by true e = rw (chosen-bit true 0 (last_byte d)) (omega (arith, (good-parts d e).0), sym (held-good d e))
      by false e = rw (chosen-bit false 0 (last_byte d)) (omega arith, omega (arith, held-bad d e))
