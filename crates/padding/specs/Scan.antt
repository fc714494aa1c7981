-- What reading the padding of a deciphered body reports. Assumes nothing.
use Rattle.std.specs.Prelude.{List, ℕ}
use Rattle.words.specs.Choice.{bit}
use Rattle.record.specs.Opened.{good_pad, held as heldIn}
use Rattle.padding.specs.declared.Padding.{Padding}

-- the padding mark as a number, and the text's length, or n - 33 where the padding is bad
unfoldable pub checked : List ℕ → Padding
checked d = record { pad_ok = bit (good_pad d); held = heldIn d }
