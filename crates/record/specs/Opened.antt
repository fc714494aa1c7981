-- The parts of a deciphered body d by name, and when it is accepted, over any MAC. Assumes nothing.
use Rattle.std.specs.Prelude.{Bool, cond, ◌&&◌, List, ℕ, ◌+◌, ◌-◌, leb, length, get_or, take, drop}
use Rattle.words.specs.Lists.{agree}
use Rattle.record.specs.Limits.{mac_len}
use Rattle.record.specs.Standard.{padding}

-- p, which the padding says of itself
unfoldable pub last_byte : List ℕ → ℕ
last_byte d = get_or d (length d - 1) 0

-- p + 1 bytes fit behind the MAC
unfoldable pub pad_fits : List ℕ → Bool
pad_fits d = leb (last_byte d + 1) (length d - mac_len)

-- the last p + 1 bytes all equal p
unfoldable pub pad_run : List ℕ → Bool
pad_run d = agree (drop (length d - (last_byte d + 1)) d) (padding (last_byte d))

-- good padding is both
unfoldable pub good_pad : List ℕ → Bool
good_pad d = pad_fits d && pad_run d

-- the text's length, at which the MAC is worked out and compared; n - 33 where the padding is bad
unfoldable pub held : List ℕ → ℕ
held d = cond (good_pad d) (length d - (mac_len + 1) - last_byte d) (length d - (mac_len + 1))

unfoldable pub text_in : List ℕ → List ℕ
text_in d = take (held d) d

unfoldable pub mac_in : List ℕ → List ℕ
mac_in d = take mac_len (drop (held d) d)

-- good padding and the right MAC
unfoldable pub accepts : (List ℕ → List ℕ) → List ℕ → Bool
accepts tag d = good_pad d && agree (mac_in d) (tag (text_in d))
