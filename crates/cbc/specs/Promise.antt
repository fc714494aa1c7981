-- What the functions that write a lent slice promise. Assumes nothing.
use Rattle.std.specs.Prelude.{List, ◌≡◌, ℕ}
use Rattle.sm4.specs.declared.Sm4Cipher.{Sm4Cipher}
use Rattle.sm4.specs.Standard.{encrypt, decrypt}
use Rattle.cbc.specs.Cbc.{enciphered, deciphered}

pub record Enciphered (cipher : Sm4Cipher) (iv body body' : List ℕ) : Type 0 where
  pub output : body' ≡ enciphered (encrypt cipher.round_keys) iv body

pub record Deciphered (cipher : Sm4Cipher) (r : List ℕ) (k : ℕ) (out out' : List ℕ) : Type 0 where
  pub output : out' ≡ deciphered (decrypt cipher.round_keys) r k out
