-- The promises of encipher_cbc and decipher_block_cbc leave one outcome. Assumes nothing.
use mathlib.Core.List.{List}
use mathlib.Core.Path.{◌≡◌, sym, ◌∙◌}
use Prim.Native.Nat.{ℕ}
use Rattle.sm4.specs.declared.Sm4Cipher.{Sm4Cipher}
use Rattle.cbc.specs.Promise.{Enciphered, Deciphered}

-- enciphering leaves one body
pub Enciphered-one_outcome : {cipher : Sm4Cipher} {iv body x y : List ℕ}
    → Enciphered cipher iv body x → Enciphered cipher iv body y → x ≡ y
Enciphered-one_outcome p q = p.output ∙ sym q.output

-- deciphering a block leaves one output
pub Deciphered-one_outcome : {cipher : Sm4Cipher} {r : List ℕ} {k : ℕ} {out x y : List ℕ}
    → Deciphered cipher r k out x → Deciphered cipher r k out y → x ≡ y
Deciphered-one_outcome p q = p.output ∙ sym q.output
