-- `sm4_timing::timing_sm4_cbc` meets its contract: each call by its equation. Assumes nothing.
use mathlib.Core.List.{List}
use mathlib.Core.Path.{ap, ap₂, ◌∙◌}
use Prim.Native.Nat.{ℕ}
use Rattle.sm4.specs.declared.Sm4Cipher.{Sm4Cipher}
use Rattle.sm4.specs.Standard.{encrypt, cipher_of}
use Rattle.cbc.specs.Cbc.{enciphered}
use Rattle.sm4_timing.proofs.timing_sm4_cbc.Goals as goal

pub returns : goal.returns
unfolding cipher_of
returns c =
    let body : List ℕ = c.args.body.now in
    let key = c.new-cipher.ensures ∙ ap cipher_of c.fit.ensures in
    let iv = c.fit-2.ensures in
    record {
      output = c.encipher_cbc.ensures.output
          ∙ ap₂ (λ (k : Sm4Cipher) (v : List ℕ). enciphered (encrypt k.round_keys) v body) key iv;
    }
