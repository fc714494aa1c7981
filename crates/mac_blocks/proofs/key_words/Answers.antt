-- `mac_blocks::key_words` meets its contract: the key laid over zeros is K'. Assumes nothing.
use mathlib.Core.List.{List, ◌++◌}
use mathlib.Core.Path.{◌≡◌, sym, ap, ◌∙◌}
use Prim.Native.Nat.{ℕ}
use borrow.Author.Rules.{rules}
use lib.ListN.{length, replicate}
use Rattle.words.specs.Lists.{xor_each}
use Rattle.sm3_compress.specs.Standard.{CF}
use Rattle.sm3.specs.Standard.{IV, SM3}
use Rattle.hmac.proofs.Mac.{key-32}
use Rattle.mac_blocks.proofs.key_words.Goals as goal

pub returns : goal.returns
returns c =
    let a = c.args in
    let k : List ℕ = a.mac_key in
    let size : length k ≡ 32 = search rules in
    let laid = ap (λ (l : List ℕ). l ++ replicate 32 0) c.copy_from_slice.ensures.after ∙ sym (key-32 SM3 k size) in
    c.compress.ensures ∙ ap (CF IV) (c.xor_pad.ensures ∙ ap (λ (l : List ℕ). xor_each l (replicate 64 a.pad)) laid)
