-- `Sm4Cipher::decrypt_block` meets its contract: the round keys in reverse. Assumes nothing.
use mathlib.Core.List.{List}
use mathlib.Core.Path.{ap, ◌∙◌}
use Prim.Native.Nat.{ℕ}
use Rattle.sm4.specs.Standard.{encrypt, decrypt}
use Rattle.sm4.proofs.Sm4Cipher.decrypt_block.Goals as goal

pub returns : goal.returns
unfolding decrypt
returns c = c.encrypt_block.ensures ∙ ap (λ (rks : List ℕ). encrypt rks c.args.block) c.reverse.ensures.after
