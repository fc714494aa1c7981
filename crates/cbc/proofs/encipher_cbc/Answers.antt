-- `cbc::encipher_cbc` meets its contract. The loop's invariant: the first k blocks are enciphered, the rest is as
-- found, and prev is what the next block is put on; the measure is how many blocks are left. Assumes nothing.
use mathlib.Core.List.{List}
use mathlib.Core.Path.{ap, ◌∙◌}
use Prim.Native.Nat.{ℕ}
use native.Mathlib.Omega.{arith}
use Rattle.words.specs.Lists.{xor_each}
use Rattle.sm4.specs.Standard.{encrypt}
use Rattle.sm4.proofs.Inverse.{encrypt-block}
use Rattle.cbc.proofs.Turn.{done_none, done_more, done_all}
use Rattle.cbc.proofs.encipher_cbc.Goals as goal

pub loop-k-init : goal.loop-k-init
loop-k-init c = done_none _ _ _

pub loop-k-preserved : goal.loop-k-preserved
loop-k-preserved c =
    let rks : List ℕ = c.args.cipher.round_keys in
    let mixed = c.xor_blocks.ensures ∙ ap (xor_each c.loop-k.prev) c.block_at-plain.ensures in
    rw c.copy_at.ensures.output
    (done_more (λ b. (encrypt-block rks b).size) c.loop-k.invariant _ (omega arith)
    (c.encrypt_block-next.ensures ∙ ap (encrypt rks) mixed))

pub returns : goal.returns
returns c =
    let rks : List ℕ = c.args.cipher.round_keys in
    record { output = done_all (λ b. (encrypt-block rks b).size) c.loop-k.invariant (omega arith) }
