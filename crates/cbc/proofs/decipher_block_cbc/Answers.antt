-- `cbc::decipher_block_cbc` meets its contract, by the cases of its two tests. Assumes nothing.
use mathlib.Core.List.{List}
use mathlib.Core.Path.{◌≡◌, sym, ap, ap₂, ◌∙◌}
use Prim.Native.Nat.{ℕ, suc, ◌+◌, ◌*◌}
use native.Mathlib.Omega.{arith}
use lib.ListN.{take, drop}
use Rattle.words.specs.Lists.{put, xor_each}
use Rattle.sm4.specs.Standard.{decrypt}
use Rattle.cbc.specs.Cbc.{plain}
use Rattle.cbc.proofs.Deciphered.{deciphered-block, deciphered_no_room, deciphered_no_block}
use Rattle.cbc.proofs.decipher_block_cbc.Goals as goal
use Rattle.cbc.proofs.decipher_block_cbc.Goals.{else-k-out-via-then-k-out+else-k-record, else-k-out-via-else-k-out}

pub returns-then-k-record : goal.returns-then-k-record
unfolding plain
returns-then-k-record c =
    let a = c.args in
    let D = decrypt a.cipher.round_keys in
    let r : List ℕ = a.«record».now in
    let n : a.k * 16 + 16 ≡ suc a.k * 16 = omega arith in
    let here = c.decrypt_block-opened.ensures
    ∙ ap D (c.block_at.ensures ∙ ap (λ (i : ℕ). take 16 (drop i r)) n) in
    let is = c.xor_blocks.ensures ∙ ap₂ xor_each c.block_at-prev.ensures here in
    record {
      output = c.copy_at.ensures.output
          ∙ ap (λ (p : List ℕ). put (a.k * 16) p a.out.now) is
          ∙ sym (deciphered-block D r a.k a.out.now (omega arith) (omega arith));
    }

pub returns-else-k-out : goal.returns-else-k-out
returns-else-k-out c =
    let a = c.args in
    let D = decrypt a.cipher.round_keys in
    record {
      output = sym (elim c.else-k-out.branch [
        | else-k-out-via-then-k-out+else-k-record w ↦ deciphered_no_block D a.«record».now a.k a.out.now (omega arith)
        | else-k-out-via-else-k-out w ↦ deciphered_no_room D a.«record».now a.k a.out.now (omega arith)
      ]);
    }
