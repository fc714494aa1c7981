-- `border::noustrel_sm4_encrypt_block` meets its contract: a block laid over room for just it is all there is. Assumes nothing.
use mathlib.Core.Path.{◌≡◌, sym, ◌∙◌}
use native.Mathlib.Omega.{arith}
use borrow.Author.Rules.{rules}
use lib.ListN.{length}
use Rattle.sm4.specs.Standard.{cipher_of}
use Rattle.border.specs.Border.{block_size, answer_for}
use Rattle.border.proofs.Blocks.{failed, passed, laid}
use Rattle.border.proofs.noustrel_sm4_encrypt_block.Goals as goal

pub returns-then-not-block_sizes : goal.returns-then-not-block_sizes
unfolding answer_for
returns-then-not-block_sizes c = let w = failed _ _ _ c.block_sizes.ensures c.if-not-block_sizes.true in record { result = rw (w, c.number.ensures); output = rw w }

pub returns : goal.returns
unfolding answer_for cipher_of
returns c =
    let s = passed _ _ _ c.block_sizes.ensures c.if-not-block_sizes.false in
    record {
      result = rw s.sizes;
      output =
          laid s
          (c.copy_from_slice.ensures.after ∙ rw (
            c.encrypt_block.ensures,
            c.array-2.ensures,
            c.new-cipher.ensures,
            c.array.ensures,
          ));
    }

pub array-requires : goal.array-requires
array-requires c =
    (omega arith, (passed _ _ _ c.block_sizes.ensures c.if-not-block_sizes.false).long.0)

pub array-requires-2 : goal.array-requires-2
array-requires-2 c =
    (omega arith, (passed _ _ _ c.block_sizes.ensures c.if-not-block_sizes.false).long.1)

pub copy_from_slice-requires : goal.copy_from_slice-requires
copy_from_slice-requires c =
    let n : length c.encrypt_block.result ≡ block_size = search rules in
    (passed _ _ _ c.block_sizes.ensures c.if-not-block_sizes.false).long.2 ∙ sym n
