-- `border::halves_sizes` meets its contract: the key block's size, then the client's keys', then the server's. Assumes nothing.
use borrow.Author.Tests.{eq-eqb, ne_eqb}
use lib.ListN.{length}
use Rattle.record.specs.Limits.{cbc_key_block_len}
use Rattle.border.specs.Border.{has, halves_sizes}
use Rattle.border.proofs.halves_sizes.Goals as goal

pub returns-then-key_sizes : goal.returns-then-key_sizes
unfolding halves_sizes has
returns-then-key_sizes c =
    rw (
      eq-eqb (length c.args.key_block.now) cbc_key_block_len c.if-key_block-eq-CBC_KEY_BLOCK_LEN.true,
      ← c.key_sizes.ensures,
      c.if-key_sizes.true,
    )
    c.key_sizes-then-key_sizes.ensures

pub returns-else-key_sizes : goal.returns-else-key_sizes
unfolding halves_sizes has
returns-else-key_sizes c =
    rw (
      eq-eqb (length c.args.key_block.now) cbc_key_block_len c.if-key_block-eq-CBC_KEY_BLOCK_LEN.true,
      ← c.key_sizes.ensures,
      c.if-key_sizes.false,
    )

pub returns-else-key_block-eq-CBC_KEY_BLOCK_LEN : goal.returns-else-key_block-eq-CBC_KEY_BLOCK_LEN
unfolding halves_sizes has
returns-else-key_block-eq-CBC_KEY_BLOCK_LEN c =
    rw (ne_eqb (length c.args.key_block.now) cbc_key_block_len c.if-key_block-eq-CBC_KEY_BLOCK_LEN.false)
