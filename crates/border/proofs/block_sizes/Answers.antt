-- `border::block_sizes` meets its contract: the three tests of the definition, in its order. Assumes nothing.
use borrow.Author.Tests.{eq-eqb, ne_eqb}
use lib.ListN.{length}
use Rattle.border.specs.Border.{key_size, block_size, has, block_sizes}
use Rattle.border.proofs.block_sizes.Goals as goal

pub returns-then-block-eq-BLOCK_SIZE : goal.returns-then-block-eq-BLOCK_SIZE
unfolding block_sizes has
returns-then-block-eq-BLOCK_SIZE c =
    let a = c.args in
    rw (eq-eqb (length a.key.now) key_size c.if-key-eq-KEY_SIZE.true, eq-eqb (length a.block.now) block_size c.if-block-eq-BLOCK_SIZE.true)

pub returns-else-block-eq-BLOCK_SIZE : goal.returns-else-block-eq-BLOCK_SIZE
unfolding block_sizes has
returns-else-block-eq-BLOCK_SIZE c =
    let a = c.args in
    rw (eq-eqb (length a.key.now) key_size c.if-key-eq-KEY_SIZE.true, ne_eqb (length a.block.now) block_size c.if-block-eq-BLOCK_SIZE.false)

pub returns-else-key-eq-KEY_SIZE : goal.returns-else-key-eq-KEY_SIZE
unfolding block_sizes has
returns-else-key-eq-KEY_SIZE c = rw (ne_eqb (length c.args.key.now) key_size c.if-key-eq-KEY_SIZE.false)
