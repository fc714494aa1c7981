-- `HmacSm3::new` meets its contract: each hash has taken in the key's block with its pad. Assumes nothing.
use Rattle.hmac.specs.State.{started}
use Rattle.hmac.proofs.HmacSm3.new.Goals as goal

pub returns : goal.returns
unfolding started
returns c =
    rw (
      c.with_block-2.ensures,
      c.xor_pad-2.ensures,
      c.with_block.ensures,
      c.xor_pad.ensures,
      c.k_prime-k.ensures,
    )
