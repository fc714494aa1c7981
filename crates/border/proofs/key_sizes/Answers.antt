-- `border::key_sizes` meets its contract: the two tests of the definition, in its order. Assumes nothing.
use borrow.Author.Tests.{eq-eqb, ne_eqb}
use lib.ListN.{length}
use Rattle.record.specs.Limits.{mac_len}
use Rattle.border.specs.Border.{has, key_sizes}
use Rattle.border.proofs.key_sizes.Goals as goal

pub returns-then-mac_key-eq-MAC_LEN : goal.returns-then-mac_key-eq-MAC_LEN
unfolding key_sizes has
returns-then-mac_key-eq-MAC_LEN c = rw (eq-eqb (length c.args.mac_key.now) mac_len c.if-mac_key-eq-MAC_LEN.true)

pub returns-else-mac_key-eq-MAC_LEN : goal.returns-else-mac_key-eq-MAC_LEN
unfolding key_sizes has
returns-else-mac_key-eq-MAC_LEN c = rw (ne_eqb (length c.args.mac_key.now) mac_len c.if-mac_key-eq-MAC_LEN.false)
