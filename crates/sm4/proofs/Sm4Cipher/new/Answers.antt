-- `Sm4Cipher::new` meets its contract: the key expansion from the key's first words. Assumes nothing.
use Rattle.sm4.specs.Standard.{round_keys_of, cipher_of}
use Rattle.sm4.proofs.Sm4Cipher.new.Goals as goal

pub returns : goal.returns
unfolding cipher_of round_keys_of
returns c = rw (c.expand.ensures, c.key_start.ensures)
