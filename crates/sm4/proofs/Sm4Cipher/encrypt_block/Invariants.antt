-- `Sm4Cipher::encrypt_block` meets its contract. The loop's invariant: the rounds still to come from x are all rounds
-- from the first words. Assumes nothing.
use mathlib.Core.Path.{◌≡◌}
use lib.ListN.{drop}
use Rattle.sm4.specs.Standard.{rounds}
use Rattle.sm4.proofs.Sm4Cipher.encrypt_block.Given as goal

abbrev pub invariant-loop-rk : goal.invariant-loop-rk
invariant-loop-rk l = rounds l.x (drop l.rk-index l.rk-items) ≡ rounds l.initial.x l.rk-items
