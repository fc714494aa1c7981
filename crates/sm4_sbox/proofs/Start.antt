-- A pass over the code's two tables: the first is the S-box, and the second counts, by one test that computes.
-- Assumes nothing.
use mathlib.Core.Path.{refl}
use Prim.Native.Nat.{ℕ}
use lib.Dec.{lit≤}
use Rattle.sm4_sbox.specs.declared.TheConstants.{S_BOX, COUNT}
use Rattle.sm4_sbox.specs.Standard.{sbox_table, Sbox}
use Rattle.sm4_sbox.proofs.Counts.{own, counts}
use Rattle.sm4_sbox.proofs.Pass.{Passing, passing_all}

-- before the first turn
pub passing_start : (x : ℕ) → Passing S_BOX COUNT x 0
unfolding own Sbox sbox_table
passing_start x = passing_all S_BOX COUNT x (lit≤ tt) (lit≤ tt) (counts COUNT tt (lit≤ tt)) refl
