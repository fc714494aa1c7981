-- A table in which each number below 256 stands at its own place, by one test that computes. Assumes nothing.
use mathlib.Core.Bool.{Bool}
use mathlib.Core.List.{List}
use Prim.Native.Nat.{ℕ, ◌≤◌}
use native.Mathlib.Omega.{arith}
use lib.Dec.{T, eqb, eqb→eq}
use lib.ListN.{length, get_or}
use Rattle.sm4_sbox.specs.Pass.{Counts}
use Rattle.sm4_sbox.proofs.Table.{every, at_entry}

-- the number at place k is k
unfoldable pub own : ℕ → ℕ → Bool
own k x = eqb x k

-- a table that passes the test counts
pub counts : (l : List ℕ) → T (every own 0 l) → 256 ≤ length l → Counts l
unfolding own
counts l t h = record { place = λ i b. eqb→eq (get_or l i 0) i (at_entry own l t i (omega arith)) }
