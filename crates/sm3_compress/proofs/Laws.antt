-- What word j of the standard's expansion looks at. Assumes nothing.
use mathlib.Core.Path.{◌≡◌}
use mathlib.Core.List.{List}
use Prim.Native.Nat.{ℕ, ◌-◌, ◌≤◌, ◌<◌}
use native.Mathlib.Omega.{arith}
use lib.ListN.{length, take}
use lib.Seq.{get_or-take, length-take-le}
use Rattle.sm3_compress.specs.Standard.{at, recurrence, next_w}

-- word j of the expansion looks only at words before it
pub next-take : (a : List ℕ) (j : ℕ) → 16 ≤ j → j ≤ length a → recurrence a j ≡ next_w (take j a)
unfolding next_w recurrence
next-take a j h k =
    simp (
      length-take-le j a k,
      back 16 (omega arith),
      back 9 (omega arith),
      back 3 (omega arith),
      back 13 (omega arith),
      back 6 (omega arith),
    )
  where
    back : (d : ℕ) → 0 < d → at (take j a) (j - d) ≡ at a (j - d)
    back d p = get_or-take j a (j - d) 0 (omega arith)
