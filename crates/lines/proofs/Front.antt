-- What stands before the first newline is the input's front. Assumes nothing.
use mathlib.Core.Bool.{Bool, true, false, cond}
use mathlib.Core.List.{List, [], ◌∷◌}
use mathlib.Core.Path.{◌≡◌, refl, ap}
use Prim.Native.Nat.{ℕ, ◌≤◌}
use native.Mathlib.Omega.{arith}
use lib.Dec.{eqb}
use lib.ListN.{length, take}
use Rattle.lines.specs.Input.{NEWLINE, front}

-- as many bytes of the input as stand before its first newline
pub take-front : (l : List ℕ) → take (length (front l)) l ≡ front l
unfolding front
take-front [] = refl
take-front (b ∷ l) = by (eqb b NEWLINE) (take-front l)
  where
    by : (t : Bool) → take (length (front l)) l ≡ front l
        → take (length (cond t [] (b ∷ front l))) (b ∷ l) ≡ cond t [] (b ∷ front l)
    by true e = refl
    by false e = ap (λ (k : List ℕ). b ∷ k) e

-- no more than there are
pub front-short : (l : List ℕ) → length (front l) ≤ length l
unfolding front
front-short [] = omega arith
front-short (b ∷ l) = by (eqb b NEWLINE) (front-short l)
  where
    by : (t : Bool) → length (front l) ≤ length l → length (cond t [] (b ∷ front l)) ≤ length (b ∷ l)
    by true h = omega arith
    by false h = omega arith

-- what the proofs of steps cite
pub ruleset advancing = (take-front, front-short)
