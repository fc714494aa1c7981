-- A number into which others are ORed one by one is 0 exactly if each of them is. Assumes nothing.
use mathlib.Core.Logic.{◌↔◌, ◌⊎◌, inl, inr}
use mathlib.Core.Path.{◌≡◌, ap, ◌∙◌}
use Prim.Native.Nat.{ℕ, ◌+◌, ◌≤◌, ◌<◌}
use native.Mathlib.Nat.{eq-or-lt_of_le}
use native.Mathlib.Omega.{arith}
use lib.Bits.{bit_or}
use Rattle.words.proofs.Xor.{or-zero}

-- d is 0 exactly if each of f 0, .., f (n - 1) is
abbrev pub Gathers : (ℕ → ℕ) → ℕ → ℕ → Type 0
Gathers f n d = (d ≡ 0) ↔ ((i : ℕ) → i < n → f i ≡ 0)

-- one more is gathered
pub gathers-more : (f : ℕ → ℕ) (n d : ℕ) → Gathers f n d → Gathers f (n + 1) (bit_or d (f n))
gathers-more f n d g = (
  λ e i b. let c : i ≤ n = omega arith in each (or-zero d (f n) e) i (eq-or-lt_of_le c),
  λ h. rw (g.1 (λ i b. h i (omega arith)), h n (omega arith)),
)
  where
    each : (d ≡ 0) × (f n ≡ 0) → (i : ℕ) → (i ≡ n) ⊎ (i < n) → f i ≡ 0
    each (e, k) i (inl j) = ap f j ∙ k
    each (e, k) i (inr j) = g.0 e i j
