-- The key's block: 64 bytes, zeros behind the key. Assumes nothing.
use mathlib.Core.Bool.{Bool, true, false, cond}
use mathlib.Core.List.{List}
use mathlib.Core.Path.{◌≡◌, refl, ◌∙◌}
use Prim.Native.Nat.{ℕ, ◌-◌, ◌≤◌}
use native.Mathlib.Omega.{arith}
use borrow.Author.Tests.{ltb-false}
use lib.Dec.{ltb}
use lib.ListN.{length, replicate, length-append, length-replicate}
use Rattle.words.proofs.Lists.{length-xor_each}
use Rattle.words.specs.Lists.{xor_each}
use Rattle.hmac.specs.Rfc2104.{extended, K'}

-- zeros up to a block
length-extended : (x : List ℕ) → length x ≤ 64 → length (extended x) ≡ 64
unfolding extended
length-extended x h = length-append x (replicate (64 - length x) 0) ∙ omega (arith, length-replicate {A = ℕ} (64 - length x) 0)

-- K' is a block, for any hash with digests that fit one
pub length-K' : (h : List ℕ → List ℕ) (K : List ℕ) → length (h K) ≤ 64 → length (K' h K) ≡ 64
unfolding K'
length-K' h K e = by (ltb 64 (length K)) refl
  where
    by : (t : Bool) → ltb 64 (length K) ≡ t → length (extended (cond t (h K) K)) ≡ 64
    by true k = length-extended (h K) e
    by false k = length-extended K (ltb-false 64 (length K) k)

-- and so it is with a pad on it
pub length-padded : (h : List ℕ → List ℕ) (K : List ℕ) (pad : ℕ) → length (h K) ≤ 64 → length (xor_each (K' h K) (replicate 64 pad)) ≡ 64
length-padded h K pad e = length-xor_each (K' h K) (replicate 64 pad) (length-K' h K e)
