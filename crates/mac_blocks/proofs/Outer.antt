-- The outer hash's last block: the inner digest, and the ending of 96 bytes behind it. Assumes nothing.
use mathlib.Core.List.{List, ◌∷◌, ◌++◌, append_assoc}
use mathlib.Core.Path.{◌≡◌, ap, ◌∙◌}
use Prim.Native.Nat.{ℕ, ◌+◌}
use native.Mathlib.Omega.{arith}
use lib.ListN.{length, set, take, drop, replicate, length-append}
use lib.Seq.{set_at, take-append-add}
use Rattle.words.proofs.Puts.{put_back}
use Rattle.sm3.specs.Standard.{zeros, count, ending}
use Rattle.sm3.proofs.Ending.{length-count, put-counted}

-- the digest with zeros behind it, 0x80 in the first of them, and the count over the last 8
pub digest_ended : (x : List ℕ) → length x ≡ 32
    → let b = set (x ++ replicate 32 0) 32 0x80 in take 56 b ++ (count 96 ++ drop 8 (drop 56 b)) ≡ x ++ ending 96 96
unfolding ending zeros
digest_ended x e =
    let b : List ℕ = x ++ (0x80 ∷ replicate 31 0) in
    let marked : set (x ++ replicate 32 0) 32 0x80 ≡ b = set_at x 0 (replicate 31 0) 0x80 32 e in
    let size : length b ≡ 64 = length-append x (0x80 ∷ replicate 31 0) ∙ omega arith in
    let n : 56 ≡ length x + 24 = omega arith in
    rw marked (put_back 56 8 (count 96) b (length-count 96) (omega arith)
    ∙ put-counted b 96 size
    ∙ ap (λ (k : ℕ). take k b ++ count 96) n
    ∙ ap (λ (l : List ℕ). l ++ count 96) (take-append-add x (0x80 ∷ replicate 31 0) 24)
    ∙ append_assoc x (0x80 ∷ replicate 23 0) (count 96))
