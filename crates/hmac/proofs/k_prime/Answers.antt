-- `hmac::k_prime` meets its contract: the key, or its hash, laid over 64 zeros. Assumes nothing.
use mathlib.Core.List.{List, ◌++◌}
use mathlib.Core.Path.{ap, ◌∙◌}
use Prim.Native.Nat.{ℕ, ◌-◌, ◌≤◌, ◌<◌}
use native.Mathlib.Omega.{arith}
use borrow.Author.Tests.{lt-ltb, le-ltb}
use lib.ListN.{length, replicate}
use Rattle.words.proofs.Puts.{put-extended}
use Rattle.sm3.proofs.Standard.{length-hashed}
use Rattle.hmac.specs.Rfc2104.{extended, K'}
use Rattle.hmac.specs.State.{hash_bytes}
use Rattle.hmac.proofs.k_prime.Goals as goal

pub returns-then-key-gt-BLOCK_SIZE : goal.returns-then-key-gt-BLOCK_SIZE
unfolding K' extended hash_bytes
returns-then-key-gt-BLOCK_SIZE c =
    let key : List ℕ = c.args.key.now in
    let x = c.hash.result in
    let h = c.hash.ensures in
    let long : 64 < length key = omega arith in
    let small : length x ≤ 64 = omega (arith, ap length h, length-hashed key) in
    rw (lt-ltb 64 (length key) long)
    (c.copy_at.ensures.output ∙ put-extended x 64 small ∙ ap (λ (l : List ℕ). l ++ replicate (64 - length l) 0) h)

pub returns-else-key-gt-BLOCK_SIZE : goal.returns-else-key-gt-BLOCK_SIZE
unfolding K' extended
returns-else-key-gt-BLOCK_SIZE c =
    let key : List ℕ = c.args.key.now in
    let small : length key ≤ 64 = omega arith in
    rw (le-ltb 64 (length key) small)
    (c.copy_at-else-key-gt-BLOCK_SIZE.ensures.output ∙ put-extended key 64 small)
