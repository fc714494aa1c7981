-- A digest of HMAC-SM3 has 32 bytes; and the PRF where nothing is asked for. Assumes nothing.
use mathlib.Core.List.{List, ◌++◌}
use mathlib.Core.Path.{◌≡◌, sym, ap, ◌∙◌}
use Prim.Native.Nat.{ℕ, ◌≤◌}
use native.Mathlib.Omega.{arith}
use lib.ListN.{length}
use lib.Seq.{take_all}
use Rattle.words.specs.Lists.{xor_each}
use Rattle.sm3.proofs.Standard.{length-SM3}
use Rattle.sm3.specs.Standard.{SM3}
use Rattle.hmac.specs.Rfc2104.{ipad, opad, K', HMAC}
use Rattle.key_schedule.specs.Standard.{P_hash, PRF}

-- a digest of HMAC-SM3
pub length-HMAC : (secret x : List ℕ) → length (HMAC SM3 secret x) ≡ 32
unfolding HMAC
length-HMAC secret x = length-SM3 (xor_each (K' SM3 secret) opad ++ SM3 (xor_each (K' SM3 secret) ipad ++ x))

-- nothing is asked for
pub PRF-none : (secret label seed out : List ℕ) → length out ≤ 0 → out ≡ PRF secret label seed (length out)
unfolding PRF P_hash
PRF-none secret label seed out h =
    let e : 0 ≡ length out = omega arith in
    sym (take_all 0 out h) ∙ ap (PRF secret label seed) e
