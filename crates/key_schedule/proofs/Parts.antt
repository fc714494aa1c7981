-- HMAC-SM3 of few bytes, and of parts that the running MAC takes one after the other. Assumes nothing.
use mathlib.Core.List.{List, [], ◌∷◌, ◌++◌, append-nil}
use mathlib.Core.Path.{◌≡◌, ap, ◌∙◌}
use Prim.Native.Nat.{ℕ, ◌≤◌}
use native.Mathlib.Omega.{arith}
use lib.ListN.{length, length-append}
use Rattle.sm3.specs.Cutting.{joined}
use Rattle.sm3.specs.State.{Digest}
use Rattle.sm3.specs.Standard.{SM3}
use Rattle.hmac.proofs.Mac.{mac-standard}
use Rattle.hmac.specs.Rfc2104.{HMAC}
use Rattle.hmac.specs.State.{mac}
use Rattle.key_schedule.specs.Sizes.{Small}

-- no count wraps
pub few : (secret x : List ℕ) → length secret ≤ 64 → length x ≤ 256 → (mac secret x).bytes ≡ HMAC SM3 secret x
few secret x h k = ap (λ (d : Digest). d.bytes) (mac-standard secret x (omega arith) (omega arith))

-- four parts, end to end
pub parts : (secret a label first second : List ℕ) → Small secret label first second → length a ≤ 64
    → (mac secret (joined (a ∷ label ∷ first ∷ second ∷ []))).bytes ≡ HMAC SM3 secret (a ++ (label ++ (first ++ second)))
unfolding joined
parts secret a label first second h k =
    ap (λ (x : List ℕ). (mac secret (a ++ (label ++ (first ++ x)))).bytes) (append-nil second)
    ∙ few secret (a ++ (label ++ (first ++ second))) h.secret-small (simp length-append (omega arith))
