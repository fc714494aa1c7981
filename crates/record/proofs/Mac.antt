-- The record's MAC, of the header and the text as two parts. Assumes nothing.
use mathlib.Core.List.{List, [], ◌∷◌, ◌++◌, append-nil}
use mathlib.Core.Path.{◌≡◌, ap, ◌∙◌}
use Prim.Native.Nat.{ℕ, ◌≤◌}
use native.Mathlib.Omega.{arith}
use lib.ListN.{length, length-append}
use Rattle.sm3.specs.State.{Digest}
use Rattle.sm3.specs.Cutting.{joined}
use Rattle.sm3.specs.Standard.{SM3}
use Rattle.hmac.specs.Rfc2104.{HMAC}
use Rattle.hmac.specs.State.{mac}
use Rattle.hmac.proofs.Mac.{mac-standard}
use Rattle.record.specs.Limits.{max_plaintext}

-- no count wraps on so little
pub mac_of_two : (key a text : List ℕ) → length key ≡ 32 → length a ≡ 13 → length text ≤ max_plaintext
    → (mac key (joined (a ∷ text ∷ []))).bytes ≡ HMAC SM3 key (a ++ text)
unfolding joined
mac_of_two key a text k h n =
    ap (λ (x : List ℕ). (mac key (a ++ x)).bytes) (append-nil text)
    ∙ ap (λ (d : Digest). d.bytes) (mac-standard key (a ++ text) (omega arith) (rw (length-append a text) (omega arith)))
