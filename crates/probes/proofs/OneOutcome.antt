-- The promise admits one outcome, since it is given by what was there at entry. Assumes nothing.
use mathlib.Core.List.{List}
use mathlib.Core.Path.{◌≡◌, sym, ◌∙◌}
use Prim.Native.Nat.{ℕ}
use Rattle.probes.specs.Promise.{MacedParts}

-- `probe_hmac_parts`
pub MacedParts-one_outcome : {key first second third out : List ℕ} {a b : ℕ} {x y : List ℕ}
    → MacedParts key first second third out a x → MacedParts key first second third out b y → (a ≡ b) × (x ≡ y)
MacedParts-one_outcome p q = (p.result ∙ sym q.result, p.output ∙ sym q.output)
