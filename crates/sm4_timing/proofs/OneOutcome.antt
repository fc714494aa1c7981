-- The promise admits one outcome. Assumes nothing.
use mathlib.Core.List.{List}
use mathlib.Core.Path.{◌≡◌, sym, ◌∙◌}
use Prim.Native.Nat.{ℕ}
use Rattle.sm4_timing.specs.Promise.{Timed}

-- `timing_sm4_cbc`
pub Timed-one_outcome : {key iv body x y : List ℕ} → Timed key iv body x → Timed key iv body y → x ≡ y
Timed-one_outcome p q = p.output ∙ sym q.output
