-- The promise of clear_from_ct leaves one outcome. Assumes nothing.
use mathlib.Core.List.{List}
use mathlib.Core.Path.{◌≡◌, sym, ◌∙◌}
use Prim.Native.Nat.{ℕ}
use Rattle.verdict.specs.Promise.{Cleared}

-- a clearing leaves one output
pub Cleared-one_outcome : {body : List ℕ} {keep : ℕ} {x y : List ℕ} → Cleared body keep x → Cleared body keep y → x ≡ y
Cleared-one_outcome p q = p.output ∙ sym q.output
