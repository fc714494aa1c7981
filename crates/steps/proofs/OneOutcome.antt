-- A step's promise admits one outcome. Assumes nothing.
use mathlib.Core.List.{List}
use mathlib.Core.Path.{◌≡◌, sym, ◌∙◌}
use Prim.Native.Nat.{ℕ}
use Rattle.steps.specs.declared.OpeningCbc.{OpeningCbc}
use Rattle.steps.specs.declared.Stepped.{Stepped}
use Rattle.steps.specs.Promise.{Step}

-- `step_cbc`
pub Step-one_outcome : {s : OpeningCbc} {r out x y : List ℕ} {u w : Stepped} → Step s r out u x → Step s r out w y → (u ≡ w) × (x ≡ y)
Step-one_outcome p q = (p.result ∙ sym q.result, p.output ∙ sym q.output)
