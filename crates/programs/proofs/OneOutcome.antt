-- The promise of spread leaves one outcome. Assumes nothing.
use Rattle.std.proofs.Common.{◌≡◌, ℕ, List, sym, ◌∙◌}
use Rattle.programs.specs.Promise.{Spread}

-- `spread`
pub Spread-one_outcome : {step first : ℕ} {out x y : List ℕ} → Spread step first out x → Spread step first out y → x ≡ y
Spread-one_outcome p q = p.output ∙ sym q.output
