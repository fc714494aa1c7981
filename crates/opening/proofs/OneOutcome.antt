-- The promise of deprotect_cbc leaves one outcome. Assumes nothing.
use mathlib.Core.List.{List}
use mathlib.Core.Path.{◌≡◌, sym, ◌∙◌}
use Prim.Native.Nat.{ℕ}
use Rattle.record.specs.declared.RecordKeysCbc.{RecordKeysCbc}
use Rattle.opening.specs.declared.Opened.{Opened}
use Rattle.opening.specs.Promise.{Deprotected}

-- opening a record leaves one report and one output
pub Deprotected-one_outcome : {keys : RecordKeysCbc} {seq type : ℕ} {version r out : List ℕ} {a b : Opened} {x y : List ℕ}
    → Deprotected keys seq type version r out a x → Deprotected keys seq type version r out b y → (a ≡ b) × (x ≡ y)
Deprotected-one_outcome p q = (p.result ∙ sym q.result, p.output ∙ sym q.output)
