-- The promise of seal_and_open leaves one outcome: the report and both buffers. Assumes nothing.
use mathlib.Core.List.{List}
use mathlib.Core.Path.{◌≡◌, sym, ◌∙◌}
use Prim.Native.Nat.{ℕ}
use Rattle.record.specs.declared.RecordKeysCbc.{RecordKeysCbc}
use Rattle.opening.specs.declared.Opened.{Opened}
use Rattle.there_and_back.specs.Promise.{ThereAndBack}

-- `seal_and_open`
pub ThereAndBack-one_outcome : {keys : RecordKeysCbc} {seq type : ℕ} {version iv text r out : List ℕ} {a b : Opened} {x y u w : List ℕ}
    → ThereAndBack keys seq type version iv text r out a x u → ThereAndBack keys seq type version iv text r out b y w
    → (a ≡ b) × (x ≡ y) × (u ≡ w)
ThereAndBack-one_outcome p q = (p.result ∙ sym q.result, p.sealed ∙ sym q.sealed, p.output ∙ sym q.output)
