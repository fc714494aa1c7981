-- Each promise leaves one outcome: the result and the output. Assumes nothing.
use mathlib.Core.List.{List}
use mathlib.Core.Path.{◌≡◌, sym, ◌∙◌}
use Prim.Native.Nat.{ℕ}
use Rattle.std.specs.Prelude.{Result}
use Rattle.answers.specs.declared.Refusal.{Refusal}
use Rattle.lines.specs.Promise.{JudgedPut, ChunkTold, LastTold}
use Rattle.lines.specs.declared.Judged.{Judged}
use Rattle.lines.specs.declared.Line.{Line}
use Rattle.lines.specs.declared.Told.{Told}

-- `put_judged`
pub JudgedPut-one_outcome : {judged : Judged} {out x y : List ℕ} {at a b : ℕ}
    → JudgedPut judged out at a x → JudgedPut judged out at b y → (a ≡ b) × (x ≡ y)
JudgedPut-one_outcome p q = (p.result ∙ sym q.result, p.output ∙ sym q.output)

-- `tell`
pub ChunkTold-one_outcome : {line : Line} {chunk out x y : List ℕ} {a b : Result Told Refusal}
    → ChunkTold line chunk out a x → ChunkTold line chunk out b y → (a ≡ b) × (x ≡ y)
ChunkTold-one_outcome p q = (p.result ∙ sym q.result, p.output ∙ sym q.output)

-- `tell_last`
pub LastTold-one_outcome : {line : Line} {out x y : List ℕ} {a b : Result Told Refusal}
    → LastTold line out a x → LastTold line out b y → (a ≡ b) × (x ≡ y)
LastTold-one_outcome p q = (p.result ∙ sym q.result, p.output ∙ sym q.output)
