-- Sealing's promise leaves one outcome: the report and the output; and what a result says in the scope's numbers and values, it
-- alone says. Assumes nothing.
use mathlib.Core.List.{List}
use mathlib.Core.Path.{◌≡◌, sym, ap, ◌∙◌}
use Prim.Native.Nat.{ℕ}
use Rattle.record.specs.declared.RecordKeysCbc.{RecordKeysCbc}
use Rattle.record.specs.KeyBlock.{Halved, half_by}
use Rattle.record.specs.Sealing.{Sealed, reported}
use Rattle.std.specs.Prelude.{Result, Ok, Err}
use Rattle.answers.specs.declared.Refusal.{Refusal}
use Rattle.answers.proofs.Numbers.{number-one, number-some}
use Rattle.record.specs.Promise.{Protected}

-- `protect_cbc`
pub Protected-one_outcome : {keys : RecordKeysCbc} {seq type : ℕ} {version iv text out x y : List ℕ} {r s : Sealed}
    → Protected keys seq type version iv text out r x → Protected keys seq type version iv text out s y → (r ≡ s) × (x ≡ y)
Protected-one_outcome p q = (p.result ∙ sym q.result, p.output ∙ sym q.output)

-- the report of sealing
pub reported-one_outcome : (r s : Result ℕ Refusal) → reported r ≡ reported s → r ≡ s
reported-one_outcome (Ok x) (Ok y) e = ap (λ (z : Sealed). Ok z.length) e
reported-one_outcome (Ok x) (Err why) e = absurd (number-some why (sym (ap (λ (z : Sealed). z.answer) e)))
reported-one_outcome (Err why) (Ok y) e = absurd (number-some why (ap (λ (z : Sealed). z.answer) e))
reported-one_outcome (Err why) (Err other) e = ap Err (number-one why other (ap (λ (z : Sealed). z.answer) e))

-- the halves of a key block
pub half_by-one_outcome : (r s : Result RecordKeysCbc Refusal) → half_by r ≡ half_by s → r ≡ s
half_by-one_outcome (Ok x) (Ok y) e = ap (λ (h : Halved). Ok h.keys) e
half_by-one_outcome (Ok x) (Err why) e = absurd (number-some why (sym (ap (λ (h : Halved). h.answer) e)))
half_by-one_outcome (Err why) (Ok y) e = absurd (number-some why (ap (λ (h : Halved). h.answer) e))
half_by-one_outcome (Err why) (Err other) e = ap Err (number-one why other (ap (λ (h : Halved). h.answer) e))
