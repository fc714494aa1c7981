-- The promises leave one outcome. Assumes nothing.
use Rattle.std.proofs.Common.{◌≡◌, ℕ, List, sym, ◌∙◌}
use Rattle.made_records.specs.Promise.{Laid, Closed}

-- `lay_body`
pub Laid-one_outcome : {L p : ℕ} {r x y : List ℕ} → Laid L p r x → Laid L p r y → x ≡ y
Laid-one_outcome p q = p.output ∙ sym q.output

-- `close`
pub Closed-one_outcome : {r x y : List ℕ} → Closed r x → Closed r y → x ≡ y
Closed-one_outcome p q = p.output ∙ sym q.output
