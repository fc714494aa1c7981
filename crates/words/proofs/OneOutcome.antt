-- The promises of copy_at and fill_at leave one outcome. Assumes nothing.
use Rattle.std.proofs.Common.{◌≡◌, ℕ, List, sym, ◌∙◌}
use Rattle.words.specs.Promise.{Copied, Filled}

-- a copy leaves one output
pub Copied-one_outcome : {out : List ℕ} {at : ℕ} {src x y : List ℕ} → Copied out at src x → Copied out at src y → x ≡ y
Copied-one_outcome p q = p.output ∙ sym q.output

-- a fill leaves one output
pub Filled-one_outcome : {out : List ℕ} {at count byte : ℕ} {x y : List ℕ}
    → Filled out at count byte x → Filled out at count byte y → x ≡ y
Filled-one_outcome p q = p.output ∙ sym q.output
