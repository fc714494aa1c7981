-- The promise admits one outcome, since it is given by what was there at entry. Assumes nothing.
use mathlib.Core.List.{List}
use mathlib.Core.Path.{◌≡◌, sym, ◌∙◌}
use Prim.Native.Nat.{ℕ}
use Rattle.protocol.specs.Promise.{Decoded}

-- `decode`
pub Decoded-one_outcome : {line : List ℕ} {k : ℕ} {out : List ℕ} {n m : ℕ} {x y : List ℕ}
    → Decoded line k out n x → Decoded line k out m y → (n ≡ m) × (x ≡ y)
Decoded-one_outcome p q = (p.result ∙ sym q.result, p.output ∙ sym q.output)
