-- Two outcomes that meet a promise of this crate are the same, since each is given by what was there at entry.
-- Assumes nothing.
use mathlib.Core.List.{List}
use mathlib.Core.Path.{◌≡◌, sym, ◌∙◌}
use Prim.Native.Nat.{ℕ}
use Rattle.sm3.specs.declared.Sm3.{Sm3}
use Rattle.sm3_lent.specs.Promise.{Started, Taken, Digested}

-- `start`
pub Started-one_outcome : (h₁ h₂ : Sm3) → Started h₁ → Started h₂ → h₁ ≡ h₂
Started-one_outcome h₁ h₂ p q = p.state ∙ sym q.state

-- `update`
pub Taken-one_outcome : (h : Sm3) (part : List ℕ) (a₁ a₂ : ℕ) (h₁ h₂ : Sm3) → Taken h part a₁ h₁ → Taken h part a₂ h₂
    → (a₁ ≡ a₂) × (h₁ ≡ h₂)
Taken-one_outcome h part a₁ a₂ h₁ h₂ p q = (p.result ∙ sym q.result, p.state ∙ sym q.state)

-- `finish`
pub Digested-one_outcome : (h : Sm3) (digest : List ℕ) (a₁ a₂ : ℕ) (d₁ d₂ : List ℕ) → Digested h digest a₁ d₁
    → Digested h digest a₂ d₂ → (a₁ ≡ a₂) × (d₁ ≡ d₂)
Digested-one_outcome h digest a₁ a₂ d₁ d₂ p q = (p.result ∙ sym q.result, p.output ∙ sym q.output)
