-- The kinds of place that k has among the m + B + 4 steps of a body of n bytes: which work step k does follows from it.
-- Assumes nothing.
use mathlib.Core.Bool.{Bool, true, false}
use mathlib.Core.Path.{◌≡◌, refl}
use Prim.Native.Nat.{ℕ, ◌+◌, ◌-◌, ◌<◌}
use native.Mathlib.Omega.{arith}
use borrow.Author.Tests.{ltb-true, ltb-false, eqb-true, eqb-false}
use lib.Dec.{eqb, ltb}
use Rattle.sizes.specs.Sizes.{blocks, mac_steps, total_steps}

-- the six kinds of place
pub data Place (n k : ℕ) : Type 0 where
  deciphers : k < blocks n → Place n k
  reads : k ≡ blocks n → Place n k
  hashes : (j : ℕ) → j < mac_steps n → k ≡ blocks n + 1 + j → Place n k
  pads : k ≡ blocks n + 1 + mac_steps n → Place n k
  ends : k ≡ blocks n + 2 + mac_steps n → Place n k
  answers : k ≡ blocks n + 3 + mac_steps n → Place n k

-- before step T every k has one
pub place : (n k : ℕ) → k < total_steps n → Place n k
unfolding total_steps
place n k h =
    by (ltb k (blocks n)) refl (eqb k (blocks n)) refl (ltb k (blocks n + 1 + mac_steps n)) refl
    (eqb k (blocks n + 1 + mac_steps n)) refl (eqb k (blocks n + 2 + mac_steps n)) refl
  where
    by : (a : Bool) → ltb k (blocks n) ≡ a → (b : Bool) → eqb k (blocks n) ≡ b → (c : Bool) → ltb k (blocks n + 1 + mac_steps n) ≡ c
        → (d : Bool) → eqb k (blocks n + 1 + mac_steps n) ≡ d → (e : Bool) → eqb k (blocks n + 2 + mac_steps n) ≡ e → Place n k
    by true ha b hb c hc d hd e he = deciphers (ltb-true k (blocks n) ha)
    by false ha true hb c hc d hd e he = reads (eqb-true k (blocks n) hb)
    by false ha false hb true hc d hd e he =
        let past : blocks n < k = omega (arith, ltb-false k (blocks n) ha, eqb-false k (blocks n) hb) in
        hashes (k - (blocks n + 1)) (omega (arith, ltb-true k (blocks n + 1 + mac_steps n) hc)) (omega arith)
    by false ha false hb false hc true hd e he = pads (eqb-true k (blocks n + 1 + mac_steps n) hd)
    by false ha false hb false hc false hd true he = ends (eqb-true k (blocks n + 2 + mac_steps n) he)
    by false ha false hb false hc false hd false he =
        answers (omega (arith, ltb-false k (blocks n + 1 + mac_steps n) hc, eqb-false k (blocks n + 1 + mac_steps n) hd, eqb-false k (blocks n + 2 + mac_steps n) he))
