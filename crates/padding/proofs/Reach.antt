-- No padding reaches further back than 256 bytes, so a scan of so many, or of all, tells whether it is good. Assumes nothing.
use mathlib.Core.Bool.{Bool, true, false, cond, ◌&&◌}
use mathlib.Core.List.{List}
use mathlib.Core.Path.{◌≡◌, refl, sym, ap, ◌∙◌}
use Prim.Native.Nat.{ℕ, ◌+◌, ◌-◌, ◌≤◌, ◌<◌, min}
use native.Mathlib.Omega.{arith}
use borrow.Author.Tests.{leb-true, ltb-true, lt-ltb, eqb-true, eq-eqb}
use lib.Dec.{eqb, ltb}
use lib.ListN.{length, get_or}
use Rattle.words.specs.Word.{◌⊕◌}
use Rattle.words.proofs.Lists.{cond_is}
use Rattle.words.proofs.Xor.{⊕_self, ⊕-eq}
use Rattle.record.specs.Opened.{last_byte, pad_fits, good_pad}
use Rattle.record.proofs.Accepts.{good_by_index}
use Rattle.padding.proofs.Gather.{Gathers}

-- what the byte i places before the last differs from p by; 0 where a padding of p does not reach it
abbrev pub pad_diff : List ℕ → ℕ → ℕ → ℕ
pad_diff d p i = cond (ltb i (p + 1)) (get_or d (length d - 1 - i) 0 ⊕ p) 0

-- two tests that say the same are one
same_test : (s t : Bool) → (s ≡ true → t ≡ true) → (t ≡ true → s ≡ true) → s ≡ t
same_test true t f g = sym (f refl)
same_test false true f g = g refl
same_test false false f g = refl

-- a padding is good if it fits and no difference is gathered
pub good_by_scan : (d : List ℕ) (p bad : ℕ) → p ≡ last_byte d → p < 256 → Gathers (pad_diff d p) (min 256 (length d)) bad
    → good_pad d ≡ (pad_fits d && eqb bad 0)
unfolding good_pad pad_fits
good_by_scan d p bad last small g = by (pad_fits d) refl
  where
    none : ((i : ℕ) → length d - (last_byte d + 1) ≤ i → i < length d → get_or d i 0 ≡ last_byte d)
        → (i : ℕ) → i < min 256 (length d) → pad_diff d p i ≡ 0
    none h i b =
        sym (cond_is (ltb i (p + 1))
        (λ t.
        let e = h (length d - 1 - i) (omega (arith, ltb-true i (p + 1) t)) (omega arith) in
        sym (ap (λ (x : ℕ). x ⊕ p) (e ∙ sym last) ∙ ⊕_self p))
        (λ f. refl))

    each : p + 1 ≤ length d - 32 → ((i : ℕ) → i < min 256 (length d) → pad_diff d p i ≡ 0)
        → (i : ℕ) → length d - (last_byte d + 1) ≤ i → i < length d → get_or d i 0 ≡ last_byte d
    each fits h i b c =
        let j : ℕ = length d - 1 - i in
        let n : length d - 1 - j ≡ i = omega arith in
        let y : pad_diff d p j ≡ 0 = h j (omega arith) in
        ⊕-eq (get_or d i 0) p (rw (lt-ltb j (p + 1) (omega arith), n) at y) ∙ last

    by : (t : Bool) → pad_fits d ≡ t → good_pad d ≡ (t && eqb bad 0)
    by false e = rw e
    by true e =
        let fits : last_byte d + 1 ≤ length d - 32 = leb-true (last_byte d + 1) (length d - 32) e in
        same_test (good_pad d) (eqb bad 0) (λ k. eq-eqb bad 0 (g.1 (none ((good_by_index d).0 k).1)))
        (λ z. (good_by_index d).1 (fits, each (omega arith) (g.0 (eqb-true bad 0 z))))
