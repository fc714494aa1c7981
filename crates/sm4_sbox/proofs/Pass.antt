-- A pass over the S-box and the places of its entries, side by side, that adds each entry whose place is x: where the
-- places count, the sum is the entry at x. Assumes nothing.
use mathlib.Core.List.{List, [], ◌∷◌}
use mathlib.Core.Logic.{◌⊎◌, inl, inr}
use mathlib.Core.Path.{◌≡◌, refl, sym, ap, ◌∙◌}
use Prim.Native.Nat.{ℕ, zero, suc, ◌+◌, ◌<◌, ◌≤◌}
use native.Mathlib.Nat.{add-zero, zero-add}
use native.Mathlib.Omega.{arith}
use lib.Dec.{eqb}
use lib.ListN.{length, get_or}
use Rattle.std.proofs.lemmas.Bool.{ne_eqb, eq-eqb}
use Rattle.words.specs.Choice.{bit, chosen}
use Rattle.words.proofs.Choice.{chosen-bit}
use Rattle.sm4_sbox.specs.Pass.{Counts}
use Rattle.sm4_sbox.specs.Standard.{Sbox}
use Rattle.sm4_sbox.proofs.Once.{Sbox-byte}

-- what the pass adds
abbrev pub picked : List ℕ → List ℕ → ℕ → ℕ
picked [] places x = 0
picked (e ∷ entries) [] x = 0
picked (e ∷ entries) (k ∷ places) x = chosen (bit (eqb k x)) 0 e + picked entries places x

-- the number at place j is i + j
abbrev CountsFrom : ℕ → List ℕ → Type 0
CountsFrom i l = (j : ℕ) → j < length l → get_or l j 0 ≡ i + j

-- one behind the first place
behind : (i k : ℕ) (places : List ℕ) → CountsFrom i (k ∷ places) → CountsFrom (suc i) places
behind i k places c j h = c (suc j) (omega arith) ∙ omega arith

-- no pairs, nothing to add
picked-none : (entries places : List ℕ) (x : ℕ) → (length entries ≡ 0) ⊎ (length places ≡ 0) → picked entries places x ≡ 0
picked-none [] places x h = refl
picked-none (e ∷ entries) [] x h = refl
picked-none (e ∷ entries) (k ∷ places) x (inl h) = absurd (omega arith)
picked-none (e ∷ entries) (k ∷ places) x (inr h) = absurd (omega arith)

-- an entry at another place adds nothing
other : (k x e n : ℕ) → ¬ (k ≡ x) → chosen (bit (eqb k x)) 0 e + n ≡ n
other k x e n h = rw (ne_eqb k x h, chosen-bit) (zero-add n)

-- nothing is added where x is before the first place
picked-before : (i : ℕ) (entries places : List ℕ) (x : ℕ) → x < i → CountsFrom i places → picked entries places x ≡ 0
picked-before i [] places x h c = refl
picked-before i (e ∷ entries) [] x h c = refl
picked-before i (e ∷ entries) (k ∷ places) x h c =
    let first : k ≡ i + 0 = c 0 (omega arith) in
    other k x e (picked entries places x) (λ same. omega arith)
    ∙ picked-before (suc i) entries places x (omega arith) (behind i k places c)

-- the sum is the entry at x, counted from the first place
picked-from : (i : ℕ) (entries places : List ℕ) (x : ℕ) → length entries ≤ length places → CountsFrom i places
    → picked entries places (i + x) ≡ get_or entries x 0
picked-from i [] places x h c = refl
picked-from i (e ∷ entries) [] x h c = absurd (omega arith)
picked-from i (e ∷ entries) (k ∷ places) zero h c =
    let first : k ≡ i + 0 = c 0 (omega arith) in
    rw (eq-eqb k (i + 0) first, chosen-bit, picked-before (suc i) entries places (i + 0) (omega arith) (behind i k places c))
    (add-zero e)
picked-from i (e ∷ entries) (k ∷ places) (suc x) h c =
    let first : k ≡ i + 0 = c 0 (omega arith) in
    let next : i + suc x ≡ suc i + x = omega arith in
    other k (i + suc x) e (picked entries places (i + suc x)) (λ same. omega arith)
    ∙ ap (picked entries places) next
    ∙ picked-from (suc i) entries places x (omega arith) (behind i k places c)

-- r, and what is still to be added of the entries at the places, are the S-box at x
pub record Passing (entries places : List ℕ) (x r : ℕ) : Type 0 where
  pub all : r + picked entries places x ≡ Sbox x

-- before the first turn
pub passing_all : (entries places : List ℕ) (x : ℕ) → length entries ≤ length places → length places ≤ 256 → Counts places
    → get_or entries x 0 ≡ Sbox x → Passing entries places x 0
passing_all entries places x h k c e =
    record {
      all = zero-add _
          ∙ ap (picked entries places) (sym (zero-add x))
          ∙ picked-from 0 entries places x h (λ j b. c.place j (omega arith) ∙ sym (zero-add j))
          ∙ e;
    }

module _ {entries places : List ℕ} {x r : ℕ} (p : Passing entries places x r) where
  -- a turn: what the code picks of the first pair is added
  pub passing_turn : {es ps : List ℕ} {e k m q : ℕ} → (entries ≡ e ∷ es) × (places ≡ k ∷ ps) → m ≡ bit (eqb k x)
      → q ≡ chosen m 0 e → Passing es ps x (r + q)
  passing_turn {es} {ps} {e} {k} {m} {q} (s, t) h g =
      let now : r + (chosen (bit (eqb k x)) 0 e + picked es ps x) ≡ Sbox x = rw (s, t) at p.all in
      let is : q ≡ chosen (bit (eqb k x)) 0 e = g ∙ ap (λ (b : ℕ). chosen b 0 e) h in
      record { all = omega (arith, now, is) }

  -- no sum is above a byte
  passing-byte : r < 256
  passing-byte = omega (arith, p.all, Sbox-byte x)

  -- behind the last turn
  pub passing_none : (length entries ≡ 0) ⊎ (length places ≡ 0) → r ≡ Sbox x
  passing_none none = sym (add-zero r) ∙ ap (λ (n : ℕ). r + n) (sym (picked-none entries places x none)) ∙ p.all

-- after a turn too
pub passing_fits : {entries places : List ℕ} {x r : ℕ} → Passing entries places x r → {es ps : List ℕ} {e k m q : ℕ}
    → (entries ≡ e ∷ es) × (places ≡ k ∷ ps) → m ≡ bit (eqb k x) → q ≡ chosen m 0 e → r + q < 256
passing_fits p s h g = passing-byte (passing_turn p s h g)
