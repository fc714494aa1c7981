-- Two lists that agree are equal, and the OR of their differences tells whether they agree. Assumes nothing.
use Rattle.std.proofs.Common.{◌≡◌, ℕ, ◌+◌, ◌<◌, Bool, true, false, ◌&&◌, eqb, List, [], ◌∷◌, ◌++◌, length, get_or, take, sym, refl, ◌∙◌, ap₂, suc-ne-zero, add-one, arith, length-take-le, take-suc, eq-eqb, ne_eqb, eqb-true}
use native.Mathlib.Nat.{suc_inj}
use borrow.Author.Tests.{eqb-false}
use lib.Bits.{bit_or, or_zero_l}
use Rattle.words.specs.Lists.{agree}
use Rattle.words.specs.Word.{◌⊕◌}
use Rattle.words.proofs.Xor.{or-zero, xor_test}

-- a list agrees with itself
pub agree_refl : (a : List ℕ) → agree a a ≡ true
unfolding agree
agree_refl [] = refl
agree_refl (x ∷ a) = rw (eq-eqb x x refl) (agree_refl a)

-- what agrees is equal
pub agree-eq : (a b : List ℕ) → agree a b ≡ true → a ≡ b
unfolding agree
agree-eq [] [] e = refl
agree-eq [] (y ∷ b) e = cc
agree-eq (x ∷ a) [] e = cc
agree-eq (x ∷ a) (y ∷ b) e = by (agree-eq a b) (eqb x y) refl e
  where
    by : (agree a b ≡ true → a ≡ b) → (t : Bool) → eqb x y ≡ t → (t && agree a b) ≡ true → (x ∷ a) ≡ (y ∷ b)
    by f true h k = ap₂ (λ (u : ℕ) (v : List ℕ). u ∷ v) (eqb-true x y h) (f k)
    by f false h k = cc

-- one element more on each
agree_snoc : (a b : List ℕ) (x y : ℕ) → length a ≡ length b → agree (a ++ (x ∷ [])) (b ++ (y ∷ [])) ≡ (agree a b && eqb x y)
unfolding agree
agree_snoc [] [] x y e = and-true (eqb x y)
  where
    and-true : (t : Bool) → (t && true) ≡ t
    and-true true = refl
    and-true false = refl
agree_snoc [] (v ∷ b) x y e = absurd (suc-ne-zero (length b) (sym e))
agree_snoc (u ∷ a) [] x y e = absurd (suc-ne-zero (length a) e)
agree_snoc (u ∷ a) (v ∷ b) x y e = by (eqb u v) (agree_snoc a b x y (suc_inj e))
  where
    by : (t : Bool) → agree (a ++ (x ∷ [])) (b ++ (y ∷ [])) ≡ (agree a b && eqb x y)
        → (t && agree (a ++ (x ∷ [])) (b ++ (y ∷ []))) ≡ ((t && agree a b) && eqb x y)
    by true h = h
    by false h = refl

-- whether both of two numbers are none
or_test : (d e : ℕ) → eqb (bit_or d e) 0 ≡ (eqb d 0 && eqb e 0)
or_test d e = by (eqb d 0) (eqb e 0) refl refl
  where
    by : (s t : Bool) → eqb d 0 ≡ s → eqb e 0 ≡ t → eqb (bit_or d e) 0 ≡ (s && t)
    by true t h k = rw (eqb-true d 0 h, or_zero_l e) k
    by false t h k = ne_eqb (bit_or d e) 0 (λ z. eqb-false d 0 h (or-zero d e z).0)

-- a loop that gathers the differences: one turn
pub agree-turn : (a b : List ℕ) (i d : ℕ) → i < length a → i < length b → eqb d 0 ≡ agree (take i a) (take i b)
    → eqb (bit_or d (get_or a i 0 ⊕ get_or b i 0)) 0 ≡ agree (take (i + 1) a) (take (i + 1) b)
agree-turn a b i d ha hb h =
    let e : length (take i a) ≡ length (take i b) = length-take-le i a (omega arith) ∙ sym (length-take-le i b (omega arith)) in
    or_test d (get_or a i 0 ⊕ get_or b i 0)
    ∙ ap₂ (λ (s t : Bool). s && t) h (xor_test (get_or a i 0) (get_or b i 0))
    ∙ sym (agree_snoc (take i a) (take i b) (get_or a i 0) (get_or b i 0) e)
    ∙ ap₂ agree (sym (rw (add-one i) (take-suc a i 0 ha))) (sym (rw (add-one i) (take-suc b i 0 hb)))
