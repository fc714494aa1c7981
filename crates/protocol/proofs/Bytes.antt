-- The bytes of pairs of digits, and where they are laid. Assumes nothing.
use Rattle.std.proofs.Common.{◌≡◌, ℕ, zero, suc, ◌+◌, ◌-◌, ◌*◌, ◌/◌, ◌%◌, ◌≤◌, ◌<◌, Bool, true, false, cond, leb, ltb, List, [], ◌∷◌, ◌++◌, length, get_or, set, drop, refl, sym, ap, ◌∙◌, zero-add, add-one, arith, length-append, length-drop, get_or-drop, le-leb}
use Rattle.std.proofs.lemmas.Bool.{lt-leb}
use Rattle.std.proofs.lemmas.List.{drop-drop}
use lib.ListN.{get_or-append}
use lib.Seq.{paste, paste-suc, length-paste, drop-append_seam}
use Rattle.protocol.specs.Fields.{digit_of, decoded}

-- a digit's value is below 16
pub digit-small : (x r : ℕ) → r ≡ digit_of x → r < 16
unfolding digit_of
digit-small x r e = by (ltb x 0x61) e
  where
    by : (t : Bool) → r ≡ cond t (x % 16) ((x % 16 + 9) % 16) → r < 16
    by true h = omega arith
    by false h = omega arith

-- half as many bytes as digits
pub length-decoded : (l : List ℕ) → length (decoded l) ≡ length l / 2
unfolding decoded
length-decoded [] = refl
length-decoded (x ∷ []) = refl
length-decoded (x ∷ y ∷ l) = omega (arith, length-decoded l)

-- byte i, from the digits at 2 i and 2 i + 1
pub decoded-at : (l : List ℕ) (i : ℕ) → i < length (decoded l)
    → get_or (decoded l) i 0 ≡ 16 * digit_of (get_or l (2 * i) 0) + digit_of (get_or l (2 * i + 1) 0)
unfolding decoded
decoded-at [] i h = absurd (omega arith)
decoded-at (x ∷ []) i h = absurd (omega arith)
decoded-at (x ∷ y ∷ l) zero h = refl
decoded-at (x ∷ y ∷ l) (suc i) h =
    let e : 2 * suc i ≡ suc (suc (2 * i)) = omega arith in
    let f : suc (suc (2 * i)) + 1 ≡ suc (suc (2 * i + 1)) = omega arith in
    rw e (rw f (decoded-at l i (omega arith)))

-- ---- the pairs of digits

-- a pair of digits behind the first i pairs
module _ (f p r : List ℕ) (i : ℕ) (e : drop (2 * i) f ≡ p ++ r) (n : length p ≡ 2) where
  both : length f - 2 * i ≡ 2 + length r
  both = sym (length-drop (2 * i) f) ∙ ap length e ∙ length-append p r ∙ ap (λ (k : ℕ). k + length r) n

  pub pair-fits : 2 * (i + 1) ≤ length f
  pair-fits = omega (arith, both)

  pub pair-rest : drop (2 * (i + 1)) f ≡ r
  pair-rest =
      let k : 2 * (i + 1) ≡ 2 * i + length p = omega arith in
      rw (k, ← drop-drop (length p) (2 * i) f, e) (drop-append_seam p r)

  pub pair-digit : (k j : ℕ) → k < 2 → 2 * i + k ≡ j → get_or p k 0 ≡ get_or f j 0
  pair-digit k j h at =
      sym (get_or-append p r 0 k (omega arith))
      ∙ ap (λ (l : List ℕ). get_or l k 0) (sym e)
      ∙ get_or-drop (2 * i) f k 0
      ∙ ap (λ (m : ℕ). get_or f m 0) at

-- ---- the bytes, laid over the front of o

module _ (f o out : List ℕ) (i : ℕ) (e : out ≡ paste o 0 (decoded f) i) where
  -- one more
  pub laid_more : (x : ℕ) → i < length o → i < length (decoded f) → x ≡ get_or (decoded f) i 0
      → set out i x ≡ paste o 0 (decoded f) (i + 1)
  laid_more x h k v =
      rw (e, v, add-one i)
      (ap (λ (j : ℕ). set (paste o 0 (decoded f) i) j (get_or (decoded f) i 0)) (sym (zero-add i))
      ∙ paste-suc o 0 (decoded f) i 0 (omega arith) k)

  -- the length stays
  pub laid-length : i ≤ length o → i ≤ length (decoded f) → length out ≡ length o
  laid-length h k = ap length e ∙ length-paste o 0 (decoded f) i (omega arith) k

-- all of them, where there is room
pub laid_all : (o d out : List ℕ) (n : ℕ) → n ≡ length d → n ≤ length o → out ≡ paste o 0 d n
    → (n ≡ cond (leb (length d) (length o)) (length d) 0) × (out ≡ cond (leb (length d) (length o)) (paste o 0 d (length d)) o)
laid_all o d out n e h p = rw (sym e, le-leb n (length o) h) (refl, p)

-- else none
pub laid_none : (o d : List ℕ) → length o < length d
    → (0 ≡ cond (leb (length d) (length o)) (length d) 0) × (o ≡ cond (leb (length d) (length o)) (paste o 0 d (length d)) o)
laid_none o d h = rw (lt-leb (length d) (length o) h) (refl, refl)
