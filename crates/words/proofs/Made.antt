-- What `array::from_fn` made, where the closure changes nothing that it captures: what is so of each call at i and what it
-- gave is so of i and element i. Assumes nothing.
use Rattle.std.proofs.Common.{◌≡◌, ℕ, zero, suc, ◌+◌, ◌<◌, ◌≤◌, List, [], ◌∷◌, length, get_or, sym, refl, subst, ⊎_elim, eq-or-lt_of_le, arith, ◌∙◌, ap₂}
use native.Mathlib.Nat.{suc_inj}
use denote.Param.Members.{Mut, Called}
use Rattle.std.specs.Array.{IsFromFnResultFrom, IsFromFnResult}
use Rattle.words.specs.Lists.{table, zip_with}
use Rattle.words.proofs.Lists.{as_table, table_ext}

module _ {F B : Type 0} (g : Mut F (ℕ × Unit {0}) B) (f : F) (ys : List B) (n : ℕ) (Gives : ℕ → B → Type 0)
    (calls : (i : ℕ) (y : B) (q : F) → i < n → Called g f (i, tt) y q → Gives i y × (q ≡ f)) where
  made_from : (k i : ℕ) → i + k ≡ n → IsFromFnResultFrom g f ys i k → (j : ℕ) (d : B) → i ≤ j → j < n → Gives j (get_or ys j d)
  made_from zero i e made j d low high = absurd (omega arith)
  made_from (suc k) i e (q, y, here, called, rest) j d low high =
      let told = calls i y q (omega arith) called in
      ⊎_elim
      (λ same.
      let At : ℕ → Type 0 = λ m. Gives m (get_or ys m d) in
      subst At same (subst (Gives i) (sym (here.1 d)) told.0))
      (λ behind.
      let From : F → Type 0 = λ s. IsFromFnResultFrom g s ys (i + 1) k in
      made_from k (i + 1) (omega arith) (subst From told.1 rest) j d (omega arith) high)
      (eq-or-lt_of_le low)

  -- each element
  pub made_each : IsFromFnResult g f ys n → (j : ℕ) (d : B) → j < n → Gives j (get_or ys j d)
  made_each made j d b = made_from n 0 (omega arith) made.each j d (omega arith) b

-- an array of numbers is a table
pub made_table : {F : Type 0} (g : Mut F (ℕ × Unit {0}) ℕ) (f : F) (ys : List ℕ) (h : ℕ → ℕ) (n : ℕ)
    → ((i y : ℕ) (q : F) → i < n → Called g f (i, tt) y q → (y ≡ h i) × (q ≡ f)) → IsFromFnResult g f ys n → ys ≡ table h n
made_table g f ys h n calls made =
    let Gives : ℕ → ℕ → Type 0 = λ i y. y ≡ h i in
    as_table ys n made.long ∙ table_ext _ h n (λ i b. made_each g f ys n Gives calls made i 0 b)

-- a list that holds op of two others at each place
pub zipped : {A : Type 0} (op : A → A → A) (ys a b : List A) → length ys ≡ length a → length a ≡ length b
    → ((j : ℕ) (d : A) → j < length ys → get_or ys j d ≡ op (get_or a j d) (get_or b j d)) → ys ≡ zip_with op a b
unfolding zip_with
zipped op [] [] b e k h = refl
zipped op [] (x ∷ a) b e k h = cc
zipped op (y ∷ ys) [] b e k h = cc
zipped op (y ∷ ys) (x ∷ a) [] e k h = cc
zipped op (y ∷ ys) (x ∷ a) (z ∷ b) e k h =
    ap₂ (λ u l. u ∷ l) (h 0 y (omega arith))
    (zipped op ys a b (suc_inj e) (suc_inj k) (λ j d w. h (suc j) d (omega arith)))
