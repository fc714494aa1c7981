-- Lists that the definitions above are written with. Assumes nothing.
use Rattle.std.specs.Prelude.{ℕ, zero, suc, ◌+◌, ◌-◌, ◌*◌, Bool, true, false, ◌&&◌, List, [], ◌∷◌, ◌++◌, length, take, drop, ◌==◌}
use Rattle.words.specs.Word.{◌⊕◌}

-- f 0, f 1, .., f (n - 1)
unfoldable pub table : (ℕ → ℕ) → ℕ → List ℕ
table f zero = []
table f (suc n) = table f n ++ (f n ∷ [])

-- w with n elements more, each made by f of all before it
unfoldable pub grow : (List ℕ → ℕ) → ℕ → List ℕ → List ℕ
grow f zero w = w
grow f (suc n) w = let v = grow f n w in v ++ (f v ∷ [])

-- the pieces f 0, f 1, .., f (m - 1), end to end
unfoldable pub join : ℕ → (ℕ → List ℕ) → List ℕ
join zero f = []
join (suc m) f = join m f ++ f m

-- block k, of w elements each
abbrev pub block : ℕ → ℕ → List ℕ → List ℕ
block w k l = take w (drop (k * w) l)

-- op of the elements of two lists at each place, as far as the shorter list goes
unfoldable pub zip_with : {A : Type 0} → (A → A → A) → List A → List A → List A
zip_with op [] b = []
zip_with op (x ∷ a) [] = []
zip_with op (x ∷ a) (y ∷ b) = op x y ∷ zip_with op a b

-- element by element, as far as the shorter list goes
unfoldable pub xor_each : List ℕ → List ℕ → List ℕ
xor_each [] b = []
xor_each (x ∷ a) [] = []
xor_each (x ∷ a) (y ∷ b) = (x ⊕ y) ∷ xor_each a b

-- whether two lists are the same, element by element
unfoldable pub agree : List ℕ → List ℕ → Bool
agree [] [] = true
agree [] (y ∷ b) = false
agree (x ∷ a) [] = false
agree (x ∷ a) (y ∷ b) = x == y && agree a b

-- out with src laid over it from index at on, as much of src as there is room for
unfoldable pub put : ℕ → List ℕ → List ℕ → List ℕ
put at src out = take at out ++ (take (length out - at) src ++ drop (at + length src) out)
