-- The comparison of two slices, in the word of the definitions. Assumes nothing.
use Rattle.std.proofs.Common.{◌≡◌, ℕ, Bool, ◌&&◌, eqb, List, [], ◌∷◌, refl, ap, ◌∙◌}
use lib.Pointwise.{pointwise}
use Rattle.words.specs.Lists.{agree}

-- both go element by element
pointwise-agree : (a b : List ℕ) → pointwise eqb a b ≡ agree a b
unfolding agree
pointwise-agree [] [] = refl
pointwise-agree [] (y ∷ b) = refl
pointwise-agree (x ∷ a) [] = refl
pointwise-agree (x ∷ a) (y ∷ b) = ap (λ (t : Bool). eqb x y && t) (pointwise-agree a b)

-- what `==` says of a slice and a word
pub is_agree : (f w v : List ℕ) {r : Bool} → r ≡ pointwise eqb f v → v ≡ w → r ≡ agree f w
is_agree f w v e h = e ∙ pointwise-agree f v ∙ ap (agree f) h
