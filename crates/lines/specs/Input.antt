-- The lines of an input: each ends before a newline, and what stands behind the last newline is a line if it is not empty.
-- Assumes nothing.
use Rattle.std.specs.Prelude.{cond, List, [], ◌∷◌, ◌++◌, ℕ, eqb}

abbrev pub NEWLINE : ℕ
NEWLINE = 10

-- what stands before the first newline, or all
unfoldable pub front : List ℕ → List ℕ
front [] = []
front (b ∷ l) = cond (eqb b NEWLINE) [] (b ∷ front l)

-- at the end of the input, the line begun
unfoldable pub last : List ℕ → List (List ℕ)
last [] = []
last (b ∷ l) = (b ∷ l) ∷ []

-- the lines of an input, where its first one is begun already
unfoldable pub lines_from : List ℕ → List ℕ → List (List ℕ)
lines_from begun [] = last begun
lines_from begun (b ∷ l) = cond (eqb b NEWLINE) (begun ∷ lines_from [] l) (lines_from (begun ++ (b ∷ [])) l)

-- the lines of an input
unfoldable pub lines : List ℕ → List (List ℕ)
lines input = lines_from [] input
