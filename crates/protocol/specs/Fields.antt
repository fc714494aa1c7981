-- What a field of a line says. A character is a byte. Assumes nothing.
use Rattle.std.specs.Prelude.{Bool, cond, not, ◌&&◌, List, [], ◌∷◌, Option, Some, None, ℕ, zero, suc, ◌+◌, ◌-◌, ◌*◌, ◌/◌, ◌%◌, ◌^◌, eqb, leb, ltb, length, drop, option_and_then}
use Rattle.words.specs.Choice.{bit}
use Rattle.words.specs.Lists.{agree}
use Rattle.lines.specs.Hexadecimal.{all_hex}

-- what stands before the first byte b, or all
unfoldable pub up_to : ℕ → List ℕ → List ℕ
up_to b [] = []
up_to b (x ∷ l) = cond (eqb x b) [] (x ∷ up_to b l)

-- how often b stands there
unfoldable pub times : ℕ → List ℕ → ℕ
times b [] = 0
times b (x ∷ l) = bit (eqb x b) + times b l

-- behind the space that ends the field at an index; at the end where none does
unfoldable pub next_of : List ℕ → ℕ → ℕ
next_of l at =
    cond (ltb (length (up_to 0x20 (drop at l))) (length l - at)) (at + length (up_to 0x20 (drop at l)) + 1) (length l)

-- where field k starts
unfoldable pub start_of : ℕ → List ℕ → ℕ
start_of zero l = 0
start_of (suc k) l = next_of l (start_of k l)

-- field k: what stands there up to the next space
unfoldable pub field_of : ℕ → List ℕ → List ℕ
field_of k l = up_to 0x20 (drop (start_of k l) l)

-- a digit's value: 0x30 to 0x39 are 0 to 9, 0x61 to 0x66 are 10 to 15
unfoldable pub digit_of : ℕ → ℕ
digit_of c = cond (ltb c 0x61) (c % 16) ((c % 16 + 9) % 16)

-- half as many bytes as digits; the one dash says none, and what is no field in hexadecimal has no size
unfoldable pub size_of : List ℕ → Option ℕ
size_of f =
    cond (agree f (0x2d ∷ []))
    (Some 0)
    (cond (not (eqb (length f) 0) && (eqb (length f % 2) 0 && all_hex f)) (Some (length f / 2)) None)

-- 0 to 9
unfoldable pub is_digit : ℕ → Bool
is_digit c = leb 0x30 c && leb c 0x39

-- a number with one more digit behind it, below 2^64
unfoldable pub with_digit : ℕ → ℕ → Option ℕ
with_digit v c =
    cond (is_digit c && ltb (10 * v + (c - 0x30)) (2 ^ 64)) (Some (10 * v + (c - 0x30))) None

-- a number with all these digits behind it
unfoldable pub number_from : ℕ → List ℕ → Option ℕ
number_from v [] = Some v
number_from v (c ∷ l) = option_and_then (λ w. number_from w l) (with_digit v c)

-- at least one digit
unfoldable pub number_of : List ℕ → Option ℕ
number_of f = cond (eqb (length f) 0) None (number_from 0 f)

-- the bytes of pairs of digits
unfoldable pub decoded : List ℕ → List ℕ
decoded [] = []
decoded (x ∷ []) = []
decoded (x ∷ y ∷ l) = (16 * digit_of x + digit_of y) ∷ decoded l

-- the bytes of field k
abbrev pub bytes_at : ℕ → List ℕ → List ℕ
bytes_at k l = decoded (field_of k l)
