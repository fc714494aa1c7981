-- What is found over all bytes, by the library's words. Assumes nothing.
use mathlib.Core.Bool.{Bool, true, false, cond, ◌&&◌, not}
use mathlib.Core.List.{List, [], ◌∷◌}
use mathlib.Core.Path.{◌≡◌, refl, sym, ap}
use Prim.Native.Nat.{ℕ, ◌+◌, ◌≤◌}
use native.Mathlib.Omega.{arith}
use borrow.Author.Tests.{ltb-false}
use lib.Dec.{eqb, ltb}
use lib.ListN.{length}
use Rattle.std.specs.List.{list_all, position, position_or_len}
use Rattle.std.specs.Option.{unwrap_or}
use Rattle.std.specs.Prelude.{Some, None}
use Rattle.lines.specs.Hexadecimal.{is_hex, all_hex}
use Rattle.lines.specs.Input.{NEWLINE, front}
use Rattle.lines.proofs.Front.{front-short}

-- each byte is a digit
pub all_hex_list : (l : List ℕ) → all_hex l ≡ list_all is_hex l
unfolding all_hex
all_hex_list [] = refl
all_hex_list (b ∷ l) = ap (λ (t : Bool). is_hex b && t) (all_hex_list l)

-- as many bytes stand before the first newline as its index says
pub front_position : (l : List ℕ) → length (front l) ≡ position_or_len (λ b. eqb b NEWLINE) l
unfolding front
front_position [] = refl
front_position (b ∷ l) = by (eqb b NEWLINE) (front_position l)
  where
    by : (t : Bool) → length (front l) ≡ position_or_len (λ b. eqb b NEWLINE) l
        → length (cond t [] (b ∷ front l)) ≡ cond (not t) (1 + position_or_len (λ b. eqb b NEWLINE) l) 0
    by true e = refl
    by false e = omega (arith, e)

-- the index that is found, or the length
pub front_index : (l : List ℕ) → unwrap_or (position (λ b. eqb b NEWLINE) l) (length l) ≡ length (front l)
front_index l = by (ltb (position_or_len (λ b. eqb b NEWLINE) l) (length l)) refl
  where
    by : (t : Bool) → ltb (position_or_len (λ b. eqb b NEWLINE) l) (length l) ≡ t
        → unwrap_or (cond t (Some (position_or_len (λ b. eqb b NEWLINE) l)) None) (length l) ≡ length (front l)
    by true e = sym (front_position l)
    by false e =
        let n : length l ≤ length (front l) =
        rw (front_position l) (ltb-false (position_or_len (λ b. eqb b NEWLINE) l) (length l) e) in
        omega (arith, front-short l)
