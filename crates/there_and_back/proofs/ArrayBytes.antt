-- An array of bytes that is a parameter holds bytes: what a function is told of it at its entry. Assumes nothing.
use mathlib.Core.List.{List, [], ◌∷◌}
use Prim.Native.Nat.{ℕ, zero, suc}
use lib.Dec.{lit<}
use mir.Val.{Val}
use denote.Array.{Array, each}
use denote.Builtin.{u8}
use denote.Laws.{Is}
use denote.Shadow.{shadow}
use Rattle.words.specs.Bytes.{Bytes}

-- the elements, each with its machine value
each-byte : (xs : List ℕ) (us : List Val) → shadow (each ℕ u8.own_val xs us) → Bytes xs
each-byte [] us s i = lit< tt
each-byte (x ∷ xs) [] s i = absurd s
each-byte (x ∷ xs) (u ∷ us) s zero = s.0.1
each-byte (x ∷ xs) (u ∷ us) s (suc i) = each-byte xs us s.1 i

-- an array of n of them
pub array_bytes : (n : ℕ) (xs : List ℕ) (vs : List Val) → Is (Array u8 n) xs vs → Bytes xs
array_bytes n xs vs p = each-byte xs p.0 p.1.1
