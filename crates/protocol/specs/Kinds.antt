-- What the fields of a line may be. Assumes nothing.
use Rattle.std.specs.Prelude.{Bool, true, ◌&&◌, ◌||◌, List, [], ◌∷◌, Some, ℕ, ◌+◌, eqb, is_some, length, replicate}
use Rattle.std.specs.Option.{option_eq}
use Rattle.words.specs.Lists.{agree}
use Rattle.protocol.specs.Fields.{times, field_of, size_of, number_of}
use Rattle.protocol.specs.declared.Kind.{Kind}
use Rattle.protocol.specs.declared.Kind.TheVariants.{Side, Number, Bytes, Sized}

-- the letter c or s; a number; any bytes; as many bytes as the kind says
unfoldable pub is_kind : List ℕ → Kind → Bool
is_kind f Side = agree f (0x63 ∷ []) || agree f (0x73 ∷ [])
is_kind f Number = is_some (number_of f)
is_kind f Bytes = is_some (size_of f)
is_kind f (Sized n) = option_eq eqb (size_of f) (Some n)

-- the fields behind the first i + 1 are of these kinds
unfoldable pub kinds_from : List ℕ → ℕ → List Kind → Bool
kinds_from line i [] = true
kinds_from line i (kind ∷ kinds) = is_kind (field_of (i + 1) line) kind && kinds_from line (i + 1) kinds

-- the fields behind the command are of these kinds, one each
unfoldable pub fits_line : List ℕ → List Kind → Bool
fits_line line kinds = eqb (times 0x20 line) (length kinds) && kinds_from line 0 kinds

-- the fields behind the command are bytes, all of them
unfoldable pub all_bytes : List ℕ → Bool
all_bytes line = kinds_from line 0 (replicate (times 0x20 line) Bytes)
