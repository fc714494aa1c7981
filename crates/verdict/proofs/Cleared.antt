-- What is cleared, byte by byte. Assumes nothing.
use mathlib.Core.Bool.{Bool, true, false}
use mathlib.Core.List.{List}
use mathlib.Core.Path.{◌≡◌, refl, sym, ◌∙◌}
use Prim.Native.Nat.{ℕ, ◌-◌, ◌≤◌, ◌<◌}
use native.Mathlib.Omega.{arith}
use borrow.Author.Tests.{ltb-true, ltb-false}
use lib.Dec.{ltb}
use lib.ListN.{length, get_or, take, replicate, length-append, length-take, length-replicate, get_or-append}
use lib.Seq.{get_or-take}
use Rattle.words.proofs.Lists.{get_or-append-ge, get_or-replicate_self}
use Rattle.words.specs.Choice.{bit, chosen}
use Rattle.verdict.specs.Verdict.{cleared_from}

-- the length stays
pub length-cleared : (h : ℕ) (d : List ℕ) → length (cleared_from h d) ≡ length d
unfolding cleared_from
length-cleared h d = rw (length-append, length-take, length-replicate) (omega arith)

-- a byte below h stays, and one from h on is zero
pub get_or-cleared : (h : ℕ) (d : List ℕ) (i : ℕ) → i < length d
    → chosen (bit (ltb i h)) 0 (get_or d i 0) ≡ get_or (cleared_from h d) i 0
unfolding cleared_from chosen
get_or-cleared h d i b = by (ltb i h) refl
  where
    by : (t : Bool) → ltb i h ≡ t → chosen (bit t) 0 (get_or d i 0) ≡ get_or (cleared_from h d) i 0
    by true e =
        let k : i < h = ltb-true i h e in
        sym (get_or-append (take h d) (replicate (length d - h) 0) 0 i (rw length-take (omega arith)) ∙ get_or-take h d i 0 k)
    by false e =
        let k : h ≤ i = ltb-false i h e in
        sym (get_or-append-ge (take h d) (replicate (length d - h) 0) i 0 (rw length-take (omega arith))
        ∙ get_or-replicate_self (length d - h) (i - length (take h d)) 0)
