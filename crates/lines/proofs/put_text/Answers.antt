-- `lines::put_text` meets its contract: by its cases each text is the definition's, and has room. Assumes nothing.
use Prim.Native.Nat.{◌≤◌}
use native.Mathlib.Omega.{arith}
use lib.ListN.{length}
use Rattle.lines.specs.Telling.{most_text}
use Rattle.lines.specs.Text.{numbers, text_of}
use Rattle.lines.proofs.Texts.{numbers-short}
use Rattle.lines.proofs.put_text.Goals as goal

pub put_numbers-requires : goal.put_numbers-requires
put_numbers-requires c =
    let room : length (numbers c.in-Sized.record_len c.from.result c.in-Sized.total) ≤ most_text =
    numbers-short _ _ _ (omega arith) (omega (arith, c.from.ensures)) (omega arith) in
    omega (arith, c.requires, room)

pub returns-in-Sized-clause-laid : goal.returns-in-Sized-clause-laid
unfolding text_of
returns-in-Sized-clause-laid c = rw (c.in-Sized.is, ← c.from.ensures) c.put_numbers.ensures

pub returns-in-Sized-clause-room : goal.returns-in-Sized-clause-room
returns-in-Sized-clause-room c =
    let room : length (numbers c.in-Sized.record_len c.from.result c.in-Sized.total) ≤ most_text =
    numbers-short _ _ _ (omega arith) (omega (arith, c.from.ensures)) (omega arith) in
    omega (arith, c.put_numbers.ensures.behind, room)

pub returns-in-Long-clause-laid : goal.returns-in-Long-clause-laid
unfolding text_of
returns-in-Long-clause-laid c = rw c.in-Long.is c.put_word.ensures

pub returns-in-Bad-clause-laid : goal.returns-in-Bad-clause-laid
unfolding text_of
returns-in-Bad-clause-laid c = rw c.in-Bad.is c.put_word-in-Bad.ensures
