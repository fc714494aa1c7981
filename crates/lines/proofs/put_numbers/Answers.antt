-- `lines::put_numbers` meets its contract: the three numbers stand one behind the other. Assumes nothing.
use mathlib.Core.List.{List, ◌++◌, append_assoc}
use Prim.Native.Nat.{ℕ, ◌≤◌}
use native.Mathlib.Omega.{arith}
use lib.ListN.{length, length-append}
use Rattle.lines.specs.Input.{NEWLINE}
use Rattle.lines.specs.Text.{SPACE, numeral, numbers, PutAt}
use Rattle.lines.proofs.Texts.{length-numeral, length-numbers}
use Rattle.lines.proofs.Writing.{put-long, put-after}
use Rattle.lines.proofs.put_numbers.Goals as goal

pub put_numeral-first-requires : goal.put_numeral-first-requires
put_numeral-first-requires c = omega (arith, c.requires, length-numbers c.args.a c.args.b c.args.c)

pub put_numeral-second-requires : goal.put_numeral-second-requires
put_numeral-second-requires c =
    let first = c.put_numeral-first.ensures in
    omega (arith, c.requires, length-numbers c.args.a c.args.b c.args.c, length-numeral, first.behind, put-long first)

-- the first two numbers
two : (a b c : ℕ) {o o₁ o₂ : List ℕ} {n m : ℕ} → length (numbers a b c) ≤ length o
    → PutAt (numeral a SPACE) o 0 n o₁ → PutAt (numeral b SPACE) o₁ n m o₂
    → PutAt (numeral a SPACE ++ numeral b SPACE) o 0 m o₂
two a b c h first second =
    put-after first second (omega (arith, length-numbers a b c, length-numeral, first.behind, second.behind))

pub put_numeral-requires : goal.put_numeral-requires
put_numeral-requires c =
    let front = two c.args.a c.args.b c.args.c c.requires c.put_numeral-first.ensures c.put_numeral-second.ensures in
    omega (
      arith,
      c.requires,
      length-numbers c.args.a c.args.b c.args.c,
      length-numeral,
      length-append {A = ℕ},
      front.behind,
      put-long front,
    )

pub returns : goal.returns
unfolding numbers
returns c =
    let front = two c.args.a c.args.b c.args.c c.requires c.put_numeral-first.ensures c.put_numeral-second.ensures in
    let behind = c.put_numeral.ensures in
    rw (← append_assoc (numeral c.args.a SPACE) (numeral c.args.b SPACE) (numeral c.args.c NEWLINE))
    (put-after front behind
    (omega (
      arith,
      c.requires,
      length-numbers c.args.a c.args.b c.args.c,
      length-numeral,
      length-append {A = ℕ},
      front.behind,
      behind.behind,
    )))
