-- `protocol::with_digit` meets its contract: its tests decide those of the definition. Assumes nothing.
use Rattle.std.proofs.Common.{◌≡◌, ◌+◌, ◌-◌, ◌*◌, arith}
use Rattle.protocol.specs.Fields.{with_digit}
use Rattle.protocol.proofs.Numbers.{digit_some, checked}
use Rattle.protocol.proofs.with_digit.Goals as goal

pub returns : goal.returns
unfolding with_digit
returns c =
    let a = c.args in
    let yes = digit_some a.c c.in_ok-d.d (omega (arith, c.in_ok-d.ensures.value)) c.in_ok-d.ensures.cases in
    let sum : c.in_ok-checked_mul.field-0 + c.in_ok-d.d ≡ 10 * a.value + (a.c - 0x30)
    = omega (arith, c.in_ok-checked_mul.ensures, yes) in
    rw (yes.0, ← sum) (checked _ _ _ c.checked_add.ensures)
