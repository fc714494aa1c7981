-- `mac_blocks::Message::block` meets its contract: behind the final block all is zero. The loop's invariant: the first i bytes are
-- those of the schedule. Assumes nothing.
use mathlib.Core.Path.{◌≡◌, sym, ap, ◌∙◌}
use Prim.Native.Nat.{◌+◌, ◌/◌}
use native.Mathlib.Omega.{arith}
use borrow.Author.Rules.{rules}
use Rattle.words.proofs.Over.{over_none, over-more}
use Rattle.mac_blocks.specs.Schedule.{final}
use Rattle.mac_blocks.proofs.Byte.{final-text}
use Rattle.mac_blocks.proofs.Schedule.{schedule-zero, length-schedule, get_or-schedule}
use Rattle.mac_blocks.proofs.Message.block.Goals as goal

pub returns-then-self-b : goal.returns-then-self-b
returns-then-self-b c =
    let m = c.self.inside in
    let last : final c.args.self.now ≡ (13 + m.held + 8) / 64 =
    sym (ap final c.self.view_is) ∙ final-text m.header m.«data».now m.held c.self.told.0 c.self.invariant in
    sym (schedule-zero c.args.self.now c.args.b (omega (arith, last, c.self.invariant)))

pub loop-i-init : goal.loop-i-init
loop-i-init c = over_none (length-schedule c.args.self.now c.args.b)

pub loop-i-preserved : goal.loop-i-preserved
loop-i-preserved c =
    let l = c.loop-i in
    let a = c.args in
    over-more l.invariant (search rules) (c.byte_at.ensures ∙ sym (get_or-schedule a.self.now a.b l.i (search rules)))
