-- `mac_blocks::Message::is_final` meets its contract: no comparison, but an exclusive or that is 0. Assumes nothing.
use mathlib.Core.Path.{ap, ◌∙◌}
use Prim.Native.Nat.{◌+◌, ◌/◌}
use Rattle.words.specs.Choice.{bit}
use Rattle.words.specs.Word.{◌⊕◌}
use Rattle.words.proofs.Xor.{xor_test}
use Rattle.mac_blocks.proofs.Byte.{final-text}
use Rattle.mac_blocks.proofs.Message.is_final.Goals as goal

pub returns : goal.returns
unfolding ◌⊕◌
returns c =
    let m = c.self.inside in
    let f = (13 + m.held + 8) / 64 in
    rw (← c.self.view_is, final-text m.header m.«data».now m.held c.self.told.0 c.self.invariant)
    (c.ct_is_zero_usize.ensures ∙ ap bit (xor_test c.args.b f))
