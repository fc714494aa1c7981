-- `mac_blocks::Message::marked_byte` meets its contract: two choices by the place of the text's end. Assumes nothing.
use mathlib.Core.Bool.{cond}
use mathlib.Core.Path.{sym, ap, ◌∙◌}
use Prim.Native.Nat.{ℕ, ◌+◌}
use lib.Dec.{eqb, ltb}
use Rattle.words.proofs.Choice.{chosen_by}
use Rattle.mac_blocks.proofs.Byte.{byte-marked}
use Rattle.mac_blocks.proofs.Message.marked_byte.Goals as goal

pub returns : goal.returns
returns c =
    let m = c.self.inside in
    let p : ℕ = c.args.p in
    rw (← c.self.view_is)
    (c.select.ensures
    ∙ chosen_by (eqb p (13 + m.held)) _ 0x80 c.ct_eq.ensures
    ∙ ap (λ (x : ℕ). cond (eqb p (13 + m.held)) 0x80 x)
    (c.select-text.ensures
    ∙ chosen_by (ltb p (13 + m.held)) 0 _ c.ct_lt_usize-in_text.ensures
    ∙ ap (λ (x : ℕ). cond (ltb p (13 + m.held)) x 0) c.candidate.ensures)
    ∙ sym (rw c.self.told.0 at (byte-marked m.header m.«data».now m.held p c.self.invariant)))
