-- `mac_blocks::Message::byte_at` meets its contract: the count, or zeros, is laid over the last 8 bytes, where no text is. Assumes
-- nothing.
use mathlib.Core.Path.{sym, ap, ◌∙◌}
use Prim.Native.Nat.{ℕ, ◌-◌}
use native.Mathlib.Omega.{arith}
use lib.Bits.{bit_xor}
use lib.ListN.{get_or}
use Rattle.mac_blocks.proofs.Byte.{byte-first, last_by_xor}
use Rattle.mac_blocks.proofs.Message.byte_at.Goals as goal

pub returns-then-i : goal.returns-then-i
returns-then-i c = let a = c.args in c.marked_byte-byte.ensures ∙ sym (byte-first a.self.now a.b a.i (omega arith))

pub returns : goal.returns
returns c =
    let a = c.args in
    ap (λ (x : ℕ). bit_xor x (get_or a.counted.now (a.i - 56) 0)) c.marked_byte-byte.ensures
    ∙ last_by_xor a.self.now a.b a.i a.counted.now (omega arith) c.requires.1 c.requires.2
