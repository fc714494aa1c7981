-- `mac_blocks::Message::count_in` meets its contract: the count of a number that is chosen, or of 0. Assumes nothing.
use mathlib.Core.Bool.{Bool, true, false, cond}
use mathlib.Core.Path.{◌≡◌, refl, ap, ◌∙◌}
use Prim.Native.Nat.{ℕ, ◌+◌}
use native.Mathlib.Omega.{arith}
use lib.Dec.{eqb}
use lib.ListN.{length, replicate}
use Rattle.words.specs.Bytes.{be}
use Rattle.words.proofs.Choice.{chosen_by}
use Rattle.sm3.specs.Standard.{count}
use Rattle.mac_blocks.specs.Schedule.{final}
use Rattle.mac_blocks.proofs.Byte.{length-text}
use Rattle.mac_blocks.proofs.Message.count_in.Goals as goal

-- the count of a chosen number
chosen_count : (t : Bool) (n : ℕ) → count (cond t n 0) ≡ cond t (count n) (replicate 8 0)
unfolding count be
chosen_count true n = refl
chosen_count false n = refl

pub returns : goal.returns
returns c =
    let m = c.self.inside in
    let t = eqb c.args.b (final c.args.self.now) in
    let text = length-text m.header m.«data».now m.held c.self.invariant in
    let n : 64 + 13 + m.held ≡ 64 + length c.args.self.now =
    omega (arith, text, ap length c.self.view_is, c.self.told.0) in
    c.count_of.ensures
    ∙ ap count (c.select.ensures ∙ chosen_by t 0 (64 + 13 + m.held) c.is_final.ensures ∙ ap (λ (k : ℕ). cond t k 0) n)
    ∙ chosen_count t (64 + length c.args.self.now)
