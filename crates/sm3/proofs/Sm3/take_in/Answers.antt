-- `Sm3::take_in` meets its contract: a state in which no byte waits, and one in which some do. Assumes nothing.
use Rattle.std.proofs.Common.{ℕ, List, sym, ◌∙◌}
use Rattle.sm3.specs.State.{taken}
use Rattle.sm3.proofs.Taken.{taken_empty}
use Rattle.sm3.proofs.Sm3.take_in.Goals as goal

-- no byte waits
pub returns-then-self-eq0 : goal.returns-then-self-eq0
returns-then-self-eq0 c =
    let s = c.args.self in
    let d : List ℕ = c.args.«data».now in
    c.absorb.ensures ∙ sym (taken_empty s d c.if-self-eq0.true)

-- some do
pub returns-else-self-eq0 : goal.returns-else-self-eq0
unfolding taken
returns-else-self-eq0 c = c.absorb_behind.ensures
