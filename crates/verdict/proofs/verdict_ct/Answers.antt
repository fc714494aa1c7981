-- `verdict::verdict_ct` meets its contract: both tests as one number, by which the answer and the length are chosen. Assumes
-- nothing.
use mathlib.Core.Bool.{Bool, true, false, cond, ◌&&◌}
use mathlib.Core.Path.{◌≡◌, refl}
use Prim.Native.Nat.{ℕ}
use lib.Bits.{bit_and}
use mir.Val.{bool_byte}
use Rattle.answers.specs.Answers.{Done, BadRecord}
use Rattle.words.specs.Choice.{bit, chosen}
use Rattle.words.specs.Lists.{agree}
use Rattle.verdict.specs.declared.Verdict.{Verdict}
use Rattle.verdict.specs.Verdict.{verdict_of}
use Rattle.verdict.proofs.verdict_ct.Goals as goal

-- the four cases of two tests
merged : (s t : Bool) (h : ℕ)
    → let ok = bit_and (bool_byte s) (bit t) in
    ◌≡◌ {A = Verdict} (record { answer = chosen ok BadRecord Done; length = chosen ok 0 h })
    (cond (s && t) (record { answer = Done; length = h }) (record { answer = BadRecord; length = 0 }))
unfolding chosen
merged true true h = refl
merged true false h = refl
merged false t h = refl

pub returns : goal.returns
unfolding verdict_of
returns c =
    let a = c.args in
    rw (c.select-length.ensures, c.select-answer.ensures, c.number.ensures, c.ct_eq.ensures)
    (merged a.pad_ok (agree a.received a.computed) a.held)
