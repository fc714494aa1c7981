-- How tight the predicates are: whatever meets them does what ours does. Assumes nothing.
use Rattle.std.specs.Prelude.{List, ◌≡◌, ℕ, length}
use Rattle.words.specs.Bytes.{Bytes}
use Rattle.record.specs.declared.RecordKeysCbc.{RecordKeysCbc}
use Rattle.steps.specs.declared.OpeningCbc.{OpeningCbc}
use Rattle.opening.specs.Given.{Given}
use Rattle.demands.specs.Openers.{Sealer, Opener, our_sealer, our_opener, StatedRecord, SealRefusals, ExactAcceptance, OpenRefusals}
use Rattle.demands.specs.Steppers.{Stepper, ours, after_by, WorkAsDefined, StepsTooMany, RefusedStart, EveryStep}

-- a sealer, on every list
unfoldable pub OnlyOurSealer : Type 0
OnlyOurSealer =
    (seal : Sealer) → StatedRecord seal → SealRefusals seal
    → (keys : RecordKeysCbc) (seq type : ℕ) (version iv text out : List ℕ)
    → seal keys seq type version iv text out ≡ our_sealer keys seq type version iv text out

-- an opener, on every record of bytes
unfoldable pub OnlyOurOpener : Type 0
OnlyOurOpener =
    (opens : Opener) → ExactAcceptance opens → OpenRefusals opens
    → (g : Given) (o : List ℕ) → Bytes g.r → opens g o ≡ our_opener g o

-- a stepper, after every number of steps from every start with a version of two bytes, where opening, record and output come back
-- untouched between two steps
unfoldable pub OnlyOurSteps : Type 0
OnlyOurSteps =
    (S : Stepper) → WorkAsDefined S → StepsTooMany S → RefusedStart S
    → (g : Given) (o : List ℕ) → length g.version ≡ 2 → (k : ℕ) → after_by S g o k ≡ after_by ours g o k

-- a step, on every opening, record and output
unfoldable pub OnlyOurStep : Type 0
OnlyOurStep = (S : Stepper) → EveryStep S → (s : OpeningCbc) (r o : List ℕ) → S.step s r o ≡ ours.step s r o
