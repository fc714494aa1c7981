-- The one call: its report and the output, on all input. Assumes nothing.
use Rattle.std.specs.Prelude.{cond, List, ◌++◌, ℕ, ◌-◌, eqb, length, drop, replicate}
use Rattle.answers.specs.Answers.{Done}
use Rattle.record.specs.Opened.{held, text_in}
use Rattle.sizes.specs.Sizes.{total_steps}
use Rattle.steps.specs.State.{start_answer}
use Rattle.opening.specs.declared.Opened.{Opened}
use Rattle.opening.specs.Given.{Given, size, decrypted, accepted, answer_in, length_in}

-- the n bytes of the body's place: the text and zeros, or all zeros
unfoldable pub body_after : Given → List ℕ
body_after g =
    cond (accepted g) (text_in (decrypted g) ++ replicate (size g - held (decrypted g)) 0) (replicate (size g) 0)

-- `deprotect_cbc`, with so much room in the output
unfoldable pub deprotected : Given → ℕ → Opened
deprotected g room =
    cond (eqb (start_answer (length g.r) room) Done)
    (record { answer = answer_in g; length = length_in g; count = total_steps (size g) })
    (record { answer = start_answer (length g.r) room; length = 0; count = 0 })

-- the output, which held o
unfoldable pub output_of : Given → List ℕ → List ℕ
output_of g o = cond (eqb (start_answer (length g.r) (length o)) Done) (body_after g ++ drop (size g) o) o
