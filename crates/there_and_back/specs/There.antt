-- What comes of sealing a text and opening its record, on all input. Assumes nothing.
use Rattle.std.specs.Prelude.{cond, List, ℕ, ◌-◌, eqb, ltb, length}
use Rattle.answers.specs.Answers.{Done, NoRoom}
use Rattle.record.specs.Limits.{iv_len}
use Rattle.record.specs.Sealing.{answer_of}
use Rattle.record.specs.Standard.{sealed_length}
use Rattle.sizes.specs.Sizes.{total_steps}
use Rattle.opening.specs.declared.Opened.{Opened}
use Rattle.demands.specs.Openers.{laid}

-- n, the length of the sealed body of a text of L bytes
abbrev pub body_length : ℕ → ℕ
body_length L = sealed_length L - iv_len

-- for a text of L bytes, a record buffer with so much room and an output with so much
unfoldable pub report_for : ℕ → ℕ → ℕ → Opened
report_for L room space =
    cond (eqb (answer_of L room) Done)
    (cond (ltb space (body_length L))
    (record { answer = NoRoom; length = 0; count = 0 })
    (record { answer = Done; length = L; count = total_steps (body_length L) }))
    (record { answer = answer_of L room; length = 0; count = 0 })

-- the output, which held o: the text, zeros up to n and the rest as found; as found where nothing was opened
unfoldable pub out_for : List ℕ → ℕ → List ℕ → List ℕ
out_for text room o =
    cond (eqb (answer_of (length text) room) Done)
    (cond (ltb (length o) (body_length (length text))) o (laid text (body_length (length text)) o))
    o
