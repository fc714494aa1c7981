-- Demand 2 for records, over ANY sealer and ANY opener: functions on values, with the contents that lent memory has before and
-- after. The sealer and the opener of this library are those that the contracts of `protect_cbc` and `deprotect_cbc` name.
-- Assumes nothing.
use Rattle.std.specs.Prelude.{List, ◌++◌, ◌↔◌, ◌≡◌, ℕ, ◌-◌, ◌≤◌, length, take, drop, replicate}
use Rattle.answers.specs.Answers.{Done, BadRecord}
use Rattle.words.specs.Bytes.{Bytes}
use Rattle.words.specs.Lists.{put}
use Rattle.sm4.specs.Block.{Block}
use Rattle.record.specs.declared.RecordKeysCbc.{RecordKeysCbc}
use Rattle.record.specs.Sealing.{Sealed}
use Rattle.record.specs.Limits.{iv_len}
use Rattle.record.specs.Sealing.{report_of, output_of as sealedOutput}
use Rattle.record.specs.Standard.{body_of, sealed_record, sealed_length}
use Rattle.sizes.specs.Sizes.{total_steps}
use Rattle.opening.specs.declared.Opened.{Opened}
use Rattle.opening.specs.Deprotected.{deprotected, output_of}
use Rattle.opening.specs.Given.{Given, size, decrypted, tag_in}
use Rattle.demands.specs.Checks.{Sealable, NotSealed, Openable, NotOpened}

-- keys, number, type, version, IV, text, and what the output held: the report, and what the output then holds
abbrev pub Sealer : Type 0
Sealer = RecordKeysCbc → ℕ → ℕ → List ℕ → List ℕ → List ℕ → List ℕ → Sealed × List ℕ

-- keys, number, type, version, record, and what the output held: the report, and what the output then holds
abbrev pub Opener : Type 0
Opener = Given → List ℕ → Opened × List ℕ

-- `protect_cbc`
abbrev pub our_sealer : Sealer
our_sealer keys seq type version iv text out = (report_of (length text) (length out), sealedOutput keys seq type version iv text out)

-- `deprotect_cbc`
abbrev pub our_opener : Opener
our_opener g o = (deprotected g (length o), output_of g o)

-- the text in an output of which the first n bytes are the body's place: zeros behind it up to n, the rest as found
abbrev pub laid : List ℕ → ℕ → List ℕ → List ℕ
laid text n o = text ++ (replicate (n - length text) 0 ++ drop n o)

-- n zeros in the body's place, the rest as found
abbrev pub blank : ℕ → List ℕ → List ℕ
blank n o = replicate n 0 ++ drop n o

-- ---- sealing

-- STATED RECORD. What is written for a text up to 16,384 bytes is the IV, and CBC of text, MAC and shortest padding; what
-- stood behind it stays.
unfoldable pub StatedRecord : Sealer → Type 0
StatedRecord seal =
    (keys : RecordKeysCbc) (seq type : ℕ) (version iv text out : List ℕ)
    → Sealable (length text) (length out)
    → seal keys seq type version iv text out
    ≡ (record { answer = Done; length = sealed_length (length text) }, put 0 (sealed_record keys seq type version iv text) out)

-- SEALING REFUSED. A text that is too long is answered 1, and one without room 2; the length is 0 and the output as found.
unfoldable pub SealRefusals : Sealer → Type 0
SealRefusals seal =
    (keys : RecordKeysCbc) (seq type : ℕ) (version iv text out : List ℕ) (answer : ℕ)
    → NotSealed (length text) (length out) answer
    → seal keys seq type version iv text out ≡ (record { answer = answer; length = 0 }, out)

-- ROUND TRIP. Every text up to 16,384 bytes under every key, number, type, version and IV, sealed into any buffer with room and
-- opened into any buffer with room, is answer 0 with that text, its length, T, zeros up to n, the rest as found.
unfoldable pub RoundTrip : Sealer → Opener → Type 0
RoundTrip seal opens =
    (keys : RecordKeysCbc) (seq type : ℕ) (version iv text out o : List ℕ)
    → Bytes text → Block iv → Sealable (length text) (length out) → sealed_length (length text) - iv_len ≤ length o
    → let sealed = seal keys seq type version iv text out in
    let g : Given = record { keys = keys; seq = seq; type = type; version = version; r = take sealed.0.length sealed.1 } in
    let n = sealed_length (length text) - iv_len in
    opens g o ≡ (record { answer = Done; length = length text; count = total_steps n }, laid text n o)

-- ---- opening

-- the CBC decryption of the body is this text, its MAC, and p + 1 bytes of value p
pub record IsBody (g : Given) (text : List ℕ) (p : ℕ) : Type 0 where
  pub padding : p ≤ 255
  pub body : decrypted g ≡ body_of (tag_in g) text p

-- EXACT ACCEPTANCE. For every record of bytes that passes the size and room checks: answer 6 exactly if its decryption is no text,
-- that text's MAC and padding, and then nothing of it is left; answer 0 exactly if it is, and then that text, which is the only one.
pub record Exact (g : Given) (o : List ℕ) (y : Opened × List ℕ) : Type 0 where
  pub refused : (y.0.answer ≡ BadRecord) ↔ ((text : List ℕ) (p : ℕ) → IsBody g text p → ⊥)
  pub cleared : y.0.answer ≡ BadRecord
      → y ≡ (record { answer = BadRecord; length = 0; count = total_steps (size g) }, blank (size g) o)
  pub accepted : (y.0.answer ≡ Done) ↔ ((text : List ℕ) × (p : ℕ) × IsBody g text p)
  pub handed_out : (text : List ℕ) (p : ℕ) → IsBody g text p
      → y ≡ (record { answer = Done; length = length text; count = total_steps (size g) }, laid text (size g) o)
  pub unique : (text text' : List ℕ) (p p' : ℕ) → IsBody g text p → IsBody g text' p' → (text ≡ text') × (p ≡ p')

unfoldable pub ExactAcceptance : Opener → Type 0
ExactAcceptance opens =
    (g : Given) (o : List ℕ) → Bytes g.r → Openable (length g.r) (length o) → Exact g o (opens g o)

-- OPENING REFUSED before all work: 3, 4, 5 or 2; length and count are 0 and the output as found.
unfoldable pub OpenRefusals : Opener → Type 0
OpenRefusals opens =
    (g : Given) (o : List ℕ) (answer : ℕ) → NotOpened (length g.r) (length o) answer
    → opens g o ≡ (record { answer = answer; length = 0; count = 0 }, o)

-- Demand 2 for records
pub record Demand2 (seal : Sealer) (opens : Opener) : Type 0 where
  pub stated_record : StatedRecord seal
  pub seal_refusals : SealRefusals seal
  pub round_trip : RoundTrip seal opens
  pub exact_acceptance : ExactAcceptance opens
  pub open_refusals : OpenRefusals opens

-- ---- demand 3 for one call

-- two outcomes: if both refuse, the reports are equal, and each output has n zeros and the rest as found
abbrev pub BothRefuse : Given → Given → List ℕ → List ℕ → Opened × List ℕ → Opened × List ℕ → Type 0
BothRefuse g h o q y z =
    (y.0.answer ≡ Done → ⊥) → (z.0.answer ≡ Done → ⊥)
    → (y.0 ≡ z.0) × (y.1 ≡ blank (size g) o) × (z.1 ≡ blank (size h) q)

-- CALLS LOOK ALIKE. Of a record that passes the checks the count is T, which follows from its length alone, accepted or refused; and
-- two refusals of records of equal length have equal reports, and outputs with n zeros and the rest as found, whatever else was given.
pub record CallsAlike (opens : Opener) : Type 0 where
  pub count : (g : Given) (o : List ℕ) → Openable (length g.r) (length o) → (opens g o).0.count ≡ total_steps (size g)
  pub alike : (g h : Given) (o q : List ℕ) → length g.r ≡ length h.r
      → Openable (length g.r) (length o) → Openable (length h.r) (length q)
      → BothRefuse g h o q (opens g o) (opens h q)
