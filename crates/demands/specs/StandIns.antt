-- The stand-ins that the statements must rule out, each as a sealer, an opener or a stepper. Assumes nothing.
use Rattle.std.specs.Prelude.{true, cond, not, ◌&&◌, List, ◌++◌, ℕ, suc, ◌+◌, ◌-◌, eqb, ltb, length, drop, replicate}
use Rattle.answers.specs.Answers.{Done, NoRoom, TooBig, BadRecord}
use Rattle.words.specs.Lists.{put}
use Rattle.sizes.specs.Sizes.{total_steps}
use Rattle.steps.specs.declared.OpeningCbc.{OpeningCbc}
use Rattle.steps.specs.State.{report, ended_with, all_zero}
use Rattle.steps.specs.Step.{changed, stepped, output_after}
use Rattle.record.specs.Limits.{iv_len}
use Rattle.record.specs.Opened.{last_byte}
use Rattle.record.specs.Sealing.{report_of}
use Rattle.record.specs.Standard.{sealed_length, sealed_record}
use Rattle.opening.specs.Deprotected.{deprotected, output_of}
use Rattle.opening.specs.Given.{Given, size, decrypted, accepted, length_in}
use Rattle.demands.specs.Openers.{Sealer, Opener, our_opener, laid, blank}
use Rattle.demands.specs.Steppers.{Stepper, ours}

-- ---- openers

-- refuses every record
abbrev pub refuses_all : Opener
refuses_all g o = (record { answer = BadRecord; length = 0; count = total_steps (size g) }, blank (size g) o)

-- gives one fixed text, whatever the record is
abbrev pub fixed_text : List ℕ → Opener
fixed_text text g o = (record { answer = Done; length = length text; count = total_steps (size g) }, laid text (size g) o)

-- ours, but a refused record's decryption stays in the output
abbrev pub leaks : Opener
leaks g o = (
  deprotected g (length o),
  cond (eqb (deprotected g (length o)).answer BadRecord) (decrypted g ++ drop (size g) o) (output_of g o),
)

-- ours, but a refused record's decryption is left behind its place, where the output goes on
abbrev pub leaks_behind : Opener
leaks_behind g o = (
  deprotected g (length o),
  cond (eqb (deprotected g (length o)).answer BadRecord) (replicate (size g) 0 ++ put 0 (decrypted g) (drop (size g) o)) (output_of g o),
)

-- ours, but the length reported with answer 6 is what the padding says of itself
abbrev pub tells_length : Opener
tells_length g o =
    let t = deprotected g (length o) in (
      record { answer = t.answer; length = cond (eqb t.answer BadRecord) (last_byte (decrypted g)) t.length; count = t.count },
      output_of g o,
    )

-- ours, but 2 comes before the size of the record is looked at
abbrev pub room_first : Opener
room_first g o = cond (ltb (length o) (size g)) (record { answer = NoRoom; length = 0; count = 0 }, o) (our_opener g o)

-- ---- sealers

-- reports as ours does, and writes nothing
abbrev pub seals_nothing : Sealer
seals_nothing keys seq type version iv text out = (report_of (length text) (length out), out)

-- seals a text of any length
abbrev pub seals_any_length : Sealer
seals_any_length keys seq type version iv text out =
    cond (ltb (length out) (sealed_length (length text))) (record { answer = NoRoom; length = 0 }, out)
    (record { answer = Done; length = sealed_length (length text) }, put 0 (sealed_record keys seq type version iv text) out)

-- a pair by which every text comes back, and nothing is enciphered: one writes the text as it is, the other hands it out
abbrev pub copies : Sealer
copies keys seq type version iv text out = (record { answer = Done; length = length text }, put 0 text out)

abbrev pub copies_back : Opener
copies_back g o =
    let n = sealed_length (length g.r) - iv_len in
    (record { answer = Done; length = length g.r; count = total_steps n }, laid g.r n o)

-- ---- steppers

-- a step that reports as ours does, and writes nothing
abbrev pub writes_nothing : Stepper
writes_nothing = record { start = ours.start; step = λ s r o. (stepped s r o, o) }

-- what an opening is given, as far as its state and the record tell
abbrev pub given_of : OpeningCbc → List ℕ → Given
given_of s r =
    record {
      keys = record { mac_key = s.mac_key; enc_key = s.enc_key };
      seq = s.seq;
      type = s.content_type;
      version = s.version;
      r = r;
    }

-- does everything in step 1, keeps the verdict in the padding mark and the length held, and then idles: places, counts, the last
-- report and the last output are those of ours
abbrev pub rushes : Stepper
rushes =
    record {
      start = ours.start;
      step = λ s r o.
          cond (eqb s.done 0) (
            report (changed s s.words s.kept (length_in (given_of s r)) (accepted (given_of s r))) Done 0 1,
            output_of (given_of s r) o,
          )
          (cond (ltb (s.done + 1) s.total)
          (report (changed s s.words s.kept s.held s.pad_ok) Done 0 (s.done + 1), o)
          (
          let a = cond s.pad_ok Done BadRecord in
          (report (ended_with s.n s.total true a) a s.held s.total, o)
          ));
    }

-- ours but for the count, which is one more
abbrev pub own_count : Stepper
own_count =
    record {
      start = ours.start;
      step = λ s r o.
          let t = stepped s r o in
          (report t.opening t.answer t.length (suc t.count), output_after s r o);
    }

-- ours, but wrong padding is answered 5 and a wrong MAC 6
abbrev pub tells_apart : Stepper
tells_apart =
    record {
      start = ours.start;
      step = λ s r o.
          let t = stepped s r o in (
            report t.opening (cond (eqb t.answer BadRecord) (cond s.pad_ok BadRecord TooBig) t.answer) t.length t.count,
            output_after s r o,
          );
    }

-- ours, but on an ended opening it answers 0, hands back one that has not ended, and overwrites the output
abbrev pub revives : Stepper
revives =
    record {
      start = ours.start;
      step = λ s r o. cond s.ended (report all_zero Done 0 0, r) (stepped s r o, output_after s r o);
    }

-- ours, but while it runs a step reports the padding mark as a length
abbrev pub tells_early : Stepper
tells_early =
    record {
      start = ours.start;
      step = λ s r o.
          let t = stepped s r o in
          (report t.opening t.answer (cond (t.opening.pad_ok && eqb t.answer Done) 1 t.length) t.count, output_after s r o);
    }

-- ours, but on an opening that no start leads to, one that is not ended and holds an answer, it does no work and writes the cipher key
abbrev pub strays : Stepper
strays =
    record {
      start = ours.start;
      step = λ s r o.
          cond (ltb 0 s.answer && not s.ended) (report s Done 0 0, put 0 s.enc_key o) (stepped s r o, output_after s r o);
    }
