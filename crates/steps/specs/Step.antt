-- One step, on every opening s, record r and output o: the opening afterwards with its report, and the output. Assumes nothing.
use Rattle.std.specs.Prelude.{Bool, true, cond, not, ◌&&◌, ◌||◌, List, ◌++◌, ℕ, ◌+◌, ◌-◌, ◌*◌, eqb, leb, ltb, length, take, drop}
use Rattle.answers.specs.Answers.{Done, BadState, Ended}
use Rattle.words.specs.Lists.{put}
use Rattle.sm3.specs.Standard.{bytes_of}
use Rattle.sm4.specs.Standard.{decrypt, round_keys_of}
use Rattle.cbc.specs.Cbc.{plain}
use Rattle.record.specs.Limits.{iv_len, mac_len}
use Rattle.record.specs.Opened.{good_pad, held as heldIn}
use Rattle.record.specs.Standard.{header}
use Rattle.sizes.specs.Sizes.{allowed, total_steps}
use Rattle.mac_blocks.specs.declared.MacWords.{MacWords}
use Rattle.mac_blocks.specs.Schedule.{inner_key, inner_block, outer_key, outer_digest}
use Rattle.verdict.specs.declared.Verdict.{Verdict}
use Rattle.verdict.specs.Verdict.{verdict_of, cleared_from}
use Rattle.steps.specs.declared.OpeningCbc.{OpeningCbc}
use Rattle.steps.specs.declared.Stepped.{Stepped}
use Rattle.steps.specs.declared.Work.{Work}
use Rattle.steps.specs.State.{report, ended_with}
use Rattle.steps.specs.Work.{work_at}

-- answer 7, for a record of r bytes and so much room: n not allowed, T not that of n, T or more steps done in an opening not
-- ended, the length held above n - 33, the record not of n + 16 bytes, or the output below n
unfoldable pub broken : OpeningCbc → ℕ → ℕ → Bool
broken s r room =
    not (allowed s.n)
    || (not (eqb s.total (total_steps s.n))
    || ((not s.ended && leb s.total s.done)
    || (ltb (s.n - (mac_len + 1)) s.held
    || (not (eqb r (s.n + iv_len))
    || ltb room s.n))))

-- one step more done, and other words, kept words, length held and padding mark
unfoldable pub changed : OpeningCbc → List ℕ → List ℕ → ℕ → Bool → OpeningCbc
changed s words kept held mark =
    record {
      words = words;
      kept = kept;
      mac_key = s.mac_key;
      enc_key = s.enc_key;
      seq = s.seq;
      content_type = s.content_type;
      version = s.version;
      n = s.n;
      total = s.total;
      done = s.done + 1;
      held = held;
      pad_ok = mark;
      ended = s.ended;
      answer = s.answer;
    }

-- the body in the output
abbrev pub body : OpeningCbc → List ℕ → List ℕ
body s o = take s.n o

-- header and text cut to the length held
unfoldable pub message : OpeningCbc → List ℕ → List ℕ
message s o = header s.seq s.content_type s.version s.held ++ take s.held o

-- the words and the kept words after block j of it
unfoldable pub hashed : OpeningCbc → List ℕ → ℕ → MacWords
hashed s o j = inner_block (record { words = s.words; kept = s.kept }) (message s o) j

-- the mark, and the MAC behind the text against the chaining words
unfoldable pub verdict : OpeningCbc → List ℕ → Verdict
verdict s o = verdict_of s.pad_ok (take mac_len (drop s.held o)) (bytes_of s.words) s.held

-- the opening after a piece of work
unfoldable pub opening_by : Work → OpeningCbc → List ℕ → OpeningCbc
opening_by (Work.Decipher k) s o = changed s s.words s.kept s.held s.pad_ok
opening_by Work.ReadPadding s o = changed s (inner_key s.mac_key) s.kept (heldIn (body s o)) (good_pad (body s o))
opening_by (Work.Inner j) s o = changed s (hashed s o j).words (hashed s o j).kept s.held s.pad_ok
opening_by Work.OuterPad s o = changed s (outer_key s.mac_key) s.kept s.held s.pad_ok
opening_by Work.OuterHash s o = changed s (outer_digest s.words s.kept) s.kept s.held s.pad_ok
opening_by Work.Answering s o = ended_with s.n s.total true (verdict s o).answer

-- what is reported with it: the number of steps done, and at the end the verdict and T
unfoldable pub report_by : Work → OpeningCbc → List ℕ → Stepped
report_by (Work.Decipher k) s o = report (opening_by (Work.Decipher k) s o) Done 0 (s.done + 1)
report_by Work.ReadPadding s o = report (opening_by Work.ReadPadding s o) Done 0 (s.done + 1)
report_by (Work.Inner j) s o = report (opening_by (Work.Inner j) s o) Done 0 (s.done + 1)
report_by Work.OuterPad s o = report (opening_by Work.OuterPad s o) Done 0 (s.done + 1)
report_by Work.OuterHash s o = report (opening_by Work.OuterHash s o) Done 0 (s.done + 1)
report_by Work.Answering s o = report (opening_by Work.Answering s o) (verdict s o).answer (verdict s o).length s.total

-- the output after it: a block deciphered, or what is no text cleared; every other step only reads
unfoldable pub output_by : Work → OpeningCbc → List ℕ → List ℕ → List ℕ
output_by (Work.Decipher k) s r o = put (k * 16) (plain (decrypt (round_keys_of s.enc_key)) r k) o
output_by Work.ReadPadding s r o = o
output_by (Work.Inner j) s r o = o
output_by Work.OuterPad s r o = o
output_by Work.OuterHash s r o = o
output_by Work.Answering s r o = cleared_from (verdict s o).length (body s o) ++ drop s.n o

-- `step_cbc`: 7, then 8, then the work
unfoldable pub stepped : OpeningCbc → List ℕ → List ℕ → Stepped
stepped s r o =
    cond (broken s (length r) (length o)) (report s BadState 0 0)
    (cond s.ended (report s Ended 0 0) (report_by (work_at s.n s.done) s o))

unfoldable pub output_after : OpeningCbc → List ℕ → List ℕ → List ℕ
output_after s r o =
    cond (broken s (length r) (length o)) o
    (cond s.ended o (output_by (work_at s.n s.done) s r o))
