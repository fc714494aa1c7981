-- The opening's states that a start makes and that an end leaves. Assumes nothing.
use Rattle.std.specs.Prelude.{Bool, false, cond, List, ℕ, ◌-◌, eqb, ltb, replicate}
use Rattle.answers.specs.Answers.{Done, NoRoom}
use Rattle.record.specs.declared.RecordKeysCbc.{RecordKeysCbc}
use Rattle.record.specs.Limits.{iv_len}
use Rattle.sizes.specs.Sizes.{size_answer, total_steps}
use Rattle.steps.specs.declared.OpeningCbc.{OpeningCbc}
use Rattle.steps.specs.declared.Stepped.{Stepped}

abbrev pub zero_words : List ℕ
zero_words = replicate 8 0

-- an opening and what is reported with it
abbrev pub report : OpeningCbc → ℕ → ℕ → ℕ → Stepped
report s answer len count = record { opening = s; answer = answer; length = len; count = count }

-- n, T, the ended mark and the answer; all else zero
unfoldable pub ended_with : ℕ → ℕ → Bool → ℕ → OpeningCbc
ended_with n total ended answer =
    record {
      words = zero_words;
      kept = zero_words;
      mac_key = replicate 32 0;
      enc_key = replicate 16 0;
      seq = 0;
      content_type = 0;
      version = replicate 2 0;
      n = n;
      total = total;
      done = 0;
      held = 0;
      pad_ok = false;
      ended = ended;
      answer = answer;
    }

-- what a refused start hands back
abbrev pub all_zero : OpeningCbc
all_zero = ended_with 0 0 false 0

-- keys, header parts and sizes set; no step done
unfoldable pub begun : RecordKeysCbc → ℕ → ℕ → List ℕ → ℕ → OpeningCbc
begun keys seq type version n =
    record {
      words = zero_words;
      kept = zero_words;
      mac_key = keys.mac_key;
      enc_key = keys.enc_key;
      seq = seq;
      content_type = type;
      version = version;
      n = n;
      total = total_steps n;
      done = 0;
      held = 0;
      pad_ok = false;
      ended = false;
      answer = 0;
    }

-- for a record of r bytes and so much room: 3, 4, 5, then 2
unfoldable pub start_answer : ℕ → ℕ → ℕ
start_answer r room = cond (eqb (size_answer r) Done) (cond (ltb room (r - iv_len)) NoRoom Done) (size_answer r)

-- `start_cbc`
unfoldable pub started : RecordKeysCbc → ℕ → ℕ → List ℕ → ℕ → ℕ → Stepped
started keys seq type version r room =
    cond (eqb (start_answer r room) Done)
    (report (begun keys seq type version (r - iv_len)) Done 0 0)
    (report all_zero (start_answer r room) 0 0)
