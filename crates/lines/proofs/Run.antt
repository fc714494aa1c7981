-- A run over an input writes the text of its lines, however the input is cut into chunks. Assumes nothing.
use mathlib.Core.List.{List, ◌++◌, map, flatten}
use mathlib.Core.Path.{◌≡◌, sym, ap, ap₂, ◌∙◌}
use Prim.Native.Nat.{ℕ, ◌+◌, ◌*◌, ◌≤◌}
use native.Mathlib.Omega.{arith}
use borrow.Author.Tests.{le-ltb}
use lib.ListN.{length, take}
use Rattle.std.specs.Prelude.{Result, Err}
use Rattle.answers.specs.declared.Refusal.{Refusal}
use Rattle.words.proofs.Lists.{length-put}
use Rattle.words.proofs.Puts.{part-put}
use Rattle.lines.specs.Input.{lines}
use Rattle.lines.specs.Judgement.{max_line_len, judged}
use Rattle.lines.specs.Promise.{ChunkTold, LastTold}
use Rattle.lines.specs.Reading.{fresh, begun, is_begun, told, told_all}
use Rattle.lines.specs.Run.{Run, end, more}
use Rattle.lines.specs.Telling.{most_text, chunk_text, last_text, line_after, written}
use Rattle.lines.specs.Telling.{chunk_report, chunk_output, last_report, last_output}
use Rattle.lines.specs.Text.{printed}
use Rattle.lines.specs.declared.Line.{Line}
use Rattle.lines.specs.declared.Told.{Told}
use Rattle.lines.proofs.Chunks.{told-lines}
use Rattle.lines.proofs.Edges.{limit_counted}
use Rattle.lines.proofs.Texts.{chunk_short, last-text, printed-append}
use Rattle.lines.proofs.Telling.{begun-short}

-- a chunk with room: the bytes written are its text, and the line begun goes on
pub chunk_wrote : {line : Line} {chunk out : List ℕ} {report : Result Told Refusal} {out' : List ℕ}
    → most_text * length chunk ≤ length out → ChunkTold line chunk out report out'
    → (line_after line report ≡ begun line chunk) × (written report ≤ length out')
    × (take (written report) out' ≡ chunk_text line chunk)
unfolding chunk_report chunk_output
chunk_wrote {line} {chunk} {out} {report} {out'} h p =
    let room = le-ltb (length out) (most_text * length chunk) h in
    let r = rw room at p.result in
    let o = rw room at p.output in
    let fits : 0 + length (chunk_text line chunk) ≤ length out = omega (arith, chunk_short line chunk) in
    let long = length-put 0 (chunk_text line chunk) out in
    (rw r, rw (r, o, long) (omega arith), rw (r, o) (part-put 0 (chunk_text line chunk) out fits))

-- which is not refused
pub chunk_room : {line : Line} {chunk out out' : List ℕ} {why : Refusal}
    → most_text * length chunk ≤ length out → ChunkTold line chunk out (Err why) out' → ⊥
unfolding chunk_report
chunk_room {chunk = chunk} {out} h p =
    let r = rw (le-ltb (length out) (most_text * length chunk) h) at p.result in
    cc

-- the end of the input, with room
pub last-wrote : {line : Line} {out : List ℕ} {report : Result Told Refusal} {out' : List ℕ} → most_text ≤ length out
    → LastTold line out report out'
    → (line_after line report ≡ fresh) × (written report ≤ length out') × (take (written report) out' ≡ last_text line)
unfolding last_report last_output
last-wrote {line} {out} {report} {out'} h p =
    let room = le-ltb (length out) most_text h in
    let r = rw room at p.result in
    let o = rw room at p.output in
    let short = begun-short line (is_begun line) in
    let fits : 0 + length (last_text line) ≤ length out = rw (last-text line) (omega (arith, short)) in
    (rw r, rw (r, o, length-put 0 (last_text line) out) (omega arith), rw (r, o) (part-put 0 (last_text line) out fits))

-- which is not refused
pub last-room : {line : Line} {out out' : List ℕ} {why : Refusal} → most_text ≤ length out
    → LastTold line out (Err why) out' → ⊥
unfolding last_report
last-room {out = out} h p =
    let r = rw (le-ltb (length out) most_text h) at p.result in
    cc

-- a run writes the text of all that is said
run-printed : {line : Line} {chunks : List (List ℕ)} {bytes : List ℕ} → Run line chunks bytes
    → bytes ≡ printed (told_all max_line_len line chunks)
unfolding told_all
run-printed (end h p) = (last-wrote h p).2
run-printed (more {line} {chunk} {chunks = chunks} h p r) =
    let wrote = chunk_wrote h p in
    let rest = run-printed r ∙ ap (λ (k : Line). printed (told_all max_line_len k chunks)) wrote.0 in
    ap₂ (λ (a b : List ℕ). a ++ b) wrote.2 rest
    ∙ sym (printed-append (told max_line_len line chunk) (told_all max_line_len (begun line chunk) chunks))

-- however an input is cut into chunks, a run over them writes the text of its lines, in order
pub run-lines : {chunks : List (List ℕ)} {bytes : List ℕ} → Run fresh chunks bytes
    → bytes ≡ printed (map (judged max_line_len) (lines (flatten chunks)))
run-lines {chunks} r = run-printed r ∙ ap printed (told-lines max_line_len chunks limit_counted)
