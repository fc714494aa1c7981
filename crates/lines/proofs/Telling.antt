-- What is written of a chunk, step by step, and at the end of the input. Assumes nothing.
use mathlib.Core.Bool.{Bool, true, false, cond}
use mathlib.Core.List.{List, [], ◌∷◌, ◌++◌, map}
use mathlib.Core.Path.{◌≡◌, refl, sym, ap, ◌∙◌}
use Prim.Native.Nat.{ℕ, ◌+◌, ◌*◌, ◌≤◌, ◌<◌}
use native.Mathlib.Omega.{arith}
use borrow.Author.Tests.{lt-ltb, le-ltb}
use lib.ListN.{length, drop, length-append}
use Rattle.std.specs.Prelude.{Ok}
use Rattle.words.specs.Lists.{put}
use Rattle.words.proofs.Lists.{length-put}
use Rattle.words.proofs.Puts.{put-put}
use Rattle.lines.specs.Judgement.{max_line_len, judged_line}
use Rattle.lines.specs.Promise.{JudgedPut, ChunkTold, LastTold}
use Rattle.lines.specs.Reading.{MOST, fresh, advanced, finished, begun, is_begun}
use Rattle.lines.specs.Telling.{most_text, chunk_text, last_text, ended_text, next_line, no_room}
use Rattle.lines.specs.Telling.{chunk_report, chunk_output, last_report, last_output}
use Rattle.lines.specs.Text.{text_of, printed}
use Rattle.lines.specs.declared.Judged.{Judged}
use Rattle.lines.specs.declared.Line.{Line}
use Rattle.lines.specs.declared.Step.{Step}
use Rattle.lines.proofs.Steps.{by_step, left_of, begun_advance, finished_advance, advance_moves}
use Rattle.lines.proofs.Texts.{chunk_short, last-text, line_short}
use Rattle.lines.proofs.Writing.{put_nothing}

-- ---- one step

-- the text of what is left begins with that of the line that the step ended
step-text : (line : Line) (l : List ℕ) → line.count ≤ MOST
    → chunk_text line l ≡ ended_text (advanced line l) ++ chunk_text (next_line (advanced line l)) (left_of (advanced line l) l)
unfolding printed finished
step-text line l h =
    ap (λ (k : List Line). printed (map (judged_line max_line_len) k)) (finished_advance line h l) ∙ by (advanced line l)
  where
    by : (s : Step)
        → printed (map (judged_line max_line_len) (by_step (λ k used. k ∷ finished fresh (drop used l)) (λ k. []) s))
        ≡ ended_text s ++ chunk_text (next_line s) (left_of s l)
    by (Step.Ended k used) = refl
    by (Step.Begun k) = refl

-- ---- a loop of steps

-- before a turn: the line begun, what is left of the chunk, the bytes written and the output leave the rest to write
pub record Telling (line : Line) (chunk out : List ℕ) (o : List ℕ) (current : Line) (rest : List ℕ) (n : ℕ) : Type 0 where
  pub counted : current.count ≤ MOST
  pub same : begun current rest ≡ begun line chunk
  pub bytes : n + length (chunk_text current rest) ≡ length (chunk_text line chunk)
  pub laid : put n (chunk_text current rest) o ≡ put 0 (chunk_text line chunk) out
  pub long : length o ≡ length out
  pub room : most_text * length chunk ≤ length out

-- at the start all is left
pub telling-none : {line : Line} {chunk out : List ℕ} → line.count ≤ MOST → most_text * length chunk ≤ length out
    → Telling line chunk out out line chunk 0
telling-none h r =
    record { counted = h; same = refl; bytes = omega arith; laid = refl; long = refl; room = r }

-- a fresh line is counted no further than a usize goes
fresh-counted : fresh.count ≤ MOST
unfolding fresh
fresh-counted = omega arith

module _ {line : Line} {chunk out o : List ℕ} {current : Line} {rest : List ℕ} {n : ℕ}
    (p : Telling line chunk out o current rest n) where
  -- a step that ends a line, and the text that is written of it
  module _ {k : Line} {used : ℕ} (e : Step.Ended k used ≡ advanced current rest)
      {j : Judged} {m : ℕ} {o₁ : List ℕ} (f : j ≡ judged_line max_line_len k) (q : JudgedPut j o n m o₁) where
    -- the text stands in front of what is left to write
    text_split : chunk_text current rest ≡ text_of j ++ chunk_text fresh (drop used rest)
    text_split = rw f (step-text current rest p.counted ∙ rw (← e))

    -- so it has room, and the step stays inside what is left
    pub turn-bounds : (n + m ≤ length o) × (0 < used) × (used ≤ length rest)
    turn-bounds =
        let both = length-append (text_of j) (chunk_text fresh (drop used rest)) in
        let moved = advance_moves current rest e in (
          omega (arith, ap length text_split, both, q.result, p.bytes, p.long, p.room, chunk_short line chunk),
          moved.0,
          moved.1,
        )

    -- one turn
    pub telling-more : {next : Line} {behind : List ℕ} → next ≡ fresh → behind ≡ drop used rest
        → Telling line chunk out o₁ next behind (n + m)
    telling-more {next} {behind} g h =
        let left = chunk_text fresh (drop used rest) in
        let both = length-append (text_of j) left in
        let same : begun current rest ≡ begun fresh (drop used rest) =
        begun_advance current p.counted rest ∙ rw (← e) in
        rw (g, h)
        (record {
          counted = fresh-counted;
          same = sym same ∙ p.same;
          bytes = omega (arith, ap length text_split, both, q.result, p.bytes);
          laid =
              ap (put (n + m) left) q.output
              ∙ put-put n (n + m) (text_of j) left o (omega (arith, q.result))
              (omega (arith, ap length text_split, both, q.result, p.bytes, p.long, p.room, chunk_short line chunk))
              ∙ ap (λ (x : List ℕ). put n x o) (sym text_split)
              ∙ p.laid;
          long = ap length q.output ∙ length-put n (text_of j) o ∙ p.long;
          room = p.room;
        })

  -- a step that ends none: all is written
  pub chunk_told : {k : Line} → Step.Begun k ≡ advanced current rest
      → ChunkTold line chunk out (Ok (record { line = k; length = n })) o
  unfolding chunk_report chunk_output begun finished printed
  chunk_told {k} e =
      let none : chunk_text current rest ≡ [] = step-text current rest p.counted ∙ rw (← e) in
      let left : k ≡ begun line chunk = sym (begun_advance current p.counted rest ∙ rw (← e)) ∙ p.same in
      let bytes : n ≡ length (chunk_text line chunk) = omega (arith, ap length none, p.bytes) in
      let fits : n ≤ length o = omega (arith, bytes, p.long, p.room, chunk_short line chunk) in
      let laid : o ≡ put 0 (chunk_text line chunk) out = sym (put_nothing n o fits) ∙ (rw none at p.laid) in
      let room = le-ltb (length out) (most_text * length chunk) p.room in
      record { result = rw (room, left, bytes); output = rw room laid }

-- ---- the end of the input

-- the text of a line, or nothing, has room
pub begun-short : (line : Line) (t : Bool) → length (cond t (text_of (judged_line max_line_len line)) []) ≤ most_text
begun-short line true = line_short line
begun-short line false = omega arith

-- without room nothing is written
pub last-refused : (line : Line) (out : List ℕ) → length out < most_text → LastTold line out no_room out
unfolding last_report last_output
last-refused line out h =
    let short = lt-ltb (length out) most_text h in
    record { result = rw short; output = rw short }

-- with room, of a line that is begun, its text
pub last-told : {line : Line} {out o : List ℕ} {next : Line} {j : Judged} {n : ℕ} → most_text ≤ length out
    → is_begun line ≡ true → j ≡ judged_line max_line_len line → JudgedPut j out 0 n o → next ≡ fresh
    → LastTold line out (Ok (record { line = next; length = n })) o
unfolding last_report last_output
last-told {line} {out} {o} {next} {j} {n} h b e p f =
    let text : last_text line ≡ text_of j = rw e (last-text line ∙ rw b) in
    let room = le-ltb (length out) most_text h in
    record { result = rw (room, text, f, p.result); output = rw (room, text) p.output }

-- with room, of one of which nothing is read, nothing
pub last-none : {line : Line} {out : List ℕ} {next : Line} → most_text ≤ length out → is_begun line ≡ false
    → next ≡ fresh → LastTold line out (Ok (record { line = next; length = 0 })) out
unfolding last_report last_output
last-none {line} {out} {next} h b f =
    let text : last_text line ≡ [] = last-text line ∙ rw b in
    let room = le-ltb (length out) most_text h in
    record { result = rw (room, text, f); output = rw (room, text) (sym (put_nothing 0 out (omega arith))) }

-- ---- a chunk

-- without room nothing is written
pub chunk_refused : (line : Line) (chunk out : List ℕ) → length out < most_text * length chunk
    → ChunkTold line chunk out no_room out
unfolding chunk_report chunk_output
chunk_refused line chunk out h =
    let short = lt-ltb (length out) (most_text * length chunk) h in
    record { result = rw short; output = rw short }
