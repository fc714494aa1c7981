-- `lines::tell_last` meets its contract: a line that is begun is told of, and of one of which nothing is read nothing.
-- Assumes nothing.
use Rattle.std.proofs.Common.{sym, ◌∙◌}
use Rattle.lines.proofs.Telling.{last-refused, last-told, last-none}
use Rattle.lines.proofs.tell_last.Goals.{then-is_begun, else-is_begun}
use Rattle.lines.proofs.tell_last.Goals as goal

pub returns-then-out-lt-MOST_TEXT : goal.returns-then-out-lt-MOST_TEXT
returns-then-out-lt-MOST_TEXT c = last-refused c.args.line c.args.out.now c.if-out-lt-MOST_TEXT.true

pub returns : goal.returns
returns c =
    elim c.if-is_begun.branch [
      | then-is_begun w ↦
          rw (w.out-is, w.length-is)
          (last-told c.if-out-lt-MOST_TEXT.false (sym c.is_begun.ensures ∙ w.if-is_begun.true) w.judge_line.ensures w.put_judged-length.ensures c.start_line.ensures)
      | else-is_begun w ↦
          rw (w.out-is, w.length-is)
          (last-none c.if-out-lt-MOST_TEXT.false (sym c.is_begun.ensures ∙ w.if-is_begun.false) c.start_line.ensures)
    ]
