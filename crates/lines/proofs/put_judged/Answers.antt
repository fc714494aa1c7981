-- `lines::put_judged` meets its contract: what is copied is what `put_text` laid in front of the zeros.
-- Assumes nothing.
use mathlib.Core.List.{List}
use mathlib.Core.Path.{ap, ◌∙◌}
use Prim.Native.Nat.{ℕ}
use native.Mathlib.Omega.{arith}
use Rattle.words.specs.Lists.{put}
use Rattle.lines.proofs.Writing.{put_front}
use Rattle.lines.proofs.put_judged.Goals as goal

pub returns : goal.returns
returns c =
    let text = c.put_text-n.ensures in
    record {
      result = omega (arith, text.laid.behind);
      output =
          c.copy_at.ensures.output
          ∙ ap (λ (x : List ℕ). put c.args.at x c.args.out.now) (put_front text.laid text.room);
    }
