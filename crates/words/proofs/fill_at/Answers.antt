-- `words::fill_at` meets its contract: the part filled gave way to the front of a run of the byte. Assumes nothing.
use Rattle.std.proofs.Common.{◌≡◌, ℕ, ◌+◌, ◌-◌, min, length, take, drop, replicate, sym, ap, ◌∙◌, arith, length-drop, length-take-le}
use lib.ListN.{length-replicate}
use Rattle.words.proofs.Copy.{put_part, no_room}
use Rattle.words.proofs.Lists.{take-replicate}
use Rattle.words.proofs.fill_at.Goals as goal

pub returns-then-at-out : goal.returns-then-at-out
returns-then-at-out c =
    let a = c.args in
    let n = c.min-n.result in
    let k = a.at + n - a.at in
    let room : k ≡ n = omega arith in
    let part : length (take k (drop a.at a.out.now)) ≡ n =
    length-take-le k (drop a.at a.out.now) (omega (arith, length-drop a.at a.out.now, c.min-n.ensures)) ∙ room in
    let run = replicate a.count a.byte in
    let size : n ≡ min (length run) (length a.out.now - a.at) =
    omega (arith, c.min-n.ensures, length-replicate {A = ℕ} a.count a.byte) in
    let filled = c.fill.ensures.after (λ y e. e) in
    record {
      output =
          put_part a.at n k a.out.now run _ size room (omega arith)
          (filled ∙ ap (λ (m : ℕ). replicate m a.byte) part ∙ sym (take-replicate n a.count a.byte (omega (arith, c.min-n.ensures))));
    }

pub returns-else-at-out : goal.returns-else-at-out
returns-else-at-out c = record { output = no_room _ _ _ (omega arith) }
