-- `sm3::absorb_behind` meets its contract: the block stays short, or is completed. Assumes nothing.
use Rattle.std.proofs.Common.{ℕ, ◌+◌, ◌-◌, List, length, sym, ap, ◌∙◌, arith, length-take-le, rules}
use Rattle.words.proofs.Lists.{part_to_end}
use Rattle.sm3.proofs.Taken.{made, taken-short, taken_full}
use Rattle.sm3.proofs.absorb_behind.Goals as goal

-- the block stays short
pub returns-then-data-need : goal.returns-then-data-need
returns-then-data-need c =
    let h = c.args.h in
    let d : List ℕ = c.args.«data».now in
    ap (λ (b : List ℕ). made h.state b (h.buffer_len + length d) c.args.total) c.copy_at.ensures.output
    ∙ sym (taken-short h d c.args.total (search rules) c.requires.0 c.requires.1 (omega arith))

pub slice_bounds-copy_at-end-3 : goal.slice_bounds-copy_at-end-3
slice_bounds-copy_at-end-3 c = sym (length-take-le _ _ (omega arith))

-- the block is completed
pub returns : goal.returns
returns c =
    let h = c.args.h in
    let d : List ℕ = c.args.«data».now in
    let b = c.copy_at-2.ensures.output in
    let v = c.compress-next.ensures in
    let x = part_to_end (64 - h.buffer_len) d in
    c.absorb.ensures
    ∙ rw (v, b, x) (sym (taken_full h d c.args.total (search rules) c.requires.0 c.requires.1 (omega arith)))
