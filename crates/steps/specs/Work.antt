-- Which work a step does: it follows from the body's length and the number of steps done. Assumes nothing.
use Rattle.std.specs.Prelude.{cond, ℕ, ◌+◌, ◌-◌, eqb, ltb}
use Rattle.sizes.specs.Sizes.{blocks, mac_steps}
use Rattle.steps.specs.declared.Work.{Work}

-- for a body of n bytes with k steps done
unfoldable pub work_at : ℕ → ℕ → Work
work_at n k =
    cond (ltb k (blocks n)) (Work.Decipher k)
    (cond (eqb k (blocks n)) Work.ReadPadding
    (cond (ltb k (blocks n + 1 + mac_steps n)) (Work.Inner (k - (blocks n + 1)))
    (cond (eqb k (blocks n + 1 + mac_steps n)) Work.OuterPad
    (cond (eqb k (blocks n + 2 + mac_steps n)) Work.OuterHash Work.Answering))))
