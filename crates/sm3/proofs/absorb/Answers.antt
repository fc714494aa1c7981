-- `sm3::absorb` meets its contract: what stands behind the last whole block is laid over the front. Assumes nothing.
use Rattle.std.proofs.Common.{◌≡◌, ℕ, ◌≤◌, List, length, ap, ◌∙◌, arith}
use Rattle.words.specs.Lists.{put}
use Rattle.sm3.specs.State.{rest, absorbed}
use Rattle.sm3.proofs.Iteration.{length_rest}
use Rattle.sm3.proofs.Taken.{made, put-over}
use Rattle.sm3.proofs.absorb.Goals as goal

-- the state of these parts
of_parts : {v w b x : List ℕ} {n k t : ℕ} → v ≡ w → b ≡ x → n ≡ k → made v b n t ≡ made w x k t
of_parts p q r = rw (p, q, r)

pub returns : goal.returns
unfolding absorbed rest
returns c =
    let a = c.args in
    let d : List ℕ = a.«data».now in
    let small : length (rest d) ≤ length a.buffer = omega (arith, length_rest d) in
    of_parts c.blocks-2.ensures
    (c.copy_at.ensures.output ∙ ap (λ (x : List ℕ). put 0 x a.buffer) c.as_chunks.ensures.back ∙ put-over (rest d) a.buffer small)
    c.as_chunks.ensures.back_len
