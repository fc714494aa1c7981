-- `sm3::digest_of` meets its contract. The loop's invariant: the bytes of the first i words, and zeros behind them; the
-- measure is how many words are left. Assumes nothing.
use Rattle.std.proofs.Common.{◌≡◌, ℕ, ◌*◌, List, length, get_or, replicate, refl, ap, ◌∙◌, ap₂, append-nil, add-one, arith}
use Rattle.words.proofs.Bytes.{length-be}
use Rattle.words.proofs.Lists.{put_join, length-put}
use Rattle.words.specs.Lists.{join, put}
use Rattle.sm3.specs.Standard.{word_bytes, bytes_of}
use Rattle.sm3.proofs.digest_of.Goals as goal

pub loop-i-init : goal.loop-i-init
unfolding join
loop-i-init c = (omega arith, refl, refl)

pub loop-i-preserved : goal.loop-i-preserved
unfolding word_bytes
loop-i-preserved c =
    let l = c.loop-i in
    let v : List ℕ = c.args.v in
    let e = c.copy_at.ensures.output in (
      omega arith,
      ap length e ∙ length-put _ _ _ ∙ l.invariant.1,
      rw (add-one l.i)
          (e
          ∙ ap₂ (put (l.i * 4)) c.u32_to_be_bytes.ensures l.invariant.2
          ∙ put_join 4 (word_bytes v) l.i (replicate 32 0) (λ k b. length-be 4 (get_or v k 0)) (omega arith)),
    )

pub returns : goal.returns
unfolding bytes_of
returns c =
    let l = c.loop-i in
    let e : l.i ≡ 8 = omega arith in
    rw e at l.invariant.2 ∙ append-nil _
