-- The output before the last step: the first blocks of the decryption, and the rest as found. Assumes nothing.
use mathlib.Core.Bool.{Bool, true, false, cond}
use mathlib.Core.List.{List, ◌++◌}
use mathlib.Core.Path.{◌≡◌, sym, ap, ◌∙◌}
use Prim.Native.Nat.{ℕ, suc, ◌+◌, ◌*◌, ◌≤◌, ◌<◌}
use native.Mathlib.Omega.{arith}
use borrow.Author.Tests.{lt-ltb, le-ltb}
use lib.Dec.{ltb}
use lib.ListN.{length, take, drop, length-append, length-take, length-drop}
use lib.Seq.{take_all, take_at, take-append-le, drop_at, drop-append-le}
use Rattle.words.specs.Lists.{join, put}
use Rattle.words.proofs.Lists.{take_join, put_join}
use Rattle.record.specs.Opened.{held, text_in, mac_in}
use Rattle.sizes.specs.Sizes.{blocks, total_steps}
use Rattle.verdict.proofs.Cleared.{length-cleared}
use Rattle.opening.specs.Closed.{written, out_after}
use Rattle.opening.specs.Deprotected.{body_after}
use Rattle.opening.specs.Given.{Given, size, decrypted, length_in}
use Rattle.opening.proofs.Fits.{Fits, block_of, sized-block, decrypted-blocks, length-decrypted, held_fits}
use Rattle.opening.proofs.Tag.{cleared-at-end}

-- before step T
pub out_before : (g : Given) (o : List ℕ) (k : ℕ) → k < total_steps (size g)
    → out_after g o k ≡ take (written g k) (decrypted g) ++ drop (written g k) o
unfolding out_after
out_before g o k h = rw (lt-ltb k (total_steps (size g)) h)

-- after it
pub out-end : (g : Given) (o : List ℕ) → out_after g o (total_steps (size g)) ≡ body_after g ++ drop (size g) o
unfolding out_after
out-end g o = rw (le-ltb (total_steps (size g)) (total_steps (size g)) (omega arith))

module _ (g : Given) {o : List ℕ} (f : Fits g o) where
  -- k blocks deciphered
  pub out-blocks : (k : ℕ) → k ≤ blocks (size g)
      → out_after g o k ≡ join k (block_of g f) ++ drop (k * 16) o
  unfolding written total_steps
  out-blocks k h =
      let n : written g k ≡ k * 16 = omega arith in
      out_before g o k (omega arith)
      ∙ ap (λ (i : ℕ). take i (decrypted g) ++ drop i o) n
      ∙ ap (λ (d : List ℕ). take (k * 16) d ++ drop (k * 16) o) (decrypted-blocks g f)
      ∙ ap (λ (d : List ℕ). d ++ drop (k * 16) o) (take_join 16 (block_of g f) (blocks (size g)) k (sized-block g f) h)

  -- one more
  pub out-deciphers : (k : ℕ) → k < blocks (size g) → put (k * 16) (block_of g f k) (out_after g o k) ≡ out_after g o (suc k)
  out-deciphers k h =
      ap (put (k * 16) (block_of g f k)) (out-blocks k (omega arith))
      ∙ put_join 16 (block_of g f) k o (λ j b. sized-block g f j (omega arith)) (omega (arith, f.room))
      ∙ sym (out-blocks (suc k) h)

  -- all blocks: the decryption, and what stood behind it
  pub out-body : (k : ℕ) → blocks (size g) ≤ k → k < total_steps (size g) → out_after g o k ≡ decrypted g ++ drop (size g) o
  unfolding written
  out-body k h b =
      let n : written g k ≡ size g = omega (arith, f.body.whole) in
      out_before g o k b
      ∙ ap (λ (i : ℕ). take i (decrypted g) ++ drop i o) n
      ∙ ap (λ (d : List ℕ). d ++ drop (size g) o) (take_all (size g) (decrypted g) (omega (arith, length-decrypted g f)))

  -- ---- its parts

  -- the body is the decryption
  pub body_is : take (size g) (decrypted g ++ drop (size g) o) ≡ decrypted g
  body_is = take_at (decrypted g) (drop (size g) o) (size g) (length-decrypted g f)

  -- the rest is as found
  pub rest_is : drop (size g) (decrypted g ++ drop (size g) o) ≡ drop (size g) o
  rest_is = drop_at (decrypted g) (drop (size g) o) (size g) (length-decrypted g f)

  -- so many bytes as are held are the text
  pub text_is : take (held (decrypted g)) (decrypted g ++ drop (size g) o) ≡ text_in (decrypted g)
  unfolding text_in
  text_is = take-append-le (held (decrypted g)) (decrypted g) (drop (size g) o) (omega (arith, length-decrypted g f, held_fits g f))

  -- and the 32 behind them are the MAC
  pub mac_is : take 32 (drop (held (decrypted g)) (decrypted g ++ drop (size g) o)) ≡ mac_in (decrypted g)
  unfolding mac_in
  mac_is =
      let d = decrypted g in
      let l : length d ≡ size g = length-decrypted g f in
      let h : held d + 33 ≤ size g = held_fits g f in
      ap (take 32) (drop-append-le (held d) d (drop (size g) o) (omega arith))
      ∙ take-append-le 32 (drop (held d) d) (drop (size g) o) (rw (length-drop (held d) d) (omega arith))

  -- ---- its length

  -- the body's place holds n bytes
  length-after : length (body_after g) ≡ size g
  length-after = ap length (sym (cleared-at-end g f)) ∙ length-cleared (length_in g) (decrypted g) ∙ length-decrypted g f

  -- the length stays
  pub length-out : (k : ℕ) → length (out_after g o k) ≡ length o
  unfolding out_after written
  length-out k = by (ltb k (total_steps (size g)))
    where
      by : (t : Bool) → length (cond t (take (written g k) (decrypted g) ++ drop (written g k) o) (body_after g ++ drop (size g) o)) ≡ length o
      by true =
          let w = written g k in
          length-append (take w (decrypted g)) (drop w o)
          ∙ omega (arith, length-take w (decrypted g), length-decrypted g f, length-drop w o)
      by false = length-append (body_after g) (drop (size g) o) ∙ omega (arith, length-after, length-drop (size g) o)
