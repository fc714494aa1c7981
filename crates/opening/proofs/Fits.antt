-- What an accepted start says of the sizes, and what the decryption of such a record is. Assumes nothing.
use mathlib.Core.Bool.{Bool, true, false, cond}
use mathlib.Core.List.{List}
use mathlib.Core.Path.{◌≡◌, ap, ap₂, ◌∙◌}
use Prim.Native.Nat.{ℕ, ◌+◌, ◌-◌, ◌/◌, ◌≤◌, ◌<◌}
use native.Mathlib.Omega.{arith}
use lib.ListN.{length, drop, length-append, length-drop, take-append-drop}
use lib.Seq.{length-take-le}
use Rattle.answers.specs.Answers.{Done}
use Rattle.words.specs.Lists.{join}
use Rattle.words.proofs.Lists.{length_join}
use Rattle.sm4.specs.Standard.{decrypt, round_keys_of}
use Rattle.cbc.specs.Cbc.{cbc_dec, plain}
use Rattle.cbc.proofs.Sm4.{length_plain}
use Rattle.record.specs.Opened.{last_byte, good_pad, held, text_in}
use Rattle.record.specs.Standard.{header}
use Rattle.record.proofs.Header.{length-header}
use Rattle.sizes.specs.Sizes.{mac_steps}
use Rattle.sizes.proofs.Passed.{Allowed}
use Rattle.mac_blocks.specs.Schedule.{final}
use Rattle.steps.specs.State.{start_answer}
use Rattle.steps.proofs.Sound.{start-passed}
use Rattle.opening.specs.Given.{Given, size, decrypted, covered}

-- the record is an IV and an allowed body, the output has room for the body, and a version is two bytes
pub record Fits (g : Given) (o : List ℕ) : Type 0 where
  pub sized : length g.r ≡ size g + 16
  pub body : Allowed (size g)
  pub room : size g ≤ length o
  pub two : length g.version ≡ 2

-- where the start is not refused
pub fits : (g : Given) (o : List ℕ) → length g.version ≡ 2 → start_answer (length g.r) (length o) ≡ Done → Fits g o
unfolding size
fits g o v e =
    let p = start-passed (length g.r) (length o) e in
    record { sized = p.0; body = p.1; room = p.2; two = v }

-- the length held is at most n - 33
pub held-most : (d : List ℕ) → held d ≤ length d - 33
unfolding held
held-most d = by (good_pad d)
  where
    by : (t : Bool) → cond t (length d - 33 - last_byte d) (length d - 33) ≤ length d - 33
    by true = omega arith
    by false = omega arith

module _ (g : Given) {o : List ℕ} (f : Fits g o) where
  -- plain block k of the record
  abbrev pub block_of : ℕ → List ℕ
  block_of = plain (decrypt (round_keys_of g.keys.enc_key)) g.r

  -- is 16 bytes long
  pub sized-block : (k : ℕ) → k < size g / 16 → length (block_of k) ≡ 16
  sized-block k h = length_plain (round_keys_of g.keys.enc_key) g.r k (omega (arith, f.sized))

  -- the decryption is the plain blocks end to end
  pub decrypted-blocks : decrypted g ≡ join (size g / 16) block_of
  unfolding decrypted cbc_dec
  decrypted-blocks =
      let n : length (drop 16 g.r) / 16 ≡ size g / 16 = rw (length-drop 16 g.r) (omega (arith, f.sized)) in
      ap₂ (λ (m : ℕ) (r : List ℕ). join m (plain (decrypt (round_keys_of g.keys.enc_key)) r)) n (take-append-drop 16 g.r)

  -- as long as the body
  pub length-decrypted : length (decrypted g) ≡ size g
  length-decrypted =
      ap length decrypted-blocks ∙ length_join 16 block_of (size g / 16) sized-block ∙ omega (arith, f.body.whole)

  -- a MAC and a length byte fit behind the length held
  pub held_fits : held (decrypted g) + 33 ≤ size g
  held_fits = omega (arith, held-most (decrypted g), length-decrypted, f.body.least)

  -- the text is as long as the length held
  pub length-text : length (text_in (decrypted g)) ≡ held (decrypted g)
  unfolding text_in
  length-text = length-take-le (held (decrypted g)) (decrypted g) (omega (arith, held_fits, length-decrypted))

  -- the MAC covers 13 bytes more
  pub length-covered : length (covered g) ≡ 13 + held (decrypted g)
  unfolding covered
  length-covered =
      length-append (header g.seq g.type g.version (held (decrypted g))) (text_in (decrypted g))
      ∙ omega (arith, length-header g.seq g.type g.version (held (decrypted g)) f.two, length-text)

  -- the steps that compress header and text reach the final block
  pub final-reached : final (covered g) < mac_steps (size g)
  unfolding final mac_steps
  final-reached = omega (arith, length-covered, held_fits)
