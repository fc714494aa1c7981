-- The figures at the edges, by one theorem over the list: a number is worked out, and the padding of a body is judged by its last bytes
-- alone, whatever stands in front of them. Assumes nothing.
use mathlib.Core.Bool.{Bool, true, false}
use mathlib.Core.List.{List, [], ◌∷◌, ◌++◌, append_assoc}
use mathlib.Core.Path.{◌≡◌, refl, sym, ap, ◌∙◌}
use Prim.Native.Nat.{ℕ, suc, ◌+◌, ◌-◌, ◌≤◌, ◌<◌}
use native.Mathlib.Omega.{arith}
use borrow.Author.Tests.{lt-leb}
use lib.Dec.{lit≤, lit<}
use lib.ListN.{length, get_or, drop, replicate, length-append, length-replicate, get_or-replicate}
use lib.Seq.{drop_at, get_or-append-add}
use Rattle.words.specs.Bytes.{number}
use Rattle.words.specs.Lists.{table}
use Rattle.words.proofs.Tests.{left_fails}
use Rattle.sm4.specs.Standard.{ck, CK}
use Rattle.record.specs.Opened.{last_byte, pad_fits, pad_run, good_pad, held}
use Rattle.record.specs.Standard.{sealed_length}
use Rattle.record.proofs.Accepts.{good-parts, good-padding, held-good, held-bad}
use Rattle.sizes.specs.Sizes.{mac_steps, total_steps}
use Rattle.demands.specs.Figures.{Figure, figures, Says, Each}

-- ---- a body that ends in k + 1 bytes of value p

module _ (f : List ℕ) (k p : ℕ) where
  -- all of it
  abbrev pub body : List ℕ
  body = f ++ replicate (suc k) p

  -- as long as both parts
  length-ending : length body ≡ length f + suc k
  length-ending = length-append f (replicate (suc k) p) ∙ omega (arith, length-replicate k p)

  -- its last byte is p
  pub last-ending : last_byte body ≡ p
  unfolding last_byte
  last-ending =
      let n : length body - 1 ≡ length f + k = omega (arith, length-ending) in
      rw n (get_or-append-add f (replicate (suc k) p) k 0 ∙ get_or-replicate (suc k) k p 0 (omega arith))

  -- p + 1 bytes that do not fit behind a MAC are no padding
  bad-ending : length f + suc k < 32 + suc p → good_pad body ≡ false
  unfolding good_pad pad_fits
  bad-ending h = left_fails (pad_fits body) (pad_run body) (rw last-ending (lt-leb (p + 1) (length body - 32) (omega (arith, length-ending))))

-- so, wherever the front ends and however many bytes p there are
pub bad : (front k p l : ℕ) → front + suc k < 32 + suc p → front + suc k - 33 ≡ l → Says (Figure.ending front (suc k) p false l)
unfolding Says
bad front k p l h e f n =
    let not_Good = bad-ending f k p (omega arith) in
    (not_Good, held-bad (body f k p) not_Good ∙ omega (arith, length-ending f k p))

-- p + 1 bytes of value p behind a MAC's length or more are good padding, and all in front of the MAC is text
pub good : (front p : ℕ) → 32 ≤ front → Says (Figure.ending front (suc p) p true (front - 32))
unfolding Says
good front p h f n =
    let b = body f p p in
    let at : length f ≡ length b - (p + 1) = omega (arith, length-ending f p p) in
    let is_good = good-padding b p (last-ending f p p) (omega (arith, length-ending f p p)) (drop_at f (replicate (suc p) p) (length b - (p + 1)) at) in
    (is_good, held-good b is_good ∙ omega (arith, length-ending f p p, last-ending f p p))

-- a zero and only p bytes of value p, which say that there is one more, are no padding
spoiled : (front q l : ℕ) → front + q + 2 - 33 ≡ l → Says (Figure.spoiled front (suc q) l)
unfolding Says
spoiled front q l e f n = by (good_pad b) refl
  where
    b : List ℕ
    b = f ++ (0 ∷ replicate (suc q) (suc q))

    long : length (f ++ (0 ∷ replicate (suc q) (suc q))) ≡ front + q + 2
    long = length-append f (0 ∷ replicate (suc q) (suc q)) ∙ omega (arith, length-replicate q (suc q), n)

    last : last_byte (f ++ (0 ∷ replicate (suc q) (suc q))) ≡ suc q
    last =
        ap last_byte (sym (append_assoc f (0 ∷ []) (replicate (suc q) (suc q)))) ∙ last-ending (f ++ (0 ∷ [])) q (suc q)

    by : (t : Bool) → good_pad (f ++ (0 ∷ replicate (suc q) (suc q))) ≡ t
        → (good_pad (f ++ (0 ∷ replicate (suc q) (suc q))) ≡ false) × (held (f ++ (0 ∷ replicate (suc q) (suc q))) ≡ l)
    by false g = (g, held-bad (f ++ (0 ∷ replicate (suc q) (suc q))) g ∙ omega (arith, long, e))
    by true g =
        let d = f ++ (0 ∷ replicate (suc q) (suc q)) in
        let run = rw last at (good-parts d g).1 in
        let at : length f ≡ length d - (suc q + 1) = omega (arith, long, n) in
        let cut = drop_at f (0 ∷ replicate (suc q) (suc q)) (length d - (suc q + 1)) at in
        absurd (omega (arith, ap (λ (l : List ℕ). get_or l 0 0) (sym cut ∙ run)))

-- ---- the list

-- each padding by its law, every other figure by working it out
pub figures_hold : Each figures
unfolding Each Says sealed_length total_steps mac_steps CK ck table number
figures_hold =
    let limits : Each (drop 29 figures) = (refl, (refl, (refl, tt))) in
    let answers : Each (drop 19 figures) =
    (refl, (refl, (refl, (refl, (refl, (refl, (refl, (refl, (refl, (refl, limits)))))))))) in
    let constants : Each (drop 17 figures) = (refl, (refl, answers)) in
    let broken : Each (drop 15 figures) = (spoiled 32 14 15 refl, (spoiled 32 254 255 refl, constants)) in
    let long : Each (drop 11 figures) =
    (good 32 0xff (lit≤ tt), (bad 271 0 0xff 239 (lit< tt) refl, (bad 16 255 0xff 239 (lit< tt) refl, (good 16431 0 (lit≤ tt), broken)))) in
    let padding : Each (drop 8 figures) =
    (good 32 0x0f (lit≤ tt), (bad 47 0 0x10 15 (lit< tt) refl, (bad 31 16 0x10 15 (lit< tt) refl, long))) in
    let steps : Each (drop 4 figures) = (refl, (refl, (refl, (refl, padding)))) in
    (refl, (refl, (refl, (refl, steps))))
