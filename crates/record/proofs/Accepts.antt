-- A deciphered body is accepted exactly if it is a text, its MAC and padding, and then the text and the padding's length are
-- the only ones. Assumes nothing.
use mathlib.Core.Bool.{true, false}
use mathlib.Core.List.{List, ◌++◌, append_assoc}
use mathlib.Core.Logic.{◌↔◌}
use mathlib.Core.Path.{◌≡◌, refl, sym, ap, ap₂, ◌∙◌}
use Prim.Native.Nat.{ℕ, suc, ◌+◌, ◌-◌, ◌≤◌, ◌<◌}
use native.Mathlib.Omega.{arith}
use borrow.Author.Tests.{leb-true, le-leb}
use lib.Dec.{leb}
use lib.ListN.{length, get_or, take, drop, length-append, length-replicate, get_or-replicate, take-append-drop}
use lib.Seq.{take_at, take-append_seam, drop_at, drop-drop, drop-append_seam, get_or-drop, get_or-append-add}
use Rattle.words.specs.Bytes.{Bytes}
use Rattle.words.specs.Lists.{agree}
use Rattle.words.proofs.Agree.{agree_refl, agree-eq}
use Rattle.words.proofs.Lists.{drop_constant}
use Rattle.words.proofs.Tests.{both}
use Rattle.record.specs.Opened.{last_byte, pad_fits, pad_run, good_pad, held, text_in, mac_in, accepts}
use Rattle.record.specs.Standard.{padding, body_of}

-- ---- good padding

-- what the two tests say
pub good-parts : (d : List ℕ) → good_pad d ≡ true
    → (last_byte d + 1 ≤ length d - 32) × (drop (length d - (last_byte d + 1)) d ≡ padding (last_byte d))
unfolding good_pad pad_fits pad_run
good-parts d g =
    let t = both (leb (last_byte d + 1) (length d - 32)) (agree (drop (length d - (last_byte d + 1)) d) (padding (last_byte d))) g in
    (leb-true (last_byte d + 1) (length d - 32) t.0, agree-eq (drop (length d - (last_byte d + 1)) d) (padding (last_byte d)) t.1)

-- and what makes them hold
pub good-padding : (d : List ℕ) (p : ℕ) → last_byte d ≡ p → p + 1 ≤ length d - 32 → drop (length d - (p + 1)) d ≡ padding p
    → good_pad d ≡ true
unfolding good_pad pad_fits pad_run
good-padding d p e fits run = rw (e, le-leb (p + 1) (length d - 32) fits, run) (agree_refl (padding p))

-- byte by byte, as a scan sees it
pub good_by_index : (d : List ℕ)
    → (good_pad d ≡ true)
    ↔ ((last_byte d + 1 ≤ length d - 32) × ((i : ℕ) → length d - (last_byte d + 1) ≤ i → i < length d → get_or d i 0 ≡ last_byte d))
good_by_index d = (λ g. ((good-parts d g).0, each (good-parts d g)), λ h. good-padding d (last_byte d) refl h.0 (run h.0 h.1))
  where
    p : ℕ
    p = last_byte d

    start : ℕ
    start = length d - (p + 1)

    each : (p + 1 ≤ length d - 32) × (drop start d ≡ padding p) → (i : ℕ) → start ≤ i → i < length d → get_or d i 0 ≡ p
    each (fits, e) i b c =
        let n : i ≡ start + (i - start) = omega arith in
        ap (λ (k : ℕ). get_or d k 0) n
        ∙ sym (get_or-drop start d (i - start) 0)
        ∙ ap (λ (l : List ℕ). get_or l (i - start) 0) e
        ∙ get_or-replicate (suc p) (i - start) p 0 (omega arith)

    run : p + 1 ≤ length d - 32 → ((i : ℕ) → start ≤ i → i < length d → get_or d i 0 ≡ p) → drop start d ≡ padding p
    run fits h = let n : length d - start ≡ suc p = omega arith in drop_constant d start p h ∙ rw n

-- the length held is then the text's
pub held-good : (d : List ℕ) → good_pad d ≡ true → held d ≡ length d - 33 - last_byte d
unfolding held
held-good d g = rw g

-- bad padding: one byte less than what is not the MAC
pub held-bad : (d : List ℕ) → good_pad d ≡ false → held d ≡ length d - 33
unfolding held
held-bad d g = rw g

-- ---- what is accepted is a body

-- three parts, the second of n elements
three : (l : List ℕ) (h n : ℕ) → l ≡ take h l ++ (take n (drop h l) ++ drop (h + n) l)
three l h n =
    sym (ap (λ (r : List ℕ). take h l ++ (take n (drop h l) ++ r)) (sym (drop-drop n h l))
    ∙ ap (λ (r : List ℕ). take h l ++ r) (take-append-drop n (drop h l))
    ∙ take-append-drop h l)

module _ (tag : List ℕ → List ℕ) (d : List ℕ) where
  -- accepted: good padding, and the MAC of the text
  pub accepted-parts : accepts tag d ≡ true → (good_pad d ≡ true) × (mac_in d ≡ tag (text_in d))
  unfolding accepts
  accepted-parts a =
      let t = both (good_pad d) (agree (mac_in d) (tag (text_in d))) a in
      (t.0, agree-eq (mac_in d) (tag (text_in d)) t.1)

  -- it is the body of its own text and last byte
  pub accepted-body : accepts tag d ≡ true → d ≡ body_of tag (text_in d) (last_byte d)
  unfolding body_of text_in mac_in
  accepted-body a =
      let t = accepted-parts a in
      let g = good-parts d t.0 in
      let n : held d + 32 ≡ length d - (last_byte d + 1) = omega (arith, held-good d t.0) in
      three d (held d) 32 ∙ ap₂ (λ (u v : List ℕ). text_in d ++ (u ++ v)) t.1 (rw n g.1)

  -- of bytes: there are a text and a padding length up to 255
  pub accepted_is_body : Bytes d → accepts tag d ≡ true → (text : List ℕ) × (p : ℕ) × (p ≤ 255) × (d ≡ body_of tag text p)
  unfolding last_byte
  accepted_is_body b a = (text_in d, last_byte d, omega (arith, b (length d - 1)), accepted-body a)

-- ---- a body is accepted

module _ (tag : List ℕ → List ℕ) (size : (t : List ℕ) → length (tag t) ≡ 32) where
  module _ (text : List ℕ) (p : ℕ) where
    -- text and MAC
    abbrev front : List ℕ
    front = text ++ tag text

    -- the MAC is 32 bytes
    length_front : length front ≡ length text + 32
    length_front = length-append text (tag text) ∙ omega (arith, size text)

    -- the padding stands behind them
    split : body_of tag text p ≡ front ++ padding p
    unfolding body_of
    split = sym (append_assoc text (tag text) (padding p))

    -- the text, 32 bytes of MAC, the padding with its length byte
    pub length-body : length (body_of tag text p) ≡ length text + 33 + p
    length-body = ap length split ∙ length-append front (padding p) ∙ omega (arith, length_front, length-replicate p p)

    -- the last byte is the last of the padding
    pub last-body : last_byte (body_of tag text p) ≡ p
    unfolding last_byte
    last-body =
        let n : length (body_of tag text p) - 1 ≡ length front + p = omega (arith, length-body, length_front) in
        rw (n, split) (get_or-append-add front (padding p) p 0 ∙ get_or-replicate (suc p) p p 0 (omega arith))

    -- the padding is good
    pub good-body : good_pad (body_of tag text p) ≡ true
    good-body =
        let n : length front ≡ length (body_of tag text p) - (p + 1) = omega (arith, length-body, length_front) in
        good-padding (body_of tag text p) p last-body (omega (arith, length-body))
        (ap (drop (length (body_of tag text p) - (p + 1))) split ∙ drop_at front (padding p) (length (body_of tag text p) - (p + 1)) n)

    -- the length held is the text's
    pub held-body : held (body_of tag text p) ≡ length text
    held-body = omega (arith, held-good (body_of tag text p) good-body, length-body, last-body)

    -- the text is the text
    pub text-body : text_in (body_of tag text p) ≡ text
    unfolding text_in body_of
    text-body = rw held-body (take-append_seam text (tag text ++ padding p))

    -- the MAC is its MAC
    pub mac-body : mac_in (body_of tag text p) ≡ tag text
    unfolding mac_in body_of
    mac-body = rw (held-body, drop-append_seam text (tag text ++ padding p)) (take_at (tag text) (padding p) 32 (size text))

    -- so it is accepted
    pub accepts-body : accepts tag (body_of tag text p) ≡ true
    unfolding accepts
    accepts-body = rw (good-body, text-body, mac-body) (agree_refl (tag text))

  -- one text and one padding length to a body
  pub body-unique : (text text' : List ℕ) (p p' : ℕ) → body_of tag text p ≡ body_of tag text' p' → (text ≡ text') × (p ≡ p')
  body-unique text text' p p' e = (
    sym (text-body text p) ∙ ap text_in e ∙ text-body text' p',
    sym (last-body text p) ∙ ap last_byte e ∙ last-body text' p',
  )
