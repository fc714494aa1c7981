-- The message with its ending, byte by byte: the message, 0x80 and zeros up to the final block's last 8 bytes, the count in
-- them, and zeros behind. Assumes nothing.
use mathlib.Core.Bool.{Bool, true, false, cond}
use mathlib.Core.List.{List, [], ◌∷◌, ◌++◌, append_assoc}
use mathlib.Core.Path.{◌≡◌, refl, sym, ap, ◌∙◌}
use Prim.Native.Nat.{ℕ, zero, suc, ◌+◌, ◌-◌, ◌*◌, ◌/◌, ◌≤◌, ◌<◌}
use native.Mathlib.Omega.{arith}
use borrow.Author.Tests.{ltb-true, ltb-false, eqb-true, eqb-false}
use lib.Arith.{lt_of_le-ne}
use lib.Bits.{bit_xor, xor_zero_l, xor_zero_r}
use lib.Dec.{ltb, eqb}
use lib.ListN.{length, get_or, take, drop, replicate, length-append, length-replicate, take-append-drop}
use lib.ListN.{get_or-append, get_or-eq_default}
use lib.Seq.{get_or_at, length-take-le}
use Rattle.words.proofs.Lists.{get_or-append-ge, get_or-replicate_self, cond_is}
use Rattle.sm3.specs.Standard.{zeros, count, ending}
use Rattle.sm3.proofs.Ending.{length-count}
use Rattle.mac_blocks.specs.Schedule.{ended, byte_at, final}

-- zeros behind a list are what is read past its end
zeros-behind : (l : List ℕ) (n q : ℕ) → get_or (l ++ replicate n 0) q 0 ≡ get_or l q 0
zeros-behind [] n q = get_or-replicate_self n q 0
zeros-behind (x ∷ l) n zero = refl
zeros-behind (x ∷ l) n (suc q) = zeros-behind l n q

module _ (m : List ℕ) where
  -- the message and 0x80
  abbrev pub marked : List ℕ
  marked = m ++ (0x80 ∷ [])

  -- with the zeros up to the count
  front : List ℕ
  front = marked ++ replicate (zeros (64 + length m)) 0

  -- and the count behind them, that is the message with its ending
  ended-front : ended m ≡ front ++ count (64 + length m)
  unfolding ended ending front
  ended-front = simp append_assoc

  -- the count stands in the final block's last 8 bytes
  length_front : length front ≡ final m * 64 + 56
  unfolding front final zeros
  length_front =
      length-append marked (replicate (zeros (64 + length m)) 0)
      ∙ omega (arith, length-append m (0x80 ∷ []), length-replicate {A = ℕ} (zeros (64 + length m)) 0)

  -- the blocks up to the final one hold it all
  pub length-ended : length (ended m) ≡ suc (final m) * 64
  length-ended =
      ap length ended-front
      ∙ length-append front (count (64 + length m))
      ∙ omega (arith, length_front, length-count (64 + length m))

  -- before the count
  byte-front : (q : ℕ) → q < final m * 64 + 56 → get_or (ended m) q 0 ≡ get_or marked q 0
  unfolding front
  byte-front q h =
      ap (λ (l : List ℕ). get_or l q 0) ended-front
      ∙ get_or-append front (count (64 + length m)) 0 q (omega (arith, length_front))
      ∙ zeros-behind marked (zeros (64 + length m)) q

  -- behind it
  byte-behind : (q : ℕ) → suc (final m) * 64 ≤ q → get_or (ended m) q 0 ≡ get_or marked q 0
  unfolding final
  byte-behind q h =
      get_or-eq_default (ended m) 0 (omega (arith, length-ended))
      ∙ sym (get_or-eq_default marked 0 (omega (arith, length-append m (0x80 ∷ []))))

  -- in it
  byte-count : (i : ℕ) → 56 ≤ i → get_or (ended m) (final m * 64 + i) 0 ≡ get_or (count (64 + length m)) (i - 56) 0
  byte-count i h =
      let e : final m * 64 + i - length front ≡ i - 56 = omega (arith, length_front) in
      ap (λ (l : List ℕ). get_or l (final m * 64 + i) 0) ended-front
      ∙ get_or-append-ge front (count (64 + length m)) (final m * 64 + i) 0 (omega (arith, length_front))
      ∙ ap (λ (k : ℕ). get_or (count (64 + length m)) k 0) e

  -- anywhere but in it
  byte_outside : (b i : ℕ) → i < 64 → (b ≡ final m → i < 56) → byte_at m b i ≡ get_or marked (b * 64 + i) 0
  unfolding byte_at
  byte_outside b i h k = by (ltb (b * 64 + i) (final m * 64 + 56)) refl
    where
      by : (t : Bool) → ltb (b * 64 + i) (final m * 64 + 56) ≡ t → get_or (ended m) (b * 64 + i) 0 ≡ get_or marked (b * 64 + i) 0
      by true e = byte-front (b * 64 + i) (ltb-true (b * 64 + i) (final m * 64 + 56) e)
      by false e =
          let past : final m * 64 + 56 ≤ b * 64 + i = ltb-false (b * 64 + i) (final m * 64 + 56) e in
          let later : final m < b = lt_of_le-ne (omega arith) (λ z. let j : i < 56 = k (sym z) in omega arith) in
          byte-behind (b * 64 + i) (omega arith)

  -- a block's first 56 bytes have no count in them
  pub byte-first : (b i : ℕ) → i < 56 → byte_at m b i ≡ get_or marked (b * 64 + i) 0
  byte-first b i h = byte_outside b i (omega arith) (λ _. h)

  -- its last 8 have, where it is the final one
  pub byte_last : (b i : ℕ) → 56 ≤ i → i < 64
      → byte_at m b i ≡ cond (eqb b (final m)) (get_or (count (64 + length m)) (i - 56) 0) (get_or marked (b * 64 + i) 0)
  unfolding byte_at
  byte_last b i l h =
      cond_is (eqb b (final m))
      (λ t. ap (λ (k : ℕ). get_or (ended m) (k * 64 + i) 0) (eqb-true b (final m) t) ∙ byte-count i l)
      (λ f. byte_outside b i h (λ e. absurd (eqb-false b (final m) f e)))

  -- no text and no 0x80 stands where the count does, so a count and zeros elsewhere are laid over both by exclusive or
  pub last_by_xor : (b i : ℕ) (c : List ℕ) → 56 ≤ i → i < 64
      → c ≡ cond (eqb b (final m)) (count (64 + length m)) (replicate 8 0)
      → bit_xor (get_or marked (b * 64 + i) 0) (get_or c (i - 56) 0) ≡ byte_at m b i
  unfolding final
  last_by_xor b i c l h e = rw e (by (eqb b (final m)) refl) ∙ sym (byte_last b i l h)
    where
      by : (t : Bool) → eqb b (final m) ≡ t
          → bit_xor (get_or marked (b * 64 + i) 0) (get_or (cond t (count (64 + length m)) (replicate 8 0)) (i - 56) 0)
          ≡ cond t (get_or (count (64 + length m)) (i - 56) 0) (get_or marked (b * 64 + i) 0)
      by true f =
          let z : get_or marked (b * 64 + i) 0 ≡ 0 =
          get_or-eq_default marked 0 (omega (arith, eqb-true b (final m) f, length-append m (0x80 ∷ []))) in
          rw z (xor_zero_l (get_or (count (64 + length m)) (i - 56) 0))
      by false f = rw (get_or-replicate_self 8 (i - 56) 0) (xor_zero_r (get_or marked (b * 64 + i) 0))

-- the header h and a text, the first n bytes of d
pub length-text : (h d : List ℕ) (n : ℕ) → n ≤ length d → length (h ++ take n d) ≡ length h + n
length-text h d n b = length-append h (take n d) ∙ ap (λ (k : ℕ). length h + k) (length-take-le n d b)

-- the number of their final block, with a header of 13 bytes
pub final-text : (h d : List ℕ) (n : ℕ) → length h ≡ 13 → n ≤ length d → final (h ++ take n d) ≡ (13 + n + 8) / 64
unfolding final
final-text h d n e b = omega (arith, length-text h d n b)

-- what stands at q with 0x80 behind the text, by the bytes of h and all of d
pub byte-marked : (h d : List ℕ) (n q : ℕ) → n ≤ length d
    → get_or (marked (h ++ take n d)) q 0 ≡ cond (eqb q (length h + n)) 0x80 (cond (ltb q (length h + n)) (get_or (h ++ d) q 0) 0)
byte-marked h d n q b =
    let m : List ℕ = h ++ take n d in
    let size : length m ≡ length h + n = length-text h d n b in
    let whole : m ++ drop n d ≡ h ++ d =
    append_assoc h (take n d) (drop n d) ∙ ap (λ (l : List ℕ). h ++ l) (take-append-drop n d) in
    cond_is (eqb q (length h + n))
    (λ t. get_or_at m 0x80 [] 0 q (size ∙ sym (eqb-true q (length h + n) t)))
    (λ f. cond_is (ltb q (length h + n))
    (λ t. let in_m : q < length m = omega (arith, ltb-true q (length h + n) t) in
    get_or-append m (0x80 ∷ []) 0 q in_m ∙ sym (get_or-append m (drop n d) 0 q in_m) ∙ ap (λ (l : List ℕ). get_or l q 0) whole)
    (λ g. let past : length h + n < q = lt_of_le-ne (ltb-false q (length h + n) g) (λ e. eqb-false q (length h + n) f (sym e)) in
    get_or-eq_default (marked m) 0 (omega (arith, length-append m (0x80 ∷ [])))))
