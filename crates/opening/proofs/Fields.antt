-- The fields of the closed form, by where k stands among the steps. Assumes nothing.
use mathlib.Core.Bool.{Bool, true, false, cond}
use mathlib.Core.List.{List}
use mathlib.Core.Path.{◌≡◌, refl, ap}
use Prim.Native.Nat.{ℕ, ◌+◌, ◌-◌, ◌≤◌, ◌<◌}
use native.Mathlib.Omega.{arith}
use borrow.Author.Tests.{leb-true, leb-false, le-leb, lt-leb}
use lib.Dec.{leb}
use Rattle.record.specs.Opened.{good_pad, held}
use Rattle.sizes.specs.Sizes.{blocks, mac_steps}
use Rattle.mac_blocks.specs.Schedule.{final, absorbed, inner_key, outer_key, outer_digest}
use Rattle.steps.specs.State.{zero_words}
use Rattle.opening.specs.Closed.{inner_hash, words_after, kept_after, held_after, mark_after}
use Rattle.opening.specs.Given.{Given, size, decrypted, covered}
use Rattle.opening.proofs.Fits.{Fits, final-reached}

-- the same number on both sides of a test
leb_add : (a i j : ℕ) → leb (a + i) (a + j) ≡ leb i j
leb_add a i j = by (leb i j) refl
  where
    by : (t : Bool) → leb i j ≡ t → leb (a + i) (a + j) ≡ t
    by true e = le-leb (a + i) (a + j) (omega (arith, leb-true i j e))
    by false e = lt-leb (a + i) (a + j) (omega (arith, leb-false i j e))

module _ (g : Given) where
  -- m and B, and the MAC key
  abbrev m : ℕ
  m = blocks (size g)

  abbrev B : ℕ
  B = mac_steps (size g)

  abbrev K : List ℕ
  K = g.keys.mac_key

  -- ---- the chaining words

  -- none while blocks are deciphered
  pub words-none : (k : ℕ) → k ≤ m → words_after g k ≡ zero_words
  unfolding words_after
  words-none k h = rw (le-leb k m h)

  -- the inner hash's first j blocks
  pub words-inner : (j : ℕ) → j ≤ B → words_after g (m + 1 + j) ≡ absorbed (inner_key K) (covered g) j
  unfolding words_after
  words-inner j h =
      let k = m + 1 + j in
      let e : k - (m + 1) ≡ j = omega arith in
      rw (lt-leb k m (omega arith), le-leb k (m + 1 + B) (omega arith)) (ap (absorbed (inner_key K) (covered g)) e)

  -- the outer hash's key block
  pub words_pad : words_after g (m + 2 + B) ≡ outer_key K
  unfolding words_after
  words_pad =
      let k = m + 2 + B in
      rw (lt-leb k m (omega arith), lt-leb k (m + 1 + B) (omega arith), le-leb k k (omega arith))

  -- and the inner digest behind it
  pub words-end : words_after g (m + 3 + B) ≡ outer_digest (outer_key K) (inner_hash g)
  unfolding words_after
  words-end =
      let k = m + 3 + B in
      rw (lt-leb k m (omega arith), lt-leb k (m + 1 + B) (omega arith), lt-leb k (m + 2 + B) (omega arith))

  -- ---- the kept words

  -- none before header and text
  pub kept-none : (k : ℕ) → k ≤ m + 1 → kept_after g k ≡ zero_words
  unfolding kept_after
  kept-none k h = rw (le-leb k (m + 1 + final (covered g)) (omega arith))

  -- the inner hash, where the final block is among the first j
  pub kept-inner : (j : ℕ) → kept_after g (m + 1 + j) ≡ cond (leb j (final (covered g))) zero_words (inner_hash g)
  unfolding kept_after
  kept-inner j = rw (leb_add (m + 1) j (final (covered g)))

  -- it is among the first B
  pub kept-past : {o : List ℕ} → Fits g o → (k : ℕ) → m + 1 + B ≤ k → kept_after g k ≡ inner_hash g
  unfolding kept_after
  kept-past f k h = rw (lt-leb k (m + 1 + final (covered g)) (omega (arith, final-reached g f)))

  -- ---- the length held and the padding mark

  -- none while blocks are deciphered
  pub held_none : (k : ℕ) → k ≤ m → held_after g k ≡ 0
  unfolding held_after
  held_none k h = rw (le-leb k m h)

  -- and no mark
  pub mark-none : (k : ℕ) → k ≤ m → mark_after g k ≡ false
  unfolding mark_after
  mark-none k h = rw (le-leb k m h)

  -- then those of the decryption
  pub held_read : (k : ℕ) → m < k → held_after g k ≡ held (decrypted g)
  unfolding held_after
  held_read k h = rw (lt-leb k m h)

  -- and its mark
  pub mark_read : (k : ℕ) → m < k → mark_after g k ≡ good_pad (decrypted g)
  unfolding mark_after
  mark_read k h = rw (lt-leb k m h)
