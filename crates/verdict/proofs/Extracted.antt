-- The MAC at its place, and the scan that finds it. Assumes nothing.
use mathlib.Core.Bool.{Bool, true, false, cond}
use mathlib.Core.List.{List, [], ◌∷◌, ◌++◌}
use mathlib.Core.Path.{◌≡◌, refl, sym, ap, ◌∙◌}
use Prim.Native.Nat.{ℕ, ◌+◌, ◌-◌, ◌%◌, ◌≤◌, ◌<◌}
use native.Mathlib.Omega.{arith}
use borrow.Author.Tests.{eqb-true, eqb-false, ltb-true, ltb-false, le-leb, lt-leb, lt-ltb, le-ltb}
use lib.Dec.{eqb, ltb}
use lib.ListN.{length, take, drop, replicate, length-append, length-drop}
use lib.Seq.{take-append-le, drop-append-le, drop-drop}
use Rattle.record.specs.Limits.{mac_len}
use Rattle.words.specs.Choice.{bit}
use Rattle.verdict.specs.Verdict.{extracted}

-- where the MAC and a length byte fit behind h bytes
pub extracted_there : (d : List ℕ) (h : ℕ) → h + 33 ≤ length d → extracted d h ≡ take 32 (drop h d)
unfolding extracted
extracted_there d h b = rw (le-leb (h + 33) (length d) b)

-- where they do not
pub extracted_nowhere : (d : List ℕ) (h : ℕ) → length d < h + 33 → extracted d h ≡ replicate 32 0
unfolding extracted
extracted_nowhere d h b = rw (lt-leb (h + 33) (length d) b)

-- after the places below i: the MAC if h is one of them, else zeros
unfoldable pub scanned : List ℕ → ℕ → ℕ → List ℕ
scanned d h i = cond (ltb h i) (take mac_len (drop h d)) (replicate mac_len 0)

-- before the first place
scanned-none : (d : List ℕ) (h : ℕ) → replicate 32 0 ≡ scanned d h 0
unfolding scanned
scanned-none d h = rw (le-ltb h 0 (omega arith))

-- one place more
scanned-more : (d : List ℕ) (h i : ℕ)
    → cond (eqb (bit (eqb i h) % 2) 1) (take 32 (drop i d)) (scanned d h i) ≡ scanned d h (i + 1)
unfolding scanned
scanned-more d h i = by (eqb i h) (ltb h i) refl refl
  where
    by : (s t : Bool) → eqb i h ≡ s → ltb h i ≡ t
        → cond (eqb (bit s % 2) 1) (take 32 (drop i d)) (cond t (take 32 (drop h d)) (replicate 32 0)) ≡ scanned d h (i + 1)
    by true t e b = rw (eqb-true i h e, lt-ltb h (h + 1) (omega arith))
    by false true e b = rw (lt-ltb h (i + 1) (omega (arith, ltb-true h i b)))
    by false false e b = rw (le-ltb h (i + 1) (omega (arith, ltb-false h i b, eqb-false i h e)))

-- after the last place
scanned_all : (d : List ℕ) (h i : ℕ) → i ≡ length d - 32 → scanned d h i ≡ extracted d h
unfolding scanned
scanned_all d h i e = by (ltb h i) refl
  where
    by : (t : Bool) → ltb h i ≡ t → cond t (take 32 (drop h d)) (replicate 32 0) ≡ extracted d h
    by true b = sym (extracted_there d h (omega (arith, ltb-true h i b)))
    by false b = sym (extracted_nowhere d h (omega (arith, ltb-false h i b)))

-- after i windows of 32 bytes of d without its last byte: out is scanned, rest is where the next window begins
pub record Scan (d : List ℕ) (h i : ℕ) (out rest : List ℕ) : Type 0 where
  pub found : out ≡ scanned d h i
  pub within : i ≤ length d - 32
  pub last : ℕ
  pub left : drop i d ≡ rest ++ (last ∷ [])

module _ {d : List ℕ} {h : ℕ} where
  -- before the first window
  pub scan-start : (x : ℕ) {rest : List ℕ} → d ≡ rest ++ (x ∷ []) → Scan d h 0 (replicate 32 0) rest
  scan-start x e = record { found = scanned-none d h; within = omega arith; last = x; left = e }

  -- how many bytes are left
  length-left : {i : ℕ} {out rest : List ℕ} → Scan d h i out rest → length d - i ≡ length rest + 1
  length-left {i} {out} {rest} s = sym (length-drop i d) ∙ ap length s.left ∙ length-append rest (s.last ∷ [])

  -- one window more
  pub scan-more : {i : ℕ} {out rest : List ℕ} → Scan d h i out rest → 32 ≤ length rest
      → Scan d h (i + 1) (cond (eqb (bit (eqb i h) % 2) 1) (take 32 rest) out) (drop 1 rest)
  scan-more {i} {out} {rest} s b =
      let window : take 32 rest ≡ take 32 (drop i d) =
      sym (take-append-le 32 rest (s.last ∷ []) b) ∙ sym (ap (take 32) s.left) in
      record {
        found = rw (window, s.found) (scanned-more d h i);
        within = omega (arith, length-left s);
        last = s.last;
        left = sym (drop-drop 1 i d) ∙ ap (drop 1) s.left ∙ drop-append-le 1 rest (s.last ∷ []) (omega arith);
      }

  -- no room for a window more
  pub scan-end : {i : ℕ} {out rest : List ℕ} → Scan d h i out rest → length rest < 32 → out ≡ extracted d h
  scan-end {i} s b = s.found ∙ scanned_all d h i (omega (arith, length-left s, s.within))
