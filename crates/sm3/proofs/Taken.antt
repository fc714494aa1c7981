-- What `update` makes of a state, by its three cases: no byte waits; the block stays short; the block is completed.
-- Assumes nothing.
use Rattle.std.proofs.Common.{◌≡◌, ℕ, ◌+◌, ◌-◌, ◌%◌, ◌^◌, ◌<◌, ◌≤◌, List, ◌++◌, length, take, drop, sym, ap, ◌∙◌, ap₂, append_assoc, append-nil, zero-add, arith, length-append, take-append-drop, drop_of_length-le, length-take-le, take_at, lt-ltb, le-leb}
use borrow.Author.Tests.{lt-leb}
use Rattle.answers.specs.Answers.{Done}
use Rattle.words.proofs.Lists.{put-fits}
use Rattle.words.specs.Lists.{put}
use Rattle.sm3_compress.specs.Standard.{CF}
use Rattle.sm3.specs.declared.Sm3.{Sm3}
use Rattle.sm3.specs.State.{over, absorbed, pending, base, taken, updated}
use Rattle.sm3.proofs.Iteration.{iteration-block, iteration-short, rest-append, rest-short}

-- a state that is not refused, by what `taken` makes of it
pub accepted : (h x : Sm3) (d : List ℕ) → h.buffer_len < 64 → x ≡ taken h d → record { answer = Done; hasher = x } ≡ updated h d
unfolding updated
accepted h x d k e = rw (lt-ltb h.buffer_len 64 k, e)

-- and so what `update` leaves is what it has taken in
pub update_takes : (h : Sm3) (d : List ℕ) → h.buffer_len < 64 → (updated h d).hasher ≡ taken h d
unfolding updated
update_takes h d k = rw (lt-ltb h.buffer_len 64 k)

-- what an update leaves is in range
pub taken-fits : (h : Sm3) (d : List ℕ) → (taken h d).buffer_len < 64
unfolding taken absorbed
taken-fits h d = omega arith

-- a part laid over the front
pub put-over : (x b : List ℕ) → length x ≤ length b → put 0 x b ≡ over x b
unfolding over
put-over x b h = put-fits 0 x b (omega arith) ∙ rw (zero-add (length x))

-- no byte waits
pub taken_empty : (h : Sm3) (d : List ℕ) → h.buffer_len ≡ 0
    → taken h d ≡ absorbed h.state h.buffer ((h.total_len + length d) % 2 ^ 64) d
unfolding taken pending base
taken_empty h d e = rw e

-- the state of these four parts
abbrev pub made : List ℕ → List ℕ → ℕ → ℕ → Sm3
made v b n t = record { state = v; buffer = b; buffer_len = n; total_len = t }

-- less than a block
absorbed-short : (v b s : List ℕ) (t : ℕ) → length s < 64 → absorbed v b t s ≡ made v (over s b) (length s) t
unfolding absorbed
absorbed-short v b s t h =
    let n : length s % 64 ≡ length s = omega arith in
    rw (iteration-short v s h, rest-short s h, n)

-- a whole block in front of x
absorbed-block : (v b a x : List ℕ) (t : ℕ) → length a ≡ 64 → absorbed v b t (a ++ x) ≡ absorbed (CF v a) b t x
unfolding absorbed
absorbed-block v b a x t e =
    let n : length (a ++ x) % 64 ≡ length x % 64 = omega (arith, length-append a x) in
    rw (iteration-block v a x e, rest-append a x 1 e, n)

-- bytes wait, and d comes behind them, with t for the total
module _ (h : Sm3) (d : List ℕ) (t : ℕ) (size : length h.buffer ≡ 64) (some : 0 < h.buffer_len) (fits : h.buffer_len < 64) where
  -- the block stays short
  pub taken-short : h.buffer_len + length d < 64
      → absorbed h.state (base h (pending h d)) t (pending h d)
      ≡ made h.state (put h.buffer_len d h.buffer) (h.buffer_len + length d) t
  unfolding pending base over
  taken-short k =
      let f = h.buffer_len in
      let p : List ℕ = take f h.buffer ++ d in
      let front : length (take f h.buffer) ≡ f = length-take-le f h.buffer (omega arith) in
      let n : length p ≡ f + length d = length-append (take f h.buffer) d ∙ omega arith in
      let short : length p < 64 = omega arith in
      let laid : p ++ drop (length p) h.buffer ≡ put f d h.buffer =
      append_assoc (take f h.buffer) d (drop (length p) h.buffer)
      ∙ ap (λ (k : ℕ). take f h.buffer ++ (d ++ drop k h.buffer)) n
      ∙ sym (put-fits f d h.buffer (omega arith)) in
      rw (lt-ltb 0 f some, lt-leb 64 (length p) short)
      (absorbed-short h.state h.buffer p t short
      ∙ ap₂ (λ (b : List ℕ) (l : ℕ). made h.state b l t) laid n)

  -- the block is completed and goes through
  pub taken_full : 64 - h.buffer_len ≤ length d
      → absorbed h.state (base h (pending h d)) t (pending h d)
      ≡ absorbed
      (CF h.state (put h.buffer_len (take (64 - h.buffer_len) d) h.buffer))
      (put h.buffer_len (take (64 - h.buffer_len) d) h.buffer)
      t
      (drop (64 - h.buffer_len) d)
  unfolding pending base
  taken_full k =
      let f = h.buffer_len in
      let need = 64 - f in
      let b : List ℕ = put f (take need d) h.buffer in
      let front : length (take f h.buffer) ≡ f = length-take-le f h.buffer (omega arith) in
      let more : length (take need d) ≡ need = length-take-le need d k in
      let past : length h.buffer ≤ f + length (take need d) = omega arith in
      let filled : b ≡ take f h.buffer ++ take need d =
      put-fits f (take need d) h.buffer (omega arith)
      ∙ rw (drop_of_length-le h.buffer past, append-nil (take need d)) in
      let size_b : length b ≡ 64 = ap length filled ∙ length-append (take f h.buffer) (take need d) ∙ omega arith in
      let whole : take f h.buffer ++ d ≡ b ++ drop need d =
      ap (λ (r : List ℕ). take f h.buffer ++ r) (sym (take-append-drop need d))
      ∙ sym (append_assoc (take f h.buffer) (take need d) (drop need d))
      ∙ ap (λ (r : List ℕ). r ++ drop need d) (sym filled) in
      let long : 64 ≤ length (b ++ drop need d) = rw (length-append b (drop need d)) (omega arith) in
      rw (whole, lt-ltb 0 f some, le-leb 64 (length (b ++ drop need d)) long, take_at b (drop need d) 64 size_b)
      (absorbed-block h.state b b (drop need d) t size_b)
