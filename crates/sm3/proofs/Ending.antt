-- The ending of a message as `finalize` writes it, in one block or in two. Assumes nothing.
use Rattle.std.proofs.Common.{◌≡◌, ℕ, suc, ◌+◌, ◌-◌, ◌*◌, ◌%◌, ◌^◌, ◌<◌, ◌≤◌, List, ◌∷◌, ◌++◌, length, get_or, take, set, replicate, sym, ap, ◌∙◌, append_assoc, append-nil, add-one, arith, length-append, length-set, drop_of_length-le, length-take-le, take-suc-set, lt-ltb}
use lib.ListN.{length-replicate, replicate-append-replicate}
use lib.Seq.{append_snoc, take-append-add}
use Rattle.answers.specs.Answers.{Done}
use Rattle.words.proofs.Bytes.{length-be, be_wrap_64}
use Rattle.words.proofs.Lists.{put-fits, take-replicate, length_join}
use Rattle.words.specs.Bytes.{be}
use Rattle.words.specs.Lists.{put}
use Rattle.sm3_compress.specs.Standard.{CF}
use Rattle.sm3.specs.declared.Sm3.{Sm3}
use Rattle.sm3.specs.Standard.{zeros, count, ending, iteration, word_bytes, bytes_of}
use Rattle.sm3.specs.State.{pending, finalized}
use Rattle.sm3.proofs.Iteration.{iteration-block, iteration-one}

-- the rule of 5.2 in bytes: 56 modulo 64 is reached, and with fewer than 64 zeros, so with the least number of them
pub zeros-rule : (l : ℕ) → ((l + 1 + zeros l) % 64 ≡ 56) × (zeros l < 64)
unfolding zeros
zeros-rule l = (omega arith, omega arith)

-- eight bytes
pub length-count : (n : ℕ) → length (count n) ≡ 8
unfolding count
length-count n = length-be 8 (8 * n)

-- the count of bytes may be taken modulo 2^64
pub count_wraps : (n : ℕ) → count (n % 2 ^ 64) ≡ count n
unfolding count
count_wraps n =
    let e : 8 * (n % 2 ^ 64) % 2 ^ 64 ≡ 8 * n % 2 ^ 64 = omega arith in
    sym (be_wrap_64 (8 * (n % 2 ^ 64))) ∙ ap (be 8) e ∙ be_wrap_64 (8 * n)

-- the code's shift
pub shifted_count : (n : ℕ) → be 8 (n * 2 ^ 3 % 2 ^ 64) ≡ count n
unfolding count
shifted_count n =
    let e : n * 2 ^ 3 ≡ 8 * n = omega arith in
    be_wrap_64 (n * 2 ^ 3) ∙ ap (be 8) e

-- the count laid over a block's last 8 bytes
pub put-counted : (b : List ℕ) (n : ℕ) → length b ≡ 64 → put 56 (count n) b ≡ take 56 b ++ count n
put-counted b n e =
    let past : length b ≤ 56 + length (count n) = omega (arith, length-count n) in
    put-fits 56 (count n) b (omega (arith, length-count n))
    ∙ ap (λ (r : List ℕ). take 56 b ++ r)
    (ap (λ (r : List ℕ). count n ++ r) (drop_of_length-le b past) ∙ append-nil (count n))

-- the zeros in two runs
zeros_split : (a c : List ℕ) (j k : ℕ)
    → a ++ (0x80 ∷ (replicate (j + k) 0 ++ c)) ≡ (a ++ (0x80 ∷ replicate j 0)) ++ (replicate k 0 ++ c)
zeros_split a c j k = rw (← replicate-append-replicate {A = ℕ} j k 0) (simp append_assoc)

-- the first f bytes of b, 0x80 and j zeros
abbrev pub marked : List ℕ → ℕ → ℕ → List ℕ
marked b f j = take f b ++ (0x80 ∷ replicate j 0)

module _ (b : List ℕ) (f : ℕ) (size : length b ≡ 64) (fits : f < 64) where
  -- f bytes, 0x80 and j zeros
  length_marked : (j : ℕ) → length (marked b f j) ≡ f + 1 + j
  length_marked j =
      let front : length (take f b) ≡ f = length-take-le f b (omega arith) in
      length-append (take f b) (0x80 ∷ replicate j 0) ∙ omega (arith, length-replicate {A = ℕ} j 0)

  -- what `mark` leaves, with zeros enough
  pub put-marked : (n : ℕ) → 64 ≤ n → put (f + 1) (replicate n 0) (set b f 0x80) ≡ marked b f (63 - f)
  unfolding put
  put-marked n h =
      let room : length (set b f 0x80) - (f + 1) ≡ 63 - f = omega (arith, length-set b f 0x80) in
      let past : length (set b f 0x80) ≤ f + 1 + length (replicate {A = ℕ} n 0) =
      omega (arith, length-set b f 0x80, length-replicate {A = ℕ} n 0) in
      let in_b : f < length b = omega arith in
      rw
      (room, drop_of_length-le (set b f 0x80) past, append-nil (take (63 - f) (replicate {A = ℕ} n 0)), take-replicate (63 - f) n 0 (omega arith), add-one f, take-suc-set b f 0x80 in_b)
      (append_snoc (take f b) 0x80 (replicate (63 - f) 0))

  -- its first 56 bytes, where there is room for the count
  front-56 : f < 56 → take 56 (marked b f (63 - f)) ≡ marked b f (55 - f)
  front-56 h =
      let front : length (take f b) ≡ f = length-take-le f b (omega arith) in
      let n : 56 ≡ length (take f b) + suc (55 - f) = omega arith in
      ap (λ (k : ℕ). take k (marked b f (63 - f))) n
      ∙ take-append-add (take f b) (0x80 ∷ replicate (63 - f) 0) (suc (55 - f))
      ∙ ap (λ (r : List ℕ). take f b ++ (0x80 ∷ r)) (take-replicate (55 - f) (63 - f) 0 (omega arith))

  -- room for the count: one block
  pub one_block : (v : List ℕ) (t : ℕ) → f < 56
      → iteration v (take f b ++ ending f t) ≡ CF v (take 56 (marked b f (63 - f)) ++ count t)
  unfolding ending zeros
  one_block v t h =
      let z : (119 - f % 64) % 64 ≡ 55 - f + 0 = omega arith in
      rw (z, front-56 h, zeros_split (take f b) (count t) (55 - f) 0)
      (iteration-one v (marked b f (55 - f) ++ count t)
      (length-append (marked b f (55 - f)) (count t) ∙ omega (arith, length_marked (55 - f), length-count t)))

  -- no room for the count: a second block
  pub two_blocks : (v z : List ℕ) (t : ℕ) → 56 ≤ f → z ≡ replicate 56 0
      → iteration v (take f b ++ ending f t) ≡ CF (CF v (marked b f (63 - f))) (z ++ count t)
  unfolding ending zeros
  two_blocks v z t h e =
      let k : (119 - f % 64) % 64 ≡ 63 - f + 56 = omega arith in
      rw (k, e, zeros_split (take f b) (count t) (63 - f) 56)
      (iteration-block v (marked b f (63 - f)) (replicate 56 0 ++ count t) (length_marked (63 - f) ∙ omega arith)
      ∙ iteration-one (CF v (marked b f (63 - f))) (replicate 56 0 ++ count t)
      (length-append (replicate 56 0) (count t) ∙ omega (arith, length-count t)))

-- a state that is not refused, by its digest's bytes
pub digested : (h : Sm3) (x : List ℕ) → h.buffer_len < 64
    → x ≡ bytes_of (iteration h.state (pending h (ending h.buffer_len h.total_len)))
    → record { answer = Done; bytes = x } ≡ finalized h
unfolding finalized
digested h x k e = rw (lt-ltb h.buffer_len 64 k, e)

-- such a state's digest is not refused
pub digest_done : (h : Sm3) → h.buffer_len < 64 → finalized h ≡ record { answer = Done; bytes = (finalized h).bytes }
unfolding finalized
digest_done h k = rw (lt-ltb h.buffer_len 64 k)

-- eight words are 32 bytes
pub length-bytes_of : (v : List ℕ) → length (bytes_of v) ≡ 32
unfolding bytes_of word_bytes
length-bytes_of v = length_join 4 (word_bytes v) 8 (λ k b. length-be 4 (get_or v k 0))
