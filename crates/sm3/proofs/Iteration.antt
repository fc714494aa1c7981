-- The iteration over a message in parts. Assumes nothing.
use Rattle.std.proofs.Common.{◌≡◌, ℕ, zero, suc, ◌+◌, ◌*◌, ◌/◌, ◌%◌, ◌<◌, ◌≤◌, List, [], ◌++◌, length, take, drop, sym, refl, ap, ◌∙◌, ap₂, append_assoc, append-nil, add-zero, add-suc, arith, length-append, length-drop, take-append-drop, length-take-le, take_all, drop-drop, drop_at}
use lib.Seq.{take-append-le, drop-append-le, drop-append-add}
use Rattle.sm3_compress.specs.Standard.{CF}
use Rattle.sm3.specs.Standard.{iterated, iteration}
use Rattle.sm3.specs.State.{rest}

-- the first n blocks do not look at what stands behind them
pub iterated-front : (v m x : List ℕ) (n : ℕ) → n * 64 ≤ length m → iterated v (m ++ x) n ≡ iterated v m n
unfolding iterated
iterated-front v m x zero h = refl
iterated-front v m x (suc n) h =
    let a : n * 64 ≤ length m = omega arith in
    let b : 64 ≤ length (drop (n * 64) m) = simp length-drop (omega arith) in
    ap₂ CF (iterated-front v m x n a) (rw (drop-append-le (n * 64) m x a, take-append-le 64 (drop (n * 64) m) x b))

-- q blocks and then n more
pub iterated-add : (v m : List ℕ) (q n : ℕ) → iterated v m (q + n) ≡ iterated (iterated v m q) (drop (q * 64) m) n
unfolding iterated
iterated-add v m q zero = rw (add-zero q)
iterated-add v m q (suc n) =
    let e : (q + n) * 64 ≡ q * 64 + n * 64 = omega arith in
    rw (add-suc q n) (ap₂ CF (iterated-add v m q n) (rw (drop-drop (n * 64) (q * 64) m, e)))

-- whole blocks a in front of b
pub iteration-append : (v a b : List ℕ) (q : ℕ) → length a ≡ q * 64 → iteration v (a ++ b) ≡ iteration (iterated v a q) b
unfolding iteration
iteration-append v a b q e =
    let n : length (a ++ b) / 64 ≡ q + length b / 64 = omega (arith, length-append a b) in
    rw n
    (iterated-add v (a ++ b) q (length b / 64)
    ∙ ap₂ (λ (w l : List ℕ). iterated w l (length b / 64)) (iterated-front v a b q (omega arith)) (drop_at a b (q * 64) e))

-- a whole block in front of b
pub iteration-block : (v a b : List ℕ) → length a ≡ 64 → iteration v (a ++ b) ≡ iteration (CF v a) b
unfolding iterated
iteration-block v a b e =
    iteration-append v a b 1 e ∙ ap (λ (w : List ℕ). iteration (CF v w) b) (take_all 64 a (omega arith))

-- fewer bytes than a block
pub iteration-short : (v m : List ℕ) → length m < 64 → iteration v m ≡ v
unfolding iteration iterated
iteration-short v m h =
    let n : length m / 64 ≡ 0 = omega arith in
    rw n

-- one block and nothing else
pub iteration-one : (v a : List ℕ) → length a ≡ 64 → iteration v a ≡ CF v a
iteration-one v a e =
    ap (iteration v) (sym (append-nil a)) ∙ iteration-block v a [] e ∙ iteration-short (CF v a) [] (omega arith)

-- what is left behind whole blocks a
pub rest-append : (a b : List ℕ) (q : ℕ) → length a ≡ q * 64 → rest (a ++ b) ≡ rest b
unfolding rest
rest-append a b q e =
    let n : length (a ++ b) / 64 * 64 ≡ length a + length b / 64 * 64 = omega (arith, length-append a b) in
    rw n (drop-append-add a b (length b / 64 * 64))

-- fewer bytes than a block are all left
pub rest-short : (m : List ℕ) → length m < 64 → rest m ≡ m
unfolding rest
rest-short m h =
    let n : length m / 64 * 64 ≡ 0 = omega arith in
    rw n

-- less than a block is left
pub length_rest : (m : List ℕ) → length (rest m) ≡ length m % 64
unfolding rest
length_rest m = simp length-drop (omega arith)

-- a message and more of it: its whole blocks first, then what they left with the rest
module _ (m d : List ℕ) where
  -- the whole blocks of m
  front : List ℕ
  front = take (length m / 64 * 64) m

  -- so many bytes
  length_front : length front ≡ length m / 64 * 64
  unfolding front
  length_front = length-take-le (length m / 64 * 64) m (omega arith)

  -- with what is left they are m
  front_rest : (x : List ℕ) → front ++ (rest m ++ x) ≡ m ++ x
  unfolding front rest
  front_rest x =
      sym (append_assoc (take (length m / 64 * 64) m) (drop (length m / 64 * 64) m) x)
      ∙ ap (λ (l : List ℕ). l ++ x) (take-append-drop (length m / 64 * 64) m)

  -- what is left of both
  pub rest_more : rest (m ++ d) ≡ rest (rest m ++ d)
  rest_more = ap rest (sym (front_rest d)) ∙ rest-append front (rest m ++ d) (length m / 64) length_front

  -- the words after both
  pub iteration-more : (v : List ℕ) → iteration v (m ++ d) ≡ iteration (iteration v m) (rest m ++ d)
  unfolding iteration front rest
  iteration-more v =
      let q = length m / 64 in
      let whole : iterated v front q ≡ iterated v m q =
      sym (iterated-front v front (rest m) q (omega (arith, length_front)))
      ∙ ap (λ (l : List ℕ). iterated v l q) (take-append-drop (q * 64) m) in
      ap (iteration v) (sym (front_rest d))
      ∙ iteration-append v front (rest m ++ d) q length_front
      ∙ ap (λ (w : List ℕ). iteration w (rest m ++ d)) whole
