-- One list laid over another: over zeros, one behind the other, and into a part that was lent. Assumes nothing.
use Rattle.std.proofs.Common.{◌≡◌, ℕ, ◌+◌, ◌-◌, ◌<◌, ◌≤◌, List, [], ◌∷◌, ◌++◌, length, take, drop, set, replicate, sym, ap, ◌∙◌, append_assoc, zero-add, add-one, arith, length-append, length-drop, take-append-drop, length-take-le, drop-drop, take_at, drop_at}
use lib.ListN.{length-replicate}
use lib.Seq.{take-append_seam, drop-append-le, drop-append-add, drop-append_seam, set_split}
use Rattle.words.specs.Lists.{put}
use Rattle.words.proofs.Lists.{put-fits, length-put, drop-replicate}

-- over n zeros
pub put-extended : (x : List ℕ) (n : ℕ) → length x ≤ n → put 0 x (replicate n 0) ≡ x ++ replicate (n - length x) 0
put-extended x n h =
    put-fits 0 x (replicate n 0) (omega (arith, length-replicate {A = ℕ} n 0))
    ∙ rw (zero-add (length x), drop-replicate (length x) n 0)

-- one element
pub put_one : (at x : ℕ) (o : List ℕ) → at < length o → set o at x ≡ put at (x ∷ []) o
put_one at x o h =
    set_split o at x h ∙ sym (put-fits at (x ∷ []) o (omega arith) ∙ rw (add-one at))

-- y right behind x is x and y as one
pub put-put : (at n : ℕ) (x y o : List ℕ) → at + length x ≡ n → n + length y ≤ length o → put n y (put at x o) ≡ put at (x ++ y) o
put-put at n x y o e h =
    let front = take at o ++ x in
    let behind = drop (at + length x) o in
    let end = drop (at + length x + length y) o in
    let f : length front ≡ n = length-append (take at o) x ∙ omega (arith, length-take-le at o (omega arith)) in
    let room : n + length y ≤ length (front ++ behind) =
    omega (arith, length-append front behind, length-drop (at + length x) o) in
    let m : n + length y ≡ length front + length y = omega arith in
    let both : at + length (x ++ y) ≡ at + length x + length y = omega (arith, length-append x y) in
    ap (put n y) (put-fits at x o (omega arith) ∙ sym (append_assoc (take at o) x behind))
    ∙ put-fits n y (front ++ behind) room
    ∙ rw (take_at front behind n f, m, drop-append-add front behind (length y), drop-drop (length y) (at + length x) o)
    (append_assoc (take at o) x (y ++ end)
    ∙ ap (λ (l : List ℕ). take at o ++ l) (sym (append_assoc x y end))
    ∙ sym (put-fits at (x ++ y) o (omega arith) ∙ rw both))

-- a part lent from a on, k elements long, comes back as p
pub put_back : (a k : ℕ) (p l : List ℕ) → length p ≡ k → a + k ≤ length l
    → take a l ++ (p ++ drop k (drop a l)) ≡ put a p l
put_back a k p l h room =
    ap (λ (r : List ℕ). take a l ++ (p ++ r)) (drop-drop k a l ∙ ap (λ (n : ℕ). drop (a + n) l) (sym h))
    ∙ sym (put-fits a p l (omega arith))

-- and with x laid over its front
pub put-part : (a k : ℕ) (x l : List ℕ) → length x ≤ k → a + k ≤ length l
    → take a l ++ (put 0 x (take k (drop a l)) ++ drop k (drop a l)) ≡ put a x l
put-part a k x l h room =
    let p = take k (drop a l) in
    let behind = drop k (drop a l) in
    let n : length p ≡ k = length-take-le k (drop a l) (omega (arith, length-drop a l)) in
    ap (λ (q : List ℕ). take a l ++ (q ++ behind)) (put-fits 0 x p (omega arith))
    ∙ rw (
      zero-add (length x),
      append_assoc x (drop (length x) p) behind,
      ← drop-append-le (length x) p behind (omega arith),
      take-append-drop k (drop a l),
      drop-drop (length x) a l,
    )
    (sym (put-fits a x l (omega arith)))

-- what was laid is there
pub part-put : (at : ℕ) (x o : List ℕ) → at + length x ≤ length o → take (length x) (drop at (put at x o)) ≡ x
part-put at x o h =
    let behind = drop (at + length x) o in
    let n : length (take at o) ≡ at = length-take-le at o (omega arith) in
    rw (put-fits at x o h, drop_at (take at o) (x ++ behind) at n) (take-append_seam x behind)

-- a list of the same length over it leaves nothing of it
pub put_again : (at : ℕ) (x y o : List ℕ) → length x ≡ length y → at + length x ≤ length o → put at y (put at x o) ≡ put at y o
put_again at x y o e h =
    let behind = drop (at + length x) o in
    let n : length (take at o) ≡ at = length-take-le at o (omega arith) in
    let m : at + length y ≡ length (take at o) + length x = omega arith in
    put-fits at y (put at x o) (omega (arith, length-put at x o))
    ∙ rw (put-fits at x o h, take_at (take at o) (x ++ behind) at n, m, drop-append-add (take at o) (x ++ behind) (length x), drop-append_seam x behind)
    (ap (λ (k : ℕ). take at o ++ (y ++ drop (at + k) o)) e ∙ sym (put-fits at y o (omega arith)))
