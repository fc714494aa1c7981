-- Texts laid over an output, one behind the other. Assumes nothing.
use mathlib.Core.List.{List, [], ◌++◌}
use mathlib.Core.Path.{◌≡◌, sym, ap, ◌∙◌}
use Prim.Native.Nat.{ℕ, ◌≤◌}
use native.Mathlib.Nat.{add-zero}
use native.Mathlib.Omega.{arith}
use lib.ListN.{length, take, length-append, take-append-drop}
use Rattle.words.specs.Lists.{put}
use Rattle.words.proofs.Lists.{length-put, put-fits}
use Rattle.words.proofs.Puts.{put-put, part-put}
use Rattle.lines.specs.Text.{PutAt}

-- the output keeps its length
pub put-long : {x o o₁ : List ℕ} {at n : ℕ} → PutAt x o at n o₁ → length o₁ ≡ length o
put-long {x} {o} {at = at} p = ap length p.laid ∙ length-put at x o

-- y behind x is x and y as one
pub put-after : {x y o o₁ o₂ : List ℕ} {at n m : ℕ}
    → PutAt x o at n o₁ → PutAt y o₁ n m o₂ → m ≤ length o → PutAt (x ++ y) o at m o₂
put-after {x} {y} {o} {at = at} {n} {m} p q h =
    record {
      behind = omega (arith, length-append x y, p.behind, q.behind);
      laid = q.laid ∙ ap (put n y) p.laid ∙ put-put at n x y o (sym p.behind) (omega (arith, q.behind));
    }

-- nothing laid changes nothing
pub put_nothing : (at : ℕ) (o : List ℕ) → at ≤ length o → put at [] o ≡ o
put_nothing at o h = put-fits at [] o (omega arith) ∙ rw (add-zero at) (take-append-drop at o)

-- what was laid in front is found there
pub put_front : {x o o₁ : List ℕ} {n : ℕ} → PutAt x o 0 n o₁ → n ≤ length o → take n o₁ ≡ x
put_front {x} {o} {n = n} p h =
    let e : n ≡ length x = omega (arith, p.behind) in
    rw (p.laid, e) (part-put 0 x o (omega arith))
