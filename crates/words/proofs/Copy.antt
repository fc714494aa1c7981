-- What lays src over out from index at on, as many elements as there are and as there is room for: a loop of n stores
-- (`copy_at`), or a part of out that gives way to a run (`fill_at`). Assumes nothing.
use Rattle.std.proofs.Common.{◌≡◌, ℕ, ◌+◌, ◌-◌, ◌<◌, ◌≤◌, min, List, [], ◌++◌, length, get_or, take, drop, set, ap, ◌∙◌, ⊎_elim, append_assoc, append-nil, eq-or-lt_of_le, add-one, arith, drop_of_length-le, take_all, drop-drop}
use borrow.Rule.Slice.PartMut.{put_mid}
use lib.Seq.{paste, paste-zero, paste-suc, length-paste}
use Rattle.words.specs.Lists.{put}

-- after j of n stores: o is out with the first j elements of src laid over it
pub record Laid (out : List ℕ) (at : ℕ) (src : List ℕ) (n : ℕ) (o : List ℕ) (j : ℕ) : Type 0 where
  pub stores : n ≡ min (length src) (length out - at)
  pub within : j ≤ n
  pub so_far : o ≡ paste out at src j

-- before the first store
pub laid_none : {out : List ℕ} {at : ℕ} {src : List ℕ} {n : ℕ}
    → n ≡ min (length src) (length out - at) → Laid out at src n out 0
laid_none {out} {at} {src} e = record { stores = e; within = omega arith; so_far = paste-zero out at src }

-- n elements are all of src, or all that there is room for
paste_put : (out : List ℕ) (at : ℕ) (src : List ℕ) (n : ℕ)
    → n ≡ min (length src) (length out - at) → paste out at src n ≡ put at src out
unfolding put
paste_put out at src n e =
    let b : n ≤ length src = omega arith in
    ⊎_elim
    (λ all.
    rw (all, take_all (length src) src (omega arith), take_all (length out - at) src (omega arith))
    (append_assoc (take at out) src (drop (at + length src) out)))
    (λ less.
    let full : n ≡ length out - at = omega arith in
    let at-end : length out ≤ at + (length out - at) = omega arith in
    let past_end : length out ≤ at + length src = omega arith in
    rw (full, drop_of_length-le out at-end, drop_of_length-le out past_end)
    (append_assoc (take at out) (take (length out - at) src) []))
    (eq-or-lt_of_le b)

module _ {out : List ℕ} {at : ℕ} {src : List ℕ} {n : ℕ} {o : List ℕ} {j : ℕ} (l : Laid out at src n o j) where
  -- one store more
  pub laid_more : {v : ℕ} → j < n → v ≡ get_or src j 0 → Laid out at src n (set o (at + j) v) (j + 1)
  laid_more b e =
      record {
        stores = l.stores;
        within = omega arith;
        so_far = rw (e, l.so_far, add-one j) (paste-suc out at src j 0 (omega arith) (omega arith));
      }

  -- the length stays
  pub laid-length : at ≤ length out → length o ≡ length out
  laid-length h = rw l.so_far (length-paste out at src j (omega arith) (omega arith))

  -- after the last store
  pub laid_all : n ≤ j → o ≡ put at src out
  laid_all b = let last : j ≡ n = omega arith in rw last at l.so_far ∙ paste_put out at src n l.stores

-- k elements from at on gave way to the first n of src
pub put_part : (at n k : ℕ) (out src ys : List ℕ) → n ≡ min (length src) (length out - at) → k ≡ n → at < length out
    → ys ≡ take n src → put_mid at k out ys ≡ put at src out
unfolding put
put_part at n k out src ys e same room laid =
    let b : n ≤ length src = omega arith in
    ap (λ (l : List ℕ). take at out ++ (l ++ drop k (drop at out))) laid
    ∙ ⊎_elim
    (λ all.
    rw (same, all, take_all (length src) src (omega arith), take_all (length out - at) src (omega arith), drop-drop (length src) at out))
    (λ less.
    let full : n ≡ length out - at = omega arith in
    let past_end : length out ≤ at + length src = omega arith in
    rw (same, full, drop-drop (length out - at) at out, drop_of_length-le out {i = at + (length out - at)} (omega arith), drop_of_length-le out past_end))
    (eq-or-lt_of_le b)

-- where there is no room nothing changes
pub no_room : (out : List ℕ) (at : ℕ) (src : List ℕ) → length out ≤ at → out ≡ put at src out
unfolding put
no_room out at src h =
    let none : length out - at ≡ 0 = omega arith in
    rw (none, take_all at out h, drop_of_length-le out {i = at + length src} (omega arith), append-nil out)
