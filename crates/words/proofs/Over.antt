-- A list that another of its length is written over, element by element from the front. Assumes nothing.
use Rattle.std.proofs.Common.{◌≡◌, ℕ, suc, ◌+◌, ◌<◌, ◌≤◌, List, [], ◌∷◌, ◌++◌, length, get_or, take, drop, set, sym, refl, ◌∙◌, append_assoc, append-nil, add-one, arith, drop_of_length-le, length-take-le, take_all, drop-cons, take-suc}
use lib.Seq.{get_or_at, set_at, length_front}

-- after j stores: l has the first j elements of x, and those of o behind them
pub record Over {A : Type 0} (x o l : List A) (j : ℕ) : Type 0 where
  pub same : length x ≡ length o
  pub within : j ≤ length o
  pub so_far : l ≡ take j x ++ drop j o

-- before the first store
pub over_none : {A : Type 0} {x o : List A} → length x ≡ length o → Over x o o 0
over_none e = record { same = e; within = omega arith; so_far = refl }

module _ {A : Type 0} {x o l : List A} {j : ℕ} (p : Over x o l j) where
  -- what is written so far
  length-written : length (take j x) ≡ j
  length-written = length-take-le j x (omega (arith, p.same, p.within))

  -- the length stays
  pub over-length : length l ≡ length o
  over-length =
      rw p.so_far (length_front o (take j x) j (length-written ∙ sym (length-take-le j o p.within)))

  -- the next element is as found
  pub over_at : (d : A) → j < length o → get_or l j d ≡ get_or o j d
  over_at d h = rw (p.so_far, drop-cons o j d h) (get_or_at (take j x) (get_or o j d) (drop (suc j) o) d j length-written)

  -- one store more
  pub over-set : (d : A) {v : A} → j < length o → v ≡ get_or x j d → Over x o (set l j v) (j + 1)
  over-set d {v} h e =
      let y = get_or x j d in
      let rest = drop (suc j) o in
      record {
        same = p.same;
        within = omega arith;
        so_far =
            rw (e, p.so_far, add-one j, drop-cons o j d h, take-suc x j d (omega (arith, p.same)))
            (set_at (take j x) (get_or o j d) rest y j length-written ∙ sym (append_assoc (take j x) (y ∷ []) rest));
      }

  -- after the last store
  pub over_all : length o ≤ j → l ≡ x
  over_all h = rw (p.so_far, drop_of_length-le o h, take_all j x (omega (arith, p.same))) (append-nil x)

-- the same of numbers, whose default is 0
pub over_here : {x o l : List ℕ} {j : ℕ} → Over x o l j → j < length o → get_or l j 0 ≡ get_or o j 0
over_here p h = over_at p 0 h

pub over-more : {x o l : List ℕ} {j v : ℕ} → Over x o l j → j < length o → v ≡ get_or x j 0 → Over x o (set l j v) (j + 1)
over-more p h e = over-set p 0 h e
