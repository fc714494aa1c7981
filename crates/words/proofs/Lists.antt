-- Laws of the lists of specs/Lists: tables, blocks, pieces end to end, exclusive or, one list laid over another.
-- Assumes nothing.
use Rattle.std.proofs.Common.{◌≡◌, ℕ, zero, suc, ◌+◌, ◌-◌, ◌*◌, ◌<◌, ◌≤◌, Bool, true, false, cond, ◌⊎◌, List, [], ◌∷◌, ◌++◌, length, get_or, take, drop, set, replicate, sym, refl, ap, ◌∙◌, ap₂, inl, inr, append_assoc, append-nil, le_of_eq, le_of_suc-le-suc, not-suc-le-zero, add-zero, mul-le-mul_right, suc-mul, suc-add, eq-or-lt_of_le, zero-add, zero-mul, suc-ne-zero, add-one, arith, length-append, length-drop, drop_of_length-le, length-take, get_or-drop, take_all, get_or-take, take-suc, drop-drop, take-suc-set, take_at, get_or-append-add, ext_get_or, take-add, drop_at}
use native.Mathlib.Nat.{suc_inj}
use Rattle.std.specs.Simd.{first_chunks}
use lib.Bits.{bit_xor}
use lib.ListN.{length-replicate}
use lib.ListN.{get_or-replicate, get_or-append}
use lib.Seq.{take-nil, take-append-le, drop-append-add}
use lib.Seq.{get_or_at}
use Rattle.words.specs.Lists.{table, grow, join, block, zip_with, xor_each, put}
use Rattle.words.specs.Word.{◌⊕◌}
use Rattle.words.proofs.Xor.{xor_twice}

-- ---- any list

-- as many elements as there are
pub take_whole : (a : List ℕ) (n : ℕ) → length a ≡ n → take n a ≡ a
take_whole a n e = take_all n a (omega arith)

-- a part from n to the end
pub part_to_end : (n : ℕ) (l : List ℕ) → take (length l - n) (drop n l) ≡ drop n l
part_to_end n l = take_whole (drop n l) (length l - n) (length-drop n l)

-- a part in the middle, cut from either side first
pub take-drop : (n a : ℕ) (l : List ℕ) → take n (drop a l) ≡ drop a (take (a + n) l)
take-drop n zero l = rw (zero-add n)
take-drop n (suc a) [] = rw (suc-add a n, take-nil n)
take-drop n (suc a) (x ∷ l) = rw (suc-add a n) (take-drop n a l)

-- an element past the seam
pub get_or-append-ge : (a b : List ℕ) (i d : ℕ) → length a ≤ i → get_or (a ++ b) i d ≡ get_or b (i - length a) d
get_or-append-ge a b i d h =
    let e : i ≡ length a + (i - length a) = omega arith in
    ap (λ (n : ℕ). get_or (a ++ b) n d) e ∙ get_or-append-add a b (i - length a) d

-- the default is the element: no bound on the index
pub get_or-replicate_self : (n i x : ℕ) → get_or (replicate n x) i x ≡ x
get_or-replicate_self zero i x = refl
get_or-replicate_self (suc n) zero x = refl
get_or-replicate_self (suc n) (suc i) x = get_or-replicate_self n i x

-- the front of a run is a run
pub take-replicate : (k n x : ℕ) → k ≤ n → take k (replicate n x) ≡ replicate k x
take-replicate zero n x h = refl
take-replicate (suc k) zero x h = absurd (not-suc-le-zero h)
take-replicate (suc k) (suc n) x h = ap (λ (l : List ℕ). x ∷ l) (take-replicate k n x (le_of_suc-le-suc h))

-- a list whose elements from a on are all x ends in a run of x
pub drop_constant : (l : List ℕ) (a x : ℕ) → ((i : ℕ) → a ≤ i → i < length l → get_or l i 0 ≡ x)
    → drop a l ≡ replicate (length l - a) x
drop_constant l a x h =
    ext_get_or 0 (drop a l) (replicate (length l - a) x) (length-drop a l ∙ sym (length-replicate (length l - a) x))
    (λ i b.
    let c : i < length l - a = omega (arith, length-drop a l) in
    get_or-drop a l i 0 ∙ h (a + i) (omega arith) (omega arith) ∙ sym (get_or-replicate (length l - a) i x 0 c))

-- the end of a run is a run
pub drop-replicate : (k n x : ℕ) → drop k (replicate n x) ≡ replicate (n - k) x
drop-replicate k n x =
    drop_constant (replicate n x) k x (λ i _ b. get_or-replicate n i x 0 (rw length-replicate at b))
    ∙ rw length-replicate

-- a value by a test, from its two cases
pub cond_is : {A : Type 0} {x y z : A} (b : Bool) → (b ≡ true → x ≡ y) → (b ≡ false → x ≡ z) → x ≡ cond b y z
cond_is true f g = f refl
cond_is false f g = g refl

-- ---- tables

-- as many elements as asked for
pub length-table : (f : ℕ → ℕ) (n : ℕ) → length (table f n) ≡ n
unfolding table
length-table f zero = refl
length-table f (suc n) = length-append (table f n) (f n ∷ []) ∙ omega (arith, length-table f n)

-- element i is f i
pub get_or-table : (f : ℕ → ℕ) (n i d : ℕ) → i < n → get_or (table f n) i d ≡ f i
unfolding table
get_or-table f zero i d h = absurd (not-suc-le-zero h)
get_or-table f (suc n) i d h = split (get_or-table f n i d) (eq-or-lt_of_le h)
  where
    split : (i < n → get_or (table f n) i d ≡ f i) → (suc i ≡ suc n) ⊎ (suc i < suc n)
        → get_or (table f n ++ (f n ∷ [])) i d ≡ f i
    split ih (inl e) = get_or_at (table f n) (f n) [] d i (length-table f n ∙ sym (suc_inj e)) ∙ ap f (sym (suc_inj e))
    split ih (inr b) = get_or-append (table f n) (f n ∷ []) d i (omega (arith, length-table f n)) ∙ ih (omega arith)

-- only the elements asked for count
pub table_ext : (f g : ℕ → ℕ) (n : ℕ) → ((i : ℕ) → i < n → f i ≡ g i) → table f n ≡ table g n
unfolding table
table_ext f g zero h = refl
table_ext f g (suc n) h =
    ap₂ (λ (a : List ℕ) (x : ℕ). a ++ (x ∷ [])) (table_ext f g n (λ i b. h i (omega arith))) (h n (omega arith))

-- a list is the table of its elements
pub table-get_or : (l : List ℕ) (n : ℕ) → n ≤ length l → table (λ i. get_or l i 0) n ≡ take n l
unfolding table
table-get_or l zero h = refl
table-get_or l (suc n) h = rw (take-suc l n 0, table-get_or l n (omega arith))

-- a list of n elements, element by element
pub as_table : (l : List ℕ) (n : ℕ) → length l ≡ n → l ≡ table (λ i. get_or l i 0) n
as_table l n e = sym (table-get_or l n (omega arith) ∙ take_whole l n e)

-- one turn of a loop that fills an array: element j is f j
pub table_more : (f : ℕ → ℕ) (a : List ℕ) (j v : ℕ) → j < length a → v ≡ f j → take j a ≡ table f j
    → take (j + 1) (set a j v) ≡ table f (j + 1)
unfolding table
table_more f a j v h e p = rw (add-one j, take-suc-set) (ap₂ (λ (l : List ℕ) (x : ℕ). l ++ (x ∷ [])) p e)

-- one turn of a loop that fills an array: element j is f of those before it
pub grow-more : (f : List ℕ → ℕ) (w a : List ℕ) (n j v : ℕ) → j < length a → v ≡ f (take j a) → take j a ≡ grow f n w
    → take (j + 1) (set a j v) ≡ grow f (n + 1) w
unfolding grow
grow-more f w a n j v h e p =
    rw (add-one j, add-one n, take-suc-set) (ap₂ (λ (l : List ℕ) (x : ℕ). l ++ (x ∷ [])) p (e ∙ ap f p))

-- ---- blocks

-- a block that lies inside is whole
pub length-block : (w k : ℕ) (l : List ℕ) → suc k * w ≤ length l → length (block w k l) ≡ w
length-block w k l h = simp (length-take, length-drop) (omega (arith, suc-mul k w))

-- the block in front
pub block-front : (w : ℕ) (a l : List ℕ) → length a ≡ w → block w 0 (a ++ l) ≡ a
block-front w a l e = rw (zero-mul w) (take_at a l w e)

-- a block behind the one in front
pub block-behind : (w k : ℕ) (a l : List ℕ) → length a ≡ w → block w (suc k) (a ++ l) ≡ block w k l
block-behind w k a l e =
    let n : suc k * w ≡ length a + k * w = omega (arith, suc-mul k w) in
    rw n (ap (take w) (drop-append-add a l (k * w)))

-- an element of a block
pub get_or-block : (w k : ℕ) (l : List ℕ) (i d : ℕ) → i < w → get_or (block w k l) i d ≡ get_or l (k * w + i) d
get_or-block w k l i d h = get_or-take w (drop (k * w) l) i d h ∙ get_or-drop (k * w) l i d

-- a block of four elements, one by one
pub block-four : (l : List ℕ) (i : ℕ) → suc i * 4 ≤ length l
    → block 4 i l ≡ get_or l (i * 4) 0 ∷ get_or l (i * 4 + 1) 0 ∷ get_or l (i * 4 + 2) 0 ∷ get_or l (i * 4 + 3) 0 ∷ []
unfolding table
block-four l i h =
    as_table (block 4 i l) 4 (length-block 4 i l h)
    ∙ rw (
      get_or-block 4 i l 0 0 (omega arith),
      add-zero (i * 4),
      get_or-block 4 i l 1 0 (omega arith),
      get_or-block 4 i l 2 0 (omega arith),
      get_or-block 4 i l 3 0 (omega arith),
    )

-- chunk i of k is block i
pub get_or-first_chunks : (w k i : ℕ) (l : List ℕ) (d : List ℕ) → i < k → get_or (first_chunks w k l) i d ≡ block w i l
get_or-first_chunks w zero i l d h = absurd (omega arith)
get_or-first_chunks w (suc k) zero l d h = rw (zero-mul w)
get_or-first_chunks w (suc k) (suc i) l d h =
    get_or-first_chunks w k i (drop w l) d (omega arith)
    ∙ ap (take w) (drop-drop (i * w) w l ∙ ap (λ (n : ℕ). drop n l) (omega (arith, suc-mul i w)))

-- ---- one list laid over another

-- the length stays
pub length-put : (at : ℕ) (src out : List ℕ) → length (put at src out) ≡ length out
unfolding put
length-put at src out = simp (length-append, length-take, length-drop) (omega arith)

-- a list that is no shorter is cut
pub put-cut : (src out : List ℕ) → length out ≤ length src → put 0 src out ≡ take (length out) src
unfolding put
put-cut src out h =
    let n : length out - 0 ≡ length out = omega arith in
    rw (drop_of_length-le out {i = 0 + length src} (omega arith), append-nil (take (length out - 0) src), n)

-- a list of the same length takes the other's place
pub put_whole : (src out : List ℕ) → length src ≡ length out → put 0 src out ≡ src
put_whole src out e = put-cut src out (omega arith) ∙ take_whole src (length out) e

-- where there is room, all of the list is laid
pub put-fits : (at : ℕ) (src out : List ℕ) → at + length src ≤ length out
    → put at src out ≡ take at out ++ (src ++ drop (at + length src) out)
unfolding put
put-fits at src out h = rw (take_all (length out - at) src (omega arith))

-- ---- pieces end to end

-- only the pieces asked for count
pub join_ext : (m : ℕ) (f g : ℕ → List ℕ) → ((k : ℕ) → k < m → f k ≡ g k) → join m f ≡ join m g
unfolding join
join_ext zero f g h = refl
join_ext (suc m) f g h =
    ap₂ (λ (a b : List ℕ). a ++ b) (join_ext m f g (λ k b. h k (omega arith))) (h m (omega arith))

-- a list, cut into blocks and laid end to end
pub join_blocks : (w m : ℕ) (l : List ℕ) → join m (λ k. block w k l) ≡ take (m * w) l
unfolding join
join_blocks w zero l = rw (zero-mul w)
join_blocks w (suc m) l = rw (suc-mul m w, take-add (m * w) w l, join_blocks w m l)

module _ (w : ℕ) (f : ℕ → List ℕ) where
  -- m pieces of w elements each
  pub length_join : (m : ℕ) → ((k : ℕ) → k < m → length (f k) ≡ w) → length (join m f) ≡ m * w
  unfolding join
  length_join zero h = omega arith
  length_join (suc m) h =
      length-append (join m f) (f m)
      ∙ omega (arith, length_join m (λ k b. h k (omega arith)), h m (omega arith), suc-mul m w)

  -- the first j pieces
  pub take_join : (m j : ℕ) → ((k : ℕ) → k < m → length (f k) ≡ w) → j ≤ m → take (j * w) (join m f) ≡ join j f
  unfolding join
  take_join zero j h b = let e : j ≡ 0 = omega arith in rw (e, zero-mul w)
  take_join (suc m) j h b = split (take_join m j (λ k c. h k (omega arith))) (eq-or-lt_of_le b)
    where
      split : (j ≤ m → take (j * w) (join m f) ≡ join j f) → (j ≡ suc m) ⊎ (j < suc m)
          → take (j * w) (join m f ++ f m) ≡ join j f
      split ih (inl e) = rw e (take_all (suc m * w) (join (suc m) f) (le_of_eq (length_join (suc m) h)))
      split ih (inr c) =
          let d : j ≤ m = omega arith in
          take-append-le (j * w) (join m f) (f m)
          (omega (arith, mul-le-mul_right w d, length_join m (λ k c. h k (omega arith))))
          ∙ ih d

  -- block k of the pieces is piece k
  pub block_join : (m k : ℕ) → ((j : ℕ) → j < m → length (f j) ≡ w) → k < m → block w k (join m f) ≡ f k
  unfolding join
  block_join m k h b =
      take-drop w (k * w) (join m f)
      ∙ ap (λ (n : ℕ). drop (k * w) (take n (join m f))) (sym (suc-mul k w))
      ∙ ap (drop (k * w)) (take_join m (suc k) h b)
      ∙ drop_at (join k f) (f k) (k * w) (length_join k (λ j c. h j (omega arith)))

  -- one turn of a loop that lays piece m over what was there
  pub put_join : (m : ℕ) (o : List ℕ) → ((k : ℕ) → k < suc m → length (f k) ≡ w) → suc m * w ≤ length o
      → put (m * w) (f m) (join m f ++ drop (m * w) o) ≡ join (suc m) f ++ drop (suc m * w) o
  unfolding join
  put_join m o h b =
      let front = join m f in
      let rest = drop (m * w) o in
      let l : length front ≡ m * w = length_join m (λ k c. h k (omega arith)) in
      let piece : length (f m) ≡ w = h m (omega arith) in
      let e : m * w + length (f m) ≡ length front + w = omega arith in
      put-fits (m * w) (f m) (front ++ rest) (simp (length-append, length-drop) (omega (arith, suc-mul m w)))
      ∙ rw (take_at front rest (m * w) l, e, drop-append-add front rest w, drop-drop w (m * w) o, suc-mul m w)
      (sym (append_assoc front (f m) (drop (m * w + w) o)))

-- ---- two lists of one length, element by element

-- the length stays
pub length-zip_with : {A : Type 0} (op : A → A → A) (a b : List A) → length a ≡ length b → length (zip_with op a b) ≡ length b
unfolding zip_with
length-zip_with op [] b e = e
length-zip_with op (x ∷ a) [] e = refl
length-zip_with op (x ∷ a) (y ∷ b) e = ap suc (length-zip_with op a b (suc_inj e))

-- each element
pub get_or-zip_with : {A : Type 0} (op : A → A → A) (a b : List A) (i : ℕ) (d : A) → length a ≡ length b → i < length b
    → get_or (zip_with op a b) i d ≡ op (get_or a i d) (get_or b i d)
unfolding zip_with
get_or-zip_with op a [] i d e h = absurd (omega arith)
get_or-zip_with op [] (y ∷ b) i d e h = cc
get_or-zip_with op (x ∷ a) (y ∷ b) zero d e h = refl
get_or-zip_with op (x ∷ a) (y ∷ b) (suc i) d e h = get_or-zip_with op a b i d (suc_inj e) (omega arith)

-- by exclusive or
pub zip_with-xor : (a b : List ℕ) → zip_with bit_xor a b ≡ xor_each a b
unfolding zip_with xor_each ◌⊕◌
zip_with-xor [] b = refl
zip_with-xor (x ∷ a) [] = refl
zip_with-xor (x ∷ a) (y ∷ b) = ap (λ (l : List ℕ). bit_xor x y ∷ l) (zip_with-xor a b)

-- ---- exclusive or of two lists of one length

-- the length stays
pub length-xor_each : (a b : List ℕ) → length a ≡ length b → length (xor_each a b) ≡ length b
unfolding xor_each
length-xor_each [] b e = e
length-xor_each (x ∷ a) [] e = refl
length-xor_each (x ∷ a) (y ∷ b) e = ap suc (length-xor_each a b (suc_inj e))

-- what is put on twice is gone
pub xor_each_twice : (a b : List ℕ) → length a ≡ length b → xor_each a (xor_each a b) ≡ b
unfolding xor_each
xor_each_twice [] [] e = refl
xor_each_twice [] (y ∷ b) e = absurd (suc-ne-zero (length b) (sym e))
xor_each_twice (x ∷ a) [] e = refl
xor_each_twice (x ∷ a) (y ∷ b) e = ap₂ (λ (u : ℕ) (v : List ℕ). u ∷ v) (xor_twice x y) (xor_each_twice a b (suc_inj e))

-- element by element; past both ends 0 ⊕ 0
pub get_or-xor_each : (a b : List ℕ) (i : ℕ) → length a ≡ length b → get_or (xor_each a b) i 0 ≡ get_or a i 0 ⊕ get_or b i 0
unfolding xor_each ◌⊕◌
get_or-xor_each [] [] i e = refl
get_or-xor_each [] (y ∷ b) i e = absurd (suc-ne-zero (length b) (sym e))
get_or-xor_each (x ∷ a) [] i e = absurd (suc-ne-zero (length a) e)
get_or-xor_each (x ∷ a) (y ∷ b) zero e = refl
get_or-xor_each (x ∷ a) (y ∷ b) (suc i) e = get_or-xor_each a b i (suc_inj e)

-- every element with the same number
pub get_or-xor_each-run : (n : ℕ) (a : List ℕ) (i x : ℕ) → length a ≡ n → i < n
    → get_or a i 0 ⊕ x ≡ get_or (xor_each a (replicate n x)) i 0
get_or-xor_each-run n a i x e h =
    ap (λ (y : ℕ). get_or a i 0 ⊕ y) (sym (get_or-replicate n i x 0 h))
    ∙ sym (get_or-xor_each a (replicate n x) i (e ∙ sym (length-replicate n x)))
