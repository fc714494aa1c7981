-- The fields as the parts of a line that is cut at its spaces. Assumes nothing.
use Rattle.std.proofs.Common.{◌≡◌, ℕ, Bor, zero, suc, ◌+◌, ◌-◌, ◌≤◌, Bool, true, false, cond, ◌&&◌, eqb, ltb, List, [], ◌∷◌, length, get_or, drop, refl, sym, ap, ◌∙◌, ◌==◌, add-one, add-zero, arith, length-drop, drop_of_length-le, drop-cons, replicate, ltb-true, lt-ltb}
use lib.Dec.{leb-suc-suc}
use Rattle.std.proofs.lemmas.List.{drop-drop}
use Rattle.std.proofs.lemmas.List.Sums.{sum_by-cons}
use Rattle.std.proofs.lemmas.List.Splits.{length-slice_split}
use Rattle.std.proofs.lemmas.Option.{unwrap_or-slice_get}
use Rattle.std.specs.Prelude.{Option, Some, None, option_map, unwrap_or, slice_get}
use Rattle.std.specs.List.{slice_split, onto_first, count_by, list_all, zip}
use Rattle.words.specs.Choice.{bit}
use Rattle.protocol.specs.Fields.{up_to, times, next_of, start_of, field_of}
use Rattle.protocol.specs.Kinds.{is_kind, kinds_from}
use Rattle.protocol.specs.declared.Kind.{Kind}

-- the line, cut at its spaces
abbrev pub parts : List ℕ → List (List ℕ)
parts l = slice_split (λ c. c == 0x20) l

ltb-suc : (m n : ℕ) → ltb (suc m) (suc n) ≡ ltb m n
ltb-suc m n = leb-suc-suc (suc m) n

-- the first part ends before the first space, and the others stand behind it
pub parts-first : (l : List ℕ)
    → parts l ≡ up_to 0x20 l ∷ cond (ltb (length (up_to 0x20 l)) (length l)) (parts (drop (length (up_to 0x20 l) + 1) l)) []
unfolding up_to
parts-first [] = refl
parts-first (x ∷ l) = by (eqb x 0x20) (parts-first l)
  where
    by : (t : Bool)
        → parts l ≡ up_to 0x20 l ∷ cond (ltb (length (up_to 0x20 l)) (length l)) (parts (drop (length (up_to 0x20 l) + 1) l)) []
        → cond t ([] ∷ parts l) (onto_first x (parts l)) ≡ cond t [] (x ∷ up_to 0x20 l)
        ∷ cond (ltb (length (cond t [] (x ∷ up_to 0x20 l))) (length (x ∷ l)))
        (parts (drop (length (cond t [] (x ∷ up_to 0x20 l)) + 1) (x ∷ l))) []
    by true e = rw (lt-ltb 0 (suc (length l)) (omega arith))
    by false e =
        let k : suc (length (up_to 0x20 l)) + 1 ≡ suc (length (up_to 0x20 l) + 1) = omega arith in
        rw (k, ltb-suc (length (up_to 0x20 l)) (length l)) (ap (onto_first x) e)

-- a space counts for one
pub times_count : (l : List ℕ) → times 0x20 l ≡ count_by (λ c. c == 0x20) l
unfolding times
times_count [] = refl
times_count (x ∷ l) = ap (λ (n : ℕ). bit (eqb x 0x20) + n) (times_count l) ∙ sym (sum_by-cons (λ c. cond (c == 0x20) 1 0) x l)

-- behind a part of a line that holds whole fields, fields end as they do in what is left
next-shift : (l : List ℕ) (a b : ℕ) → a ≤ length l → next_of l (a + b) ≡ a + next_of (drop a l) b
unfolding next_of
next-shift l a b h =
    let left : length l - (a + b) ≡ length (drop a l) - b = omega (arith, length-drop a l) in
    rw (← drop-drop b a l, left)
    (by (length (up_to 0x20 (drop b (drop a l)))) (ltb (length (up_to 0x20 (drop b (drop a l)))) (length (drop a l) - b)))
  where
    by : (n : ℕ) (t : Bool) → cond t (a + b + n + 1) (length l) ≡ a + cond t (b + n + 1) (length (drop a l))
    by n true = omega arith
    by n false = omega (arith, length-drop a l)

-- no field starts behind the end
next-fits : (l : List ℕ) (at : ℕ) → next_of l at ≤ length l
unfolding next_of
next-fits l at = by (length (up_to 0x20 (drop at l))) (ltb (length (up_to 0x20 (drop at l))) (length l - at)) refl
  where
    by : (n : ℕ) (t : Bool) → ltb n (length l - at) ≡ t → cond t (at + n + 1) (length l) ≤ length l
    by n true e = omega (arith, ltb-true n (length l - at) e)
    by n false e = omega arith

-- the fields behind the first stand in what is left behind it as they do in the line
start-shift : (k : ℕ) (l : List ℕ) → start_of (suc k) l ≡ next_of l 0 + start_of k (drop (next_of l 0) l)
unfolding start_of
start-shift zero l = rw add-zero
start-shift (suc k) l =
    ap (next_of l) (start-shift k l) ∙ next-shift l (next_of l 0) (start_of k (drop (next_of l 0) l)) (next-fits l 0)

-- so a field behind the first is a field of what is left
field-shift : (k : ℕ) (l : List ℕ) → field_of (suc k) l ≡ field_of k (drop (next_of l 0) l)
unfolding field_of
field-shift k l =
    rw (start-shift k l, ← drop-drop (start_of k (drop (next_of l 0) l)) (next_of l 0) l)

-- an empty line has no field but the first
field-none : (k : ℕ) → field_of k [] ≡ []
unfolding field_of up_to
field-none k =
    let e : drop (start_of k []) [] ≡ [] = drop_of_length-le {A = ℕ} [] {i = start_of k []} (omega arith) in
    rw e

-- where the second field starts, if there is one
next-first : (l : List ℕ)
    → next_of l 0 ≡ cond (ltb (length (up_to 0x20 l)) (length l)) (length (up_to 0x20 l) + 1) (length l)
unfolding next_of
next-first l =
    let a : length l - 0 ≡ length l = omega arith in
    let b : 0 + length (up_to 0x20 l) ≡ length (up_to 0x20 l) = omega arith in
    rw (a, b)

-- field k is part k, and empty where there is none
pub field-part : (k : ℕ) (l : List ℕ) → get_or (parts l) k [] ≡ field_of k l
unfolding field_of start_of
field-part zero l = ap (λ (p : List (List ℕ)). get_or p 0 []) (parts-first l)
field-part (suc k) l =
    ap (λ (p : List (List ℕ)). get_or p (suc k) []) (parts-first l)
    ∙ by (ltb (length (up_to 0x20 l)) (length l)) refl (field-part k (drop (length (up_to 0x20 l) + 1) l))
    ∙ sym (field-shift k l)
  where
    by : (t : Bool) → ltb (length (up_to 0x20 l)) (length l) ≡ t
        → get_or (parts (drop (length (up_to 0x20 l) + 1) l)) k [] ≡ field_of k (drop (length (up_to 0x20 l) + 1) l)
        → get_or (cond t (parts (drop (length (up_to 0x20 l) + 1) l)) []) k [] ≡ field_of k (drop (next_of l 0) l)
    by true e h = rw (next-first l, e) h
    by false e h =
        let n : drop (length l) l ≡ [] = drop_of_length-le {A = ℕ} l (omega arith) in
        rw (next-first l, e, n) (sym (field-none k))

-- part k where there is one, else what stands for it
pub part-or-none : (o : Option (Bor (List ℕ))) (ps : List (List ℕ)) (k : ℕ) (d : Bor (List ℕ)) {r : Bor (List ℕ)}
    → option_map (λ (x : Bor (List ℕ)). x.now) o ≡ slice_get ps k → r ≡ unwrap_or o d → r.now ≡ get_or ps k d.now
part-or-none o ps k d {r} e h =
    ap (λ (x : Bor (List ℕ)). x.now) h
    ∙ by o
    ∙ ap (λ (p : Option (List ℕ)). unwrap_or p d.now) e
    ∙ unwrap_or-slice_get ps k d.now
  where
    by : (o : Option (Bor (List ℕ))) → (unwrap_or o d).now ≡ unwrap_or (option_map (λ (x : Bor (List ℕ)). x.now) o) d.now
    by None = refl
    by (Some x) = refl

-- there is one part more than there are spaces
pub length-parts : (l : List ℕ) → length (parts l) ≡ times 0x20 l + 1
length-parts l = rw times_count (length-slice_split (λ c. c == 0x20) l)

-- ---- kinds

module _ (line : List ℕ) where
  -- fields are of kinds if the parts beside the kinds are
  pub kinds-parts : (i : ℕ) (kinds : List Kind) → i + 1 + length kinds ≤ length (parts line)
      → list_all (λ p. is_kind p.0 p.1) (zip (drop (i + 1) (parts line)) kinds) ≡ kinds_from line i kinds
  unfolding kinds_from
  kinds-parts i [] h = none (drop (i + 1) (parts line))
    where
      none : (p : List (List ℕ)) → list_all (λ p. is_kind p.0 p.1) (zip p []) ≡ true
      none [] = refl
      none (f ∷ p) = refl
  kinds-parts i (kind ∷ kinds) h =
      let rest : drop (i + 1) (parts line) ≡ get_or (parts line) (i + 1) [] ∷ drop (i + 1 + 1) (parts line)
      = rw (add-one (i + 1)) (drop-cons (parts line) (i + 1) [] (omega arith)) in
      rw (rest, field-part (i + 1) line) (ap (λ b. is_kind (field_of (i + 1) line) kind && b) (kinds-parts (i + 1) kinds (omega arith)))

  -- the same of one kind for all
  pub kind-parts : (kind : Kind) (n i : ℕ) → i + 1 + n ≡ length (parts line)
      → list_all (λ f. is_kind f kind) (drop (i + 1) (parts line)) ≡ kinds_from line i (replicate n kind)
  unfolding kinds_from
  kind-parts kind zero i h =
      let none : drop (i + 1) (parts line) ≡ [] = drop_of_length-le (parts line) {i = i + 1} (omega arith) in
      rw none
  kind-parts kind (suc n) i h =
      let rest : drop (i + 1) (parts line) ≡ get_or (parts line) (i + 1) [] ∷ drop (i + 1 + 1) (parts line)
      = rw (add-one (i + 1)) (drop-cons (parts line) (i + 1) [] (omega arith)) in
      rw (rest, field-part (i + 1) line) (ap (λ b. is_kind (field_of (i + 1) line) kind && b) (kind-parts kind n (i + 1) (omega arith)))
