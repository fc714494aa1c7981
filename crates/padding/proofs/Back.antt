-- A slice's bytes from the last one back, at most 256 of them, each with how many stand behind it. Assumes nothing.
use mathlib.Core.List.{List, reverse}
use mathlib.Core.Path.{◌≡◌, ap, ap₂, ◌∙◌}
use Prim.Native.Nat.{ℕ, ◌-◌, ◌<◌, min}
use native.Mathlib.Nat.{zero-add}
use native.Mathlib.Omega.{arith}
use denote.Ref.{Bor}
use lib.ListN.{length, get_or, take, length-take}
use Rattle.std.proofs.lemmas.Iterator.{YieldsList, YieldsList-from_take}
use Rattle.std.proofs.lemmas.Iterator.Adapters.{YieldsList-from_rev_slice}
use Rattle.std.proofs.lemmas.Iterator.Consumers.{YieldsList-from_enumerate, YieldsList-turn, YieldsList-end}
use Rattle.std.proofs.lemmas.List.{length-reverse, get_or-reverse, get_or-take, get_or_default}
use Rattle.std.proofs.lemmas.List.FromFn.{length-enumerate_from, get_or-enumerate_from}
use Rattle.std.specs.Iterator.Adapters.{enumerate_steps, take_steps, rev_steps}
use Rattle.std.specs.List.{enumerate_from}
use Rattle.std.specs.Slice.Iter.{iter_rest, iter_steps_back}
use Rattle.std.specs.Iterator.{Yields}
use Rattle.std.specs.Prelude.{Option, Some, None}
use Rattle.std.specs.declared.iter.Enumerate.{Enumerate}
use Rattle.std.specs.declared.iter.Rev.{Rev}
use Rattle.std.specs.declared.iter.Take.{Take}
use Rattle.std.specs.declared.slice.Iter.{Iter}

-- those bytes
abbrev back : List ℕ → List (ℕ × ℕ)
back d = enumerate_from 0 (take 256 (reverse d))

-- how many there are
length-back : (d : List ℕ) → length (back d) ≡ min 256 (length d)
length-back d = length-enumerate_from 0 (take 256 (reverse d)) ∙ length-take 256 (reverse d) ∙ ap (min 256) (length-reverse d)

-- and which they are
get_or-back : (d : List ℕ) (i : ℕ) (p : ℕ × ℕ) → i < length (back d)
    → get_or (back d) i p ≡ (i, get_or d (length d - 1 - i) p.1)
get_or-back d i p h =
    let b : i < min 256 (length d) = omega (arith, length-back d) in
    let r = take 256 (reverse d) in
    get_or-enumerate_from 0 r i p (omega (arith, length-enumerate_from 0 r))
    ∙ ap₂ (λ (m n : ℕ). (m, n)) (zero-add i)
    (get_or-take 256 (reverse d) i p.1 (omega arith) ∙ get_or-reverse d i p.1 (omega arith))

-- an iterator over them
abbrev pub Backwards : Type 0
Backwards = Enumerate (Take (Rev (Iter ℕ)))

-- one turn of it
abbrev pub turns : Backwards → Option (ℕ × Bor ℕ) → Backwards → Type 0
turns = enumerate_steps (take_steps (rev_steps iter_steps_back))

module _ (d : List ℕ) (s : Backwards) (rest : iter_rest s.iter.iter.iter ≡ d) (most : s.iter.n ≡ 256) (none : s.count ≡ 0) where
  -- from s on, it gives them
  road : YieldsList turns (λ p. (p.0, p.1.now)) s (back d)
  road =
      let reversed = YieldsList-from_rev_slice {s = s.iter.iter} d rest in
      YieldsList-from_enumerate {s = s} (YieldsList-from_take {s = s.iter} 256 reversed most) none

  -- the next byte
  pub back-turn : (xs : List (ℕ × Bor ℕ)) (t u : Backwards) (i : ℕ) (b : Bor ℕ) (r : Option (ℕ × Bor ℕ))
      → Yields turns s xs t → r ≡ Some (i, b) → turns t r u → (i ≡ length xs) × (b.now ≡ get_or d (length d - 1 - i) 0)
  back-turn xs t u i b r y e k =
      let p : ℕ × ℕ = (i, b.now) in
      let l = YieldsList-turn road xs t y r u (i, b) e k in
      let v : p ≡ (length xs, get_or d (length d - 1 - length xs) b.now) = l.1 ∙ get_or-back d (length xs) p l.0 in
      let j : i ≡ length xs = ap (λ (q : ℕ × ℕ). q.0) v in
      let read = get_or_default d (length d - 1 - length xs) b.now 0 (omega (arith, l.0, length-back d)) in
      (j, ap (λ (q : ℕ × ℕ). q.1) v ∙ read ∙ rw j)

  -- after the last
  pub back-end : (xs : List (ℕ × Bor ℕ)) (t u : Backwards) (r : Option (ℕ × Bor ℕ))
      → Yields turns s xs t → r ≡ None → turns t r u → length xs ≡ min 256 (length d)
  back-end xs t u r y e k = (YieldsList-end road xs t y r u e k).1 ∙ length-back d
