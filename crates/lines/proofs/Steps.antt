-- Steps over the input find its lines, however it is cut into parts. Assumes nothing.
use mathlib.Core.Bool.{Bool, true, false, cond}
use mathlib.Core.List.{List, [], ◌∷◌, ◌++◌, append_assoc, append-nil}
use mathlib.Core.Path.{◌≡◌, refl, sym, ap, ◌∙◌}
use Prim.Native.Nat.{ℕ, suc, ◌+◌, ◌≤◌, ◌<◌}
use native.Mathlib.Nat.{suc-add}
use native.Mathlib.Omega.{arith}
use borrow.Author.Tests.{lt-ltb, ltb-true, ltb-false}
use lib.Dec.{eqb, ltb, leb-suc-suc}
use lib.ListN.{length, drop, drop_of_length-le}
use Rattle.lines.specs.Input.{NEWLINE, front}
use Rattle.lines.specs.Reading.{MOST, fresh, taken, advanced, finished, begun}
use Rattle.lines.specs.Telling.{next_line}
use Rattle.lines.specs.declared.Line.{Line}
use Rattle.lines.specs.declared.Step.{Step}
use Rattle.lines.proofs.Parts.{taken-append, taken_nothing}

-- ---- one step

-- whether a line ends in the input
ends : List ℕ → Bool
ends l = ltb (length (front l)) (length l)

-- what is left of the input behind that line
rest : List ℕ → List ℕ
rest l = drop (cond (ends l) (length (front l) + 1) (length (front l))) l

-- a newline in front ends the line
ends_here : (b : ℕ) (l : List ℕ) → eqb b NEWLINE ≡ true → ends (b ∷ l) ≡ true
unfolding ends front
ends_here b l e = rw e (lt-ltb 0 (suc (length l)) (omega arith))

-- and leaves what stands behind it
rest_here : (b : ℕ) (l : List ℕ) → eqb b NEWLINE ≡ true → rest (b ∷ l) ≡ l
unfolding rest front
rest_here b l e = rw (ends_here b l e, e)

-- another byte in front leaves it to the others
ends_later : (b : ℕ) (l : List ℕ) → eqb b NEWLINE ≡ false → ends (b ∷ l) ≡ ends l
unfolding ends front
ends_later b l e = rw e (leb-suc-suc (suc (length (front l))) (length l))

-- and what is left too
rest_later : (b : ℕ) (l : List ℕ) → eqb b NEWLINE ≡ false → rest (b ∷ l) ≡ rest l
unfolding rest front
rest_later b l e = rw (ends_later b l e, e) (by (ends l))
  where
    by : (t : Bool)
        → drop (cond t (suc (length (front l)) + 1) (suc (length (front l)))) (b ∷ l)
        ≡ drop (cond t (length (front l) + 1) (length (front l))) l
    by true = rw suc-add
    by false = refl

-- nothing ends, and nothing is left
ends-none : ends [] ≡ false
unfolding ends front
ends-none = refl

-- of an empty input
rest-none : rest [] ≡ []
unfolding rest ends front
rest-none = refl

-- what is found byte by byte, with g for a line that ends, is found in steps
module _ {X : Type 0} (f : Line → List ℕ → X) (g : Line → X → X)
    (turns : (line : Line) (b : ℕ) (l : List ℕ)
    → f line (b ∷ l) ≡ cond (eqb b NEWLINE) (g line (f fresh l)) (f (taken line (b ∷ [])) l)) where
  -- of a line that has all before the newline in l
  past : Line → List ℕ → X
  past line l = cond (ends l) (g line (f fresh (rest l))) (f line (rest l))

  -- a newline in front
  past_here : (line : Line) (b : ℕ) (l : List ℕ) → eqb b NEWLINE ≡ true → g line (f fresh l) ≡ past line (b ∷ l)
  unfolding past
  past_here line b l e = rw (ends_here b l e, rest_here b l e)

  -- another byte in front
  past_later : (line : Line) (b : ℕ) (l : List ℕ) → eqb b NEWLINE ≡ false → past line l ≡ past line (b ∷ l)
  unfolding past
  past_later line b l e = rw (ends_later b l e, rest_later b l e)

  -- a line that has a part already goes on to the newline
  onward : (line : Line) (a l : List ℕ) → f (taken line a) l ≡ past (taken line (a ++ front l)) l
  unfolding front past
  onward line a [] = rw (ends-none, rest-none, append-nil)
  onward line a (b ∷ l) = turns (taken line a) b l ∙ by (eqb b NEWLINE) refl (onward line (a ++ (b ∷ [])) l)
    where
      by : (t : Bool) → eqb b NEWLINE ≡ t → f (taken line (a ++ (b ∷ []))) l ≡ past (taken line ((a ++ (b ∷ [])) ++ front l)) l
          → cond t (g (taken line a) (f fresh l)) (f (taken (taken line a) (b ∷ [])) l)
          ≡ past (taken line (a ++ cond t [] (b ∷ front l))) (b ∷ l)
      by true e ih = rw append-nil (past_here (taken line a) b l e)
      by false e ih = rw (taken-append, ih, append_assoc) (past_later (taken line (a ++ (b ∷ front l))) b l e)

-- ---- what a step leaves

-- what is found of a step: by e where it ended a line, of that line and what is done with; by b of the line that is begun
abbrev pub by_step : {X : Type 0} → (Line → ℕ → X) → (Line → X) → Step → X
by_step e b (Step.Ended line used) = e line used
by_step e b (Step.Begun line) = b line

-- what it leaves of the input
abbrev pub left_of : Step → List ℕ → List ℕ
left_of (Step.Ended line used) l = drop used l
left_of (Step.Begun line) l = []

-- of a line that is counted no further than a usize goes
module _ (line : Line) (counted : line.count ≤ MOST) where
  -- after a step, the line to go on with and the rest leave begun what all of it leaves
  pub begun_advance : (l : List ℕ)
      → begun line l ≡ begun (next_line (advanced line l)) (left_of (advanced line l) l)
  unfolding begun advanced past ends rest
  begun_advance l =
      ap (λ (k : Line). begun k l) (sym (taken_nothing line counted))
      ∙ onward begun (λ _ k. k) (λ _ _ _. refl) line [] l
      ∙ by (ltb (length (front l)) (length l)) refl
    where
      by : (t : Bool) → ltb (length (front l)) (length l) ≡ t
          → cond t (begun fresh (drop (cond t (length (front l) + 1) (length (front l))) l))
          (begun (taken line (front l)) (drop (cond t (length (front l) + 1) (length (front l))) l))
          ≡ begun
          (next_line (cond t (Step.Ended (taken line (front l)) (length (front l) + 1)) (Step.Begun (taken line (front l)))))
          (left_of (cond t (Step.Ended (taken line (front l)) (length (front l) + 1)) (Step.Begun (taken line (front l)))) l)
      by true e = refl
      by false e = rw (drop_of_length-le l {i = length (front l)} (ltb-false (length (front l)) (length l) e))

  -- the line that a step ends is the first of those that end in the input; where it ends none, none does
  pub finished_advance : (l : List ℕ)
      → finished line l ≡ by_step (λ k used. k ∷ finished fresh (drop used l)) (λ k. []) (advanced line l)
  unfolding finished advanced past ends rest
  finished_advance l =
      ap (λ (k : Line). finished k l) (sym (taken_nothing line counted))
      ∙ onward finished (λ k ls. k ∷ ls) (λ _ _ _. refl) line [] l
      ∙ by (ltb (length (front l)) (length l)) refl
    where
      by : (t : Bool) → ltb (length (front l)) (length l) ≡ t
          → cond t (taken line (front l) ∷ finished fresh (drop (cond t (length (front l) + 1) (length (front l))) l))
          (finished (taken line (front l)) (drop (cond t (length (front l) + 1) (length (front l))) l))
          ≡ by_step (λ k used. k ∷ finished fresh (drop used l)) (λ k. [])
          (cond t (Step.Ended (taken line (front l)) (length (front l) + 1)) (Step.Begun (taken line (front l))))
      by true e = refl
      by false e = rw (drop_of_length-le l {i = length (front l)} (ltb-false (length (front l)) (length l) e))

-- a step that ends a line moves on, and stays inside
pub advance_moves : (line : Line) (l : List ℕ) {k : Line} {used : ℕ} → Step.Ended k used ≡ advanced line l
    → (0 < used) × (used ≤ length l)
unfolding advanced
advance_moves line l {k} {used} e = by (ltb (length (front l)) (length l)) refl e
  where
    by : (t : Bool) → ltb (length (front l)) (length l) ≡ t
        → Step.Ended k used ≡ cond t (Step.Ended (taken line (front l)) (length (front l) + 1)) (Step.Begun (taken line (front l)))
        → (0 < used) × (used ≤ length l)
    by true h d =
        let u : used ≡ length (front l) + 1 = cc in
        (omega arith, omega (arith, ltb-true (length (front l)) (length l) h))
    by false h d = cc
