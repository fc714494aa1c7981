-- The lines of an input are found however it is cut into chunks. Assumes nothing.
use mathlib.Core.Bool.{Bool, true, false, cond}
use mathlib.Core.List.{List, [], ◌∷◌, ◌++◌, map, map-append, flatten, append_assoc}
use mathlib.Core.Path.{◌≡◌, refl, sym, ap, ap₂, ◌∙◌}
use Prim.Native.Nat.{ℕ, suc, ◌+◌, ◌<◌, min}
use native.Mathlib.Omega.{arith}
use borrow.Author.Tests.{lt-ltb}
use lib.Dec.{eqb}
use lib.ListN.{length}
use Rattle.lines.specs.Input.{NEWLINE, last, lines_from, lines}
use Rattle.lines.specs.Reading.{MOST, fresh, taken, finished, begun, at_end, told_all}
use Rattle.lines.specs.Judgement.{judged_line, judged}
use Rattle.lines.specs.declared.Line.{Line}
use Rattle.lines.specs.declared.Judged.{Judged}
use Rattle.lines.proofs.Parts.{taken-append, fresh-taken, judged_whole}

-- two parts of an input leave begun what the second leaves behind the first
begun-append : (line : Line) (a b : List ℕ) → begun line (a ++ b) ≡ begun (begun line a) b
unfolding begun
begun-append line [] b = refl
begun-append line (x ∷ a) b = by (eqb x NEWLINE) (begun-append fresh a b) (begun-append (taken line (x ∷ [])) a b)
  where
    by : (t : Bool) → begun fresh (a ++ b) ≡ begun (begun fresh a) b
        → begun (taken line (x ∷ [])) (a ++ b) ≡ begun (begun (taken line (x ∷ [])) a) b
        → cond t (begun fresh (a ++ b)) (begun (taken line (x ∷ [])) (a ++ b))
        ≡ begun (cond t (begun fresh a) (begun (taken line (x ∷ [])) a)) b
    by true e f = e
    by false e f = f

-- the lines that end in two parts of an input
finished-append : (line : Line) (a b : List ℕ) → finished line (a ++ b) ≡ finished line a ++ finished (begun line a) b
unfolding finished begun
finished-append line [] b = refl
finished-append line (x ∷ a) b =
    by (eqb x NEWLINE) (finished-append fresh a b) (finished-append (taken line (x ∷ [])) a b)
  where
    by : (t : Bool) → finished fresh (a ++ b) ≡ finished fresh a ++ finished (begun fresh a) b
        → finished (taken line (x ∷ [])) (a ++ b)
        ≡ finished (taken line (x ∷ [])) a ++ finished (begun (taken line (x ∷ [])) a) b
        → cond t (line ∷ finished fresh (a ++ b)) (finished (taken line (x ∷ [])) (a ++ b))
        ≡ cond t (line ∷ finished fresh a) (finished (taken line (x ∷ [])) a)
        ++ finished (cond t (begun fresh a) (begun (taken line (x ∷ [])) a)) b
    by true e f = ap (λ (k : List Line). line ∷ k) e
    by false e f = f

-- the line begun counts at the end if it is not empty
at_end-last : (l : List ℕ) → at_end (taken fresh l) ≡ map (taken fresh) (last l)
unfolding at_end last taken fresh
at_end-last [] = refl
at_end-last (b ∷ l) = rw (lt-ltb 0 (min (0 + suc (length l)) MOST) (omega arith))

-- the lines of an input, one behind the other
finished-lines : (a l : List ℕ)
    → finished (taken fresh a) l ++ at_end (begun (taken fresh a) l) ≡ map (taken fresh) (lines_from a l)
unfolding finished begun lines_from
finished-lines a [] = at_end-last a
finished-lines a (b ∷ l) = by (eqb b NEWLINE) (finished-lines [] l) (finished-lines (a ++ (b ∷ [])) l)
  where
    by : (t : Bool) → finished (taken fresh []) l ++ at_end (begun (taken fresh []) l) ≡ map (taken fresh) (lines_from [] l)
        → finished (taken fresh (a ++ (b ∷ []))) l ++ at_end (begun (taken fresh (a ++ (b ∷ []))) l)
        ≡ map (taken fresh) (lines_from (a ++ (b ∷ [])) l)
        → cond t (taken fresh a ∷ finished fresh l) (finished (taken (taken fresh a) (b ∷ [])) l)
        ++ at_end (cond t (begun fresh l) (begun (taken (taken fresh a) (b ∷ [])) l))
        ≡ map (taken fresh) (cond t (a ∷ lines_from [] l) (lines_from (a ++ (b ∷ [])) l))
    by true e f = ap (λ (k : List Line). taken fresh a ∷ k) (rw (← fresh-taken) at e)
    by false e f = rw taken-append f

-- chunks are told of as if they came at once
told_flatten : (limit : ℕ) (line : Line) (chunks : List (List ℕ))
    → told_all limit line chunks ≡ map (judged_line limit) (finished line (flatten chunks) ++ at_end (begun line (flatten chunks)))
unfolding told_all flatten finished begun
told_flatten limit line [] = refl
told_flatten limit line (c ∷ chunks) =
    ap (λ (k : List Judged). map (judged_line limit) (finished line c) ++ k) (told_flatten limit (begun line c) chunks)
    ∙ sym (map-append (judged_line limit) (finished line c) _)
    ∙ ap (map (judged_line limit))
    (sym (append_assoc (finished line c) (finished (begun line c) (flatten chunks)) (at_end (begun (begun line c) (flatten chunks)))))
    ∙ rw (finished-append line c (flatten chunks), begun-append line c (flatten chunks))

-- each line is judged as a whole
map-judged : (limit : ℕ) (ls : List (List ℕ)) → limit < MOST
    → map (judged_line limit) (map (taken fresh) ls) ≡ map (judged limit) ls
map-judged limit [] h = refl
map-judged limit (l ∷ ls) h = ap₂ (λ (j : Judged) (k : List Judged). j ∷ k) (judged_whole limit l h) (map-judged limit ls h)

-- however an input is cut into chunks, what is told are the judgements of its lines, in order
pub told-lines : (limit : ℕ) (chunks : List (List ℕ)) → limit < MOST
    → told_all limit fresh chunks ≡ map (judged limit) (lines (flatten chunks))
unfolding lines
told-lines limit chunks h =
    told_flatten limit fresh chunks
    ∙ ap (map (judged_line limit)) (rw (← fresh-taken) at (finished-lines [] (flatten chunks)))
    ∙ map-judged limit (lines_from [] (flatten chunks)) h
