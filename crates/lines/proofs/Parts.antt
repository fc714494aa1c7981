-- A line that is taken in parts is the whole line, however it is cut. Assumes nothing.
use mathlib.Core.Bool.{Bool, true, false, ◌&&◌}
use mathlib.Core.List.{List, [], ◌∷◌, ◌++◌, foldl, flatten, append_assoc, append-nil}
use mathlib.Core.Path.{◌≡◌, refl, sym, ap, ◌∙◌}
use Prim.Native.Nat.{ℕ, ◌+◌, ◌≤◌, ◌<◌, min}
use native.Mathlib.Omega.{arith}
use borrow.Author.Tests.{lt-ltb, leb-true, leb-false}
use lib.Dec.{leb}
use lib.ListN.{length, length-append}
use Rattle.lines.specs.Hexadecimal.{is_hex, all_hex}
use Rattle.lines.specs.Reading.{MOST, fresh, taken}
use Rattle.lines.specs.Judgement.{judgement, judged, judged_line}
use Rattle.lines.specs.declared.Line.{Line}

-- digits in both parts
all_hex-append : (a b : List ℕ) → all_hex (a ++ b) ≡ (all_hex a && all_hex b)
unfolding all_hex
all_hex-append [] b = refl
all_hex-append (x ∷ a) b = by (is_hex x) (all_hex-append a b)
  where
    by : (t : Bool) → all_hex (a ++ b) ≡ (all_hex a && all_hex b) → (t && all_hex (a ++ b)) ≡ ((t && all_hex a) && all_hex b)
    by true e = e
    by false e = refl

-- a count that stopped stays where it is
count-stays : (n a b : ℕ) → min (min (n + a) MOST + b) MOST ≡ min (n + (a + b)) MOST
count-stays n a b = omega arith

-- three tests in either grouping
and_assoc : (s t u : Bool) → ((s && t) && u) ≡ (s && (t && u))
and_assoc true t u = refl
and_assoc false t u = refl

-- two parts are one
pub taken-append : (line : Line) (a b : List ℕ) → taken (taken line a) b ≡ taken line (a ++ b)
unfolding taken
taken-append line a b = rw (length-append, all_hex-append, and_assoc, count-stays)

-- nothing taken of nothing
pub fresh-taken : fresh ≡ taken fresh []
unfolding fresh taken all_hex
fresh-taken = refl

-- an empty part changes nothing
pub taken_nothing : (line : Line) → line.count ≤ MOST → taken line [] ≡ line
unfolding taken all_hex
taken_nothing line h = by line.count line.hex h
  where
    by : (n : ℕ) (t : Bool) → n ≤ MOST
        → ◌≡◌ {A = Line} (record { count = min (n + 0) MOST; hex = t && true }) (record { count = n; hex = t })
    by n true k = let e : min (n + 0) MOST ≡ n = omega arith in rw e
    by n false k = let e : min (n + 0) MOST ≡ n = omega arith in rw e

-- any number of parts, behind a first one
taken-behind : (a : List ℕ) (parts : List (List ℕ)) → foldl taken (taken fresh a) parts ≡ taken fresh (a ++ flatten parts)
unfolding flatten
taken-behind a [] = ap (taken fresh) (sym (append-nil a))
taken-behind a (p ∷ parts) =
    ap (λ (l : Line). foldl taken l parts) (taken-append fresh a p)
    ∙ taken-behind (a ++ p) parts
    ∙ ap (taken fresh) (append_assoc a p (flatten parts))

-- any number of parts are one
pub taken-parts : (parts : List (List ℕ)) → foldl taken fresh parts ≡ taken fresh (flatten parts)
taken-parts parts = ap (λ (l : Line). foldl taken l parts) fresh-taken ∙ taken-behind [] parts

-- the count and the mark of a line are enough to judge it, for every limit below the count's
pub judged_whole : (limit : ℕ) (l : List ℕ) → limit < MOST → judged_line limit (taken fresh l) ≡ judged limit l
unfolding judged judgement taken fresh
judged_whole limit l h = by (leb (length l) MOST) refl
  where
    by : (t : Bool) → leb (length l) MOST ≡ t
        → judgement limit (min (0 + length l) MOST) (all_hex l) ≡ judgement limit (length l) (all_hex l)
    by true e =
        let c : min (0 + length l) MOST ≡ length l = omega (arith, leb-true (length l) MOST e) in
        rw c
    by false e =
        let b : MOST < length l = leb-false (length l) MOST e in
        let c : min (0 + length l) MOST ≡ MOST = omega arith in
        rw (c, lt-ltb limit MOST h, lt-ltb limit (length l) (omega arith))

-- a line that is taken in parts is judged as the whole line is, however it is cut
pub judged_in_parts : (limit : ℕ) (parts : List (List ℕ)) → limit < MOST
    → judged_line limit (foldl taken fresh parts) ≡ judged limit (flatten parts)
judged_in_parts limit parts h = rw (taken-parts parts) (judged_whole limit (flatten parts) h)
