-- The header is thirteen bytes; and one part laid behind the other over thirteen zeros makes it. Assumes nothing.
use mathlib.Core.List.{List, [], ◌∷◌, ◌++◌, append_assoc}
use mathlib.Core.Path.{◌≡◌, ap, ◌∙◌}
use Prim.Native.Nat.{ℕ}
use native.Mathlib.Omega.{arith}
use lib.ListN.{length, set, replicate, length-append}
use Rattle.words.specs.Bytes.{be}
use Rattle.words.specs.Lists.{put}
use Rattle.words.proofs.Bytes.{length-be}
use Rattle.words.proofs.Lists.{put_whole, length-put}
use Rattle.words.proofs.Puts.{put_one, put-put}
use Rattle.record.specs.Limits.{header_len}
use Rattle.record.specs.Standard.{header}

-- thirteen bytes
pub length-header : (seq type : ℕ) (version : List ℕ) (len : ℕ) → length version ≡ 2 → length (header seq type version len) ≡ header_len
unfolding header
length-header seq type version len v =
    length-append (be 8 seq) (type ∷ (version ++ be 2 len))
    ∙ omega (arith, length-be 8 seq, length-append version (be 2 len), length-be 2 len)

-- number, type, version and length
pub header-laid : (seq type : ℕ) (version : List ℕ) (len : ℕ) → length version ≡ 2
    → put 11 (be 2 len) (put 9 version (set (put 0 (be 8 seq) (replicate 13 0)) 8 type)) ≡ header seq type version len
unfolding header
header-laid seq type version len v =
    let number = be 8 seq in
    let one = number ++ (type ∷ []) in
    let two = one ++ version in
    let zeros : List ℕ = replicate 13 0 in
    let n : length number ≡ 8 = length-be 8 seq in
    let l : length (be 2 len) ≡ 2 = length-be 2 len in
    let n1 : length one ≡ 9 = length-append number (type ∷ []) ∙ omega arith in
    let n2 : length two ≡ 11 = length-append one version ∙ omega arith in
    ap (λ (o : List ℕ). put 11 (be 2 len) (put 9 version o))
    (put_one 8 type (put 0 number zeros) (omega (arith, length-put 0 number zeros))
    ∙ put-put 0 8 number (type ∷ []) zeros (omega arith) (omega arith))
    ∙ ap (put 11 (be 2 len)) (put-put 0 9 one version zeros (omega arith) (omega arith))
    ∙ put-put 0 11 two (be 2 len) zeros (omega arith) (omega arith)
    ∙ put_whole (two ++ be 2 len) zeros (length-append two (be 2 len) ∙ omega arith)
    ∙ simp append_assoc
