-- What closing a record leaves, write by write: the IV in front, and the part behind it enciphered. Assumes nothing.
use Rattle.std.proofs.Common.{◌≡◌, ℕ, ◌-◌, ◌≤◌, List, ◌++◌, length, take, drop, refl, ap, ◌∙◌, ap₂, append-nil, arith, length-drop, take_all, drop_of_length-le, take_at, drop_at}
use Rattle.words.specs.Lists.{put}
use Rattle.words.proofs.Lists.{put-fits}
use Rattle.cbc.specs.Cbc.{enciphered}
use Rattle.made_records.specs.Made.{iv}

-- w with the IV laid over r, q the part of it from 16 on enciphered
pub record_closed : (E : List ℕ → List ℕ) (r w q : List ℕ) → 16 ≤ length r → w ≡ put 0 iv r
    → q ≡ enciphered E iv (take (length w - 16) (drop 16 w))
    → take 16 w ++ (q ++ drop (length w - 16) (drop 16 w)) ≡ iv ++ enciphered E iv (drop 16 r)
record_closed E r w q h e qe =
    let split : w ≡ iv ++ drop 16 r = e ∙ put-fits 0 iv r h in
    let front : take 16 w ≡ iv = ap (take 16) split ∙ take_at iv (drop 16 r) 16 refl in
    let behind : drop 16 w ≡ drop 16 r = ap (drop 16) split ∙ drop_at iv (drop 16 r) 16 refl in
    let n : length (drop 16 w) ≤ length w - 16 = omega (arith, length-drop 16 w) in
    let part : take (length w - 16) (drop 16 w) ≡ drop 16 r = take_all (length w - 16) (drop 16 w) n ∙ behind in
    ap₂ (λ (a t : List ℕ). a ++ (q ++ t)) front (drop_of_length-le (drop 16 w) n)
    ∙ ap (λ (x : List ℕ). iv ++ x) (append-nil q ∙ qe ∙ ap (enciphered E iv) part)
