-- What the MAC is worked out of, in the record where it stands: the head and the text. Assumes nothing.
use Rattle.std.proofs.Common.{◌≡◌, ℕ, ◌+◌, ◌≤◌, List, ◌++◌, length, take, drop, get_or, refl, sym, ap, ◌∙◌, arith, mul-add, length-drop, get_or-drop, drop_at}
use Rattle.std.proofs.lemmas.List.{length-take-le}
use Rattle.std.proofs.Math.Seq.{take-append-add}
use Rattle.words.specs.Lists.{table}
use Rattle.words.proofs.Lists.{length-table, get_or-table, table_ext, table-get_or, put-fits}
use Rattle.record.proofs.Header.{length-header}
use Rattle.record.specs.Limits.{tlcp_record_version}
use Rattle.programs.specs.Rule.{byte}
use Rattle.made_records.specs.Made.{head, text, headed}

-- sixteen bytes on, the rule that begins with 238 is that which begins with 94
byte_on : (i : ℕ) → byte 7 238 (16 + i) ≡ byte 7 94 i
unfolding byte
byte_on i = rw (mul-add 7 16 i) (omega arith)

-- the text behind the IV's place
text_behind : (L n : ℕ) → 16 + L ≤ n → take L (drop 16 (table (byte 7 238) n)) ≡ text L
text_behind L n h =
    let t = table (byte 7 238) n in
    let lt : length t ≡ n = length-table (byte 7 238) n in
    sym (table-get_or (drop 16 t) L (omega (arith, length-drop 16 t)))
    ∙ table_ext (λ i. get_or (drop 16 t) i 0) (byte 7 94) L
    (λ i b. get_or-drop 16 t i 0 ∙ get_or-table (byte 7 238) n (16 + i) 0 (omega arith) ∙ byte_on i)

-- the head in front of it
pub covered : (L n : ℕ) → 16 + L ≤ n → take (13 + L) (drop 3 (headed L n)) ≡ head L ++ text L
unfolding headed
covered L n h =
    let t = table (byte 7 238) n in
    let lt : length t ≡ n = length-table (byte 7 238) n in
    let lh : length (head L) ≡ 13 = length-header 0x0102030405060708 23 tlcp_record_version L refl in
    let rest : List ℕ = drop (3 + length (head L)) t in
    let split : headed L n ≡ take 3 t ++ (head L ++ rest) = put-fits 3 (head L) t (omega arith) in
    let behind : rest ≡ drop 16 t = ap (λ (k : ℕ). drop (3 + k) t) lh in
    ap (λ (l : List ℕ). take (13 + L) (drop 3 l)) split
    ∙ ap (take (13 + L)) (drop_at (take 3 t) (head L ++ rest) 3 (length-take-le 3 t (omega arith)))
    ∙ ap (λ (k : ℕ). take (k + L) (head L ++ rest)) (sym lh)
    ∙ take-append-add (head L) rest L
    ∙ ap (λ (l : List ℕ). head L ++ take L l) behind
    ∙ ap (λ (l : List ℕ). head L ++ l) (text_behind L n h)
