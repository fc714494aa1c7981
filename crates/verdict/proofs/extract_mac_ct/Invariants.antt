-- `verdict::extract_mac_ct` meets its contract. The loop's invariant: out is the MAC if its place is below i, else zeros. Assumes
-- nothing.
use Rattle.std.specs.Slice.Iter.{windows_rest}
use Rattle.verdict.proofs.Extracted.{Scan}
use Rattle.verdict.proofs.extract_mac_ct.Given as goal

abbrev pub invariant-loop-i : goal.invariant-loop-i
invariant-loop-i l =
    let it = l.i-iterator in
    Scan l.body l.plaintext_len it.count l.out (windows_rest it.iter.parts)
